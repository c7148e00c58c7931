use Rattle.std.proofs.Common.{◌∙◌, ap, ◌||◌, nat_eq, length}
use Rattle.std.proofs.Math.Bool.{or_comm}
use Rattle.path_laws.specs.Paths.{has_bit}
use Rattle.path_laws.specs.RowLaws.{are_alike, like_rows}
use Rattle.held_assign.specs.Rows.{has_source}
use Rattle.held_assign.proofs.rows.touched_rows.Goals as goal

pub or_rows-requires : goal.or_rows-requires
or_rows-requires c = are_alike (length c.args.targets.now) (length c.args.table.now) c.in_ok-rows.rows c.args.targets.now (rw (← c.len.ensures) c.in_ok-rows.ensures.shape) c.requires.shape

pub returns : goal.returns
returns c = record {
  shape = like_rows (length c.args.targets.now) (length c.args.table.now) c.in_ok-rows.rows c.or_rows.new.self (rw (← c.len.ensures) c.in_ok-rows.ensures.shape) c.or_rows.ensures.alike;
  bits = λ n i a n_in at.
      c.or_rows.ensures.bits n i
      ∙ ap (λ b. b || has_bit c.args.targets.now i n) (c.in_ok-rows.ensures.bits n i a (rw c.len.ensures n_in) at)
      ∙ ap (λ b. has_source a n || b) (c.requires.bits n i a n_in at)
      ∙ or_comm (has_source a n) (nat_eq a.target n);
}
