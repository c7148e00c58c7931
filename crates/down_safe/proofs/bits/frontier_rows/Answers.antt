-- The rows are made of those given by one operation on all rows after another.
use Rattle.std.proofs.Common.{◌≡◌, ◌<◌, ◌||◌, not, length, ap, arith, ◌∙◌}
use Rattle.std.proofs.Math.Bool.{or_comm}
use Rattle.bit_rows.specs.Bits.{row_of}
use Rattle.path_laws.specs.Paths.{has_bit, width}
use Rattle.down_safe.proofs.bits.frontier_rows.Goals as goal

pub returns-clause-bits : goal.returns-clause-bits
returns-clause-bits c = λ n b h l.
    let in_up : n < length c.args.available = rw c.requires.available.len h in
    let up_row : length (row_of c.args.available n) ≡ width c.args.kills.now = c.requires.available.each n h in
    let up_or_down = c.or_rows.ensures.bits n b in
    let neither = c.flip_rows.ensures.bits n b (omega arith) (rw c.or_rows.ensures.alike.len in_up) (rw (c.or_rows.ensures.alike.each n in_up, up_row) l) ∙ ap not up_or_down in
    c.or_rows-2.ensures.bits n b ∙ ap (λ x. x || has_bit c.args.kills.now b n) neither ∙ or_comm (not (has_bit c.args.available b n || has_bit c.args.anticipatable.now b n)) (has_bit c.args.kills.now b n)
