use Rattle.std.proofs.Common.{length, refl, ◌∙◌}
use Rattle.path_laws.specs.RowLaws.{are_alike, like_rows}
use Rattle.std.proofs.lemmas.Option.{slice_get_within}
use Rattle.sink_code.proofs.between.coming_rows.Goals as goal

pub and_rows-requires : goal.and_rows-requires
and_rows-requires c =
    let over = c.args.over.now in
    are_alike (length over.blocks.now.lists) (length over.table.now) c.in_ok-blocked.blocked c.in_ok-into.into c.in_ok-blocked.ensures.shape c.in_ok-into.ensures.shape

pub returns : goal.returns
returns c =
    let over = c.args.over.now in
    let blocked = c.in_ok-blocked.ensures in
    record {
      into = c.in_ok-into.ensures;
      blocked = record {
        into_shape = c.in_ok-into.ensures.shape;
        shape = like_rows (length over.blocks.now.lists) (length over.table.now) c.in_ok-blocked.blocked c.and_rows.new.self blocked.shape c.and_rows.ensures.alike;
        are = λ b k list p is_block numbered.
            c.and_rows.ensures.bits b k ∙ rw (blocked.are b k list p (slice_get_within over.blocks.now.lists b list is_block) is_block numbered) refl;
      };
    }
