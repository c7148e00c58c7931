use Rattle.mir_base.specs.ItemLaws.{one_place}
use Rattle.key_table.specs.KeyLaws.{put_stays}
use Rattle.value_number.proofs.terms.term_number.Goals as goal

pub returns-clause-stay : goal.returns-clause-stay
returns-clause-stay c = put_stays c.args.table.now c.args.key c.number.new.self c.in_ok-number.ensures.with_key

pub returns-clause-only : goal.returns-clause-only
returns-clause-only c = λ k at. one_place c.number.new.self c.len-distinct.ensures.differ k c.in_ok-number.number c.args.key at c.in_ok-number.ensures.here
