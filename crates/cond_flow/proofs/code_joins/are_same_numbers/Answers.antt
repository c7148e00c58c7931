use Rattle.std.proofs.Common.{pos, arith}
use Rattle.cond_flow.proofs.FactLaws.{items_more}
use Rattle.cond_flow.proofs.code_joins.are_same_numbers.Goals as goal

pub loop-i-init : goal.loop-i-init
loop-i-init c = λ on. record { each = λ k l h. absurd (omega (arith, l, h)) }

pub loop-i-preserved : goal.loop-i-preserved
loop-i-preserved c = items_more (pos 0) c.args.numbers.now c.args.others.now c.args.start c.loop-i.i c.loop-i.same c.is_number-same.result c.loop-i.invariant c.is_number-same.ensures

pub returns : goal.returns
returns c = λ on. record { each = λ k l h. (c.loop-i.invariant on).each k l (omega (arith, h, c.loop-i-test.false)) }
