use Rattle.std.proofs.Common.{arith}
use Rattle.std.proofs.lemmas.Bool.{eqb-true}
use Rattle.cond_flow.proofs.FactLaws.{items_more}
use Rattle.cond_flow.proofs.code_joins.are_same_kinds.Goals as goal

pub loop-i-init : goal.loop-i-init
loop-i-init c = λ on. record { each = λ k l h. absurd (omega (arith, l, h)) }

pub loop-i-preserved : goal.loop-i-preserved
loop-i-preserved c = items_more 0 c.args.kinds.now c.args.others.now c.args.start c.loop-i.i c.loop-i.same _ c.loop-i.invariant (eqb-true _ _)

pub returns : goal.returns
returns c = λ on. record { each = λ k l h. (c.loop-i.invariant on).each k l (omega (arith, h, c.loop-i-test.false)) }
