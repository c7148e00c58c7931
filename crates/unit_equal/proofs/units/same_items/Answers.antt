use Rattle.std.proofs.Common.{refl, arith}
use Rattle.unit_equal.proofs.EqualLists.{same_items}
use Rattle.unit_equal.proofs.units.same_items.Goals as goal

pub returns : goal.returns
returns g c = (λ all. same_items c.args.a.now c.args.b.now (omega (arith, c.if-a-b.false)) (λ k lt. c.loop-n.invariant k (omega (arith, lt, c.loop-n-test.false))), λ same. refl)
