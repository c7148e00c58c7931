use Rattle.std.proofs.Common.{◌≡◌, length, subst, arith}
use Rattle.constant_args.specs.Gathered.{AreNotedBefore}
use Rattle.constant_args.proofs.gathering.all_gathered.Goals as goal

pub returns : goal.returns
returns c =
    let graphs = c.args.graphs.now.items in
    let all : c.loop-unit.unit ≡ length graphs = omega (arith, c.loop-unit-test.false, c.loop-unit.auto.unit-end) in
    subst (λ n. AreNotedBefore graphs n 0 c.loop-unit.noted.items) all c.loop-unit.invariant
