use Rattle.fix_solve.specs.OrderWalks.{IsWalk}
use Rattle.fix_solve.proofs.order.walk_from.Given as goal

abbrev pub invariant-loop-step : goal.invariant-loop-step
invariant-loop-step g l =
    let net = g.F.Flow.net l.flow in
    IsWalk net.nodes l.walk.nexts.items l.walk.froms.items l.walk.order.items
