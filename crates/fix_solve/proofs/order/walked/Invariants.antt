use Rattle.fix_solve.specs.OrderWalks.{IsWalk}
use Rattle.fix_solve.proofs.order.walked.Given as goal

abbrev pub invariant-loop-count : goal.invariant-loop-count
invariant-loop-count g l =
    let net = g.F.Flow.net l.flow in
    IsWalk net.nodes l.walk.nexts.items l.walk.froms.items l.walk.order.items
