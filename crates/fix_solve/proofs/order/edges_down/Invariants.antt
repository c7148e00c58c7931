use Rattle.std.proofs.Common.{◌≤◌}
use Rattle.fix_solve.proofs.order.edges_down.Given as goal

abbrev pub invariant-loop-number : goal.invariant-loop-number
invariant-loop-number g l = l.down ≤ l.number
