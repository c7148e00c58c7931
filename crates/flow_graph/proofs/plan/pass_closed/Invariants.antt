use Rattle.flow_graph.specs.Placing.{AreClosed}
use Rattle.flow_graph.proofs.plan.pass_closed.Given as goal

abbrev pub invariant-loop-number : goal.invariant-loop-number
invariant-loop-number l = AreClosed l.nodes l.items l.number
