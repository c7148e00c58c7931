use Rattle.path_laws.proofs.Joining.{TellStepsTo}
use Rattle.path_laws.proofs.joins.push_step.Given as goal

abbrev pub invariant-loop-number : goal.invariant-loop-number
invariant-loop-number l = TellStepsTo l.against l.graph.nodes l.bits l.rows l.node l.number l.all
