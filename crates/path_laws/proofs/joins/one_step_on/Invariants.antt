use Rattle.path_laws.specs.Leads.{TellSteps}
use Rattle.path_laws.proofs.joins.one_step_on.Given as goal

abbrev pub invariant-loop-node : goal.invariant-loop-node
invariant-loop-node l = TellSteps l.against l.graph.nodes l.bits l.rows l.node l.all
