use Rattle.path_laws.specs.Leads.{TellLasts}
use Rattle.path_laws.proofs.joins.lasts.Given as goal

abbrev pub invariant-loop-node : goal.invariant-loop-node
invariant-loop-node l = TellLasts l.graph.nodes l.bits l.rows l.stop l.node l.all
