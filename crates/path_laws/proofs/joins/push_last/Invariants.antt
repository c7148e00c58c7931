use Rattle.path_laws.proofs.Lasting.{TellLastsTo}
use Rattle.path_laws.proofs.joins.push_last.Given as goal

abbrev pub invariant-loop-number : goal.invariant-loop-number
invariant-loop-number l = TellLastsTo l.graph.nodes l.bits l.rows l.stop l.node l.number l.all
