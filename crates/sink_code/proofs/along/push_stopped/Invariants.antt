use Rattle.sink_code.specs.Over.{lists_of}
use Rattle.sink_code.proofs.BlockedIn.{IsJoinedTo}
use Rattle.sink_code.proofs.along.push_stopped.Given as goal

abbrev pub invariant-loop-node : goal.invariant-loop-node
invariant-loop-node l = IsJoinedTo l.over.graph.now (lists_of l.over) l.over.table.now l.block l.list l.node-index l.rows
