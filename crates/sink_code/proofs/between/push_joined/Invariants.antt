use Rattle.sink_code.proofs.BlockedIn.{IsJoinedTo}
use Rattle.sink_code.proofs.between.push_joined.Given as goal

abbrev pub invariant-loop-node : goal.invariant-loop-node
invariant-loop-node l = IsJoinedTo l.over.graph.now l.over.blocks.now.lists l.over.table.now l.block l.list l.node-index l.rows
