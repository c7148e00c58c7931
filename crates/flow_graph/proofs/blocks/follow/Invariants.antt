use Rattle.flow_graph.specs.Blocks.{HasRoomForUnplaced, IsBlockSoFar, unplaced}
use Rattle.std.proofs.Common.{◌<◌, length}
use Rattle.flow_graph.proofs.blocks.follow.Given as goal

abbrev pub invariant-loop-next : goal.invariant-loop-next
invariant-loop-next l = record {
  there : l.node < length l.graph.nodes;
  followed : IsBlockSoFar l.graph.nodes l.head l.node l.block l.fn.order.items l.order.items l.fn.block_of l.block_of;
  room : HasRoomForUnplaced (length l.graph.nodes) l.order l.block_of;
}

abbrev pub decreases-loop-next : goal.decreases-loop-next
decreases-loop-next l = unplaced (length l.graph.nodes) l.block_of
