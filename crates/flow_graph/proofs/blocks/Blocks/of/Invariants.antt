use Rattle.flow_graph.specs.Blocks.{AreStored, HasRoomForUnplaced}
use Rattle.std.proofs.Common.{◌≡◌, ◌+◌, length}
use Rattle.std.specs.Vec.{vec_capacity}
use Rattle.flow_graph.proofs.blocks.Blocks.of.Given as goal

abbrev pub invariant-loop-head : goal.invariant-loop-head
invariant-loop-head l = record {
  stored : AreStored l.graph.nodes l.head l.order.items l.starts.items l.block_of.items;
  room : HasRoomForUnplaced (length l.graph.nodes) l.order l.block_of.items;
  starts : vec_capacity l.starts ≡ length l.graph.nodes + 1;
}
