use Rattle.std.proofs.Common.{◌≡◌, ◌+◌, length, take}
use Rattle.graph_edit.proofs.editor.with_room.Given as goal

abbrev pub invariant-loop-node : goal.invariant-loop-node
invariant-loop-node l = l.all.items ≡ take l.node-index l.nodes

abbrev pub invariant-loop : goal.invariant-loop
invariant-loop l = record {
  all : take (length l.nodes) l.all.items ≡ l.nodes;
  long : length l.all.items ≡ length l.nodes + l.counter;
}
