use Rattle.std.proofs.Common.{◌≡◌, ℕ, ◌+◌, ◌++◌, map, drop, length, slice_get, Some}
use Rattle.flow_graph.specs.declared.nodes.Node.{Node}
use Rattle.flow_graph.specs.Retained.{marked_below, marked, redirected}
use Rattle.flow_graph.specs.Graphs.{SuccsBelow}
use Rattle.flow_graph.proofs.retain.retain.Given as goal

abbrev pub invariant-loop-node : goal.invariant-loop-node
invariant-loop-node l = record {
  all : l.retained.items ++ map (redirected (marked_below l.marks)) (marked (drop l.number l.marks) l.node-iterator.rest.items) ≡ map (redirected (marked_below l.marks)) (marked l.marks l.fn.nodes.items);
  count : l.number + length l.node-iterator.rest.items ≡ length l.marks;
  below : (k : ℕ) (node : Node) → slice_get l.node-iterator.rest.items k ≡ Some node → SuccsBelow (length l.marks) node;
}
