use Rattle.std.proofs.Common.{◌≡◌, ◌++◌, ℕ, map, length, slice_get, Some}
use Rattle.flow_graph.specs.declared.nodes.Node.{Node}
use Rattle.flow_graph.specs.Graphs.{SuccsBelow}
use Rattle.flow_graph.specs.Retained.{redirected_by}
use Rattle.jump_clean.proofs.cleaning.redirect_all.Given as goal

abbrev pub invariant-loop-node : goal.invariant-loop-node
invariant-loop-node l = record {
  all : l.redirected.items ++ map (redirected_by l.to) l.node-iterator.rest.items ≡ map (redirected_by l.to) l.fn.nodes.items;
  below : (k : ℕ) (node : Node) → slice_get l.node-iterator.rest.items k ≡ Some node → SuccsBelow (length l.to) node;
}
