use Rattle.std.proofs.Common.{◌≤◌, List, drop, length}
use Rattle.flow_graph.specs.declared.nodes.Node.{Node}
use Rattle.unit_join.specs.Joins.{LeavesAreJoined}
use Rattle.unit_join.proofs.joining.joined.Given as goal

abbrev pub invariant-loop-call : goal.invariant-loop-call
invariant-loop-call l = record {
  long : length l.graph.nodes ≤ length l.nodes.items;
  goes_on : (joined : List Node) → LeavesAreJoined l.leaves.units l.table.units.items l.graph (drop l.call-index l.calls) l.nodes.items joined → LeavesAreJoined l.leaves.units l.table.units.items l.graph l.calls l.graph.nodes joined;
}
