use Rattle.std.proofs.Common.{◌≡◌, drop, flat_map}
use Rattle.flow_graph.specs.Numbering.{seen_after}
use Rattle.unit_join.specs.CopyTables.{HasCopyNumbers}
use Rattle.unit_join.specs.Joins.{called_leaves, leaf_called}
use Rattle.unit_join.proofs.copy_table.CopyTable.of.Given as goal

abbrev pub invariant-loop-node : goal.invariant-loop-node
invariant-loop-node l = record {
  seen : seen_after l.table.units.items (flat_map (leaf_called l.leaves.units) (drop l.node-index l.nodes)) ≡ called_leaves l.leaves.units l.nodes;
  copies : HasCopyNumbers l.leaves.units l.vars l.table;
}
