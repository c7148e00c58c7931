use Rattle.std.proofs.Common.{◌≡◌, ℕ, ◌+◌, ◌++◌, length, map, min, drop, slice_index}
use Rattle.flow_graph.specs.declared.nodes.Node.TheVariants.{Skip}
use Rattle.flow_graph.specs.Edges.{preds_of}
use Rattle.edge_split.specs.Split.{is_join, joins_among, rerouted}
use Rattle.edge_split.proofs.Targets.{targets}
use Rattle.edge_split.proofs.splitting.all_nodes.Given as goal

abbrev pub invariant-loop-node : goal.invariant-loop-node
invariant-loop-node l = record {
  long : length l.skips.entries.items ≡ length l.old;
  entries : (s : ℕ) → slice_index l.skips.entries.items s ≡ min 2 (length (preds_of l.old s));
  first : l.skips.first ≡ length l.old;
  nodes : l.nodes.items ++ rerouted (is_join l.old) (l.skips.first + length l.skips.made.items) (drop l.node-index l.old) ≡ rerouted (is_join l.old) (length l.old) l.old;
  made : l.skips.made.items ++ map Skip (joins_among (is_join l.old) (targets (drop l.node-index l.old))) ≡ map Skip (joins_among (is_join l.old) (targets l.old));
}
