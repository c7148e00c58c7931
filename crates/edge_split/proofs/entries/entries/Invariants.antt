use Rattle.std.proofs.Common.{◌≡◌, ℕ, length, min, take, slice_index}
use Rattle.node_list.specs.Lists.{times_in}
use Rattle.edge_split.proofs.Targets.{targets}
use Rattle.edge_split.proofs.entries.entries.Given as goal

abbrev pub invariant-loop-n : goal.invariant-loop-n
invariant-loop-n l = record {
  len : length l.entries.items ≡ length l.graph.nodes;
  counted : (s : ℕ) → slice_index l.entries.items s ≡ min 2 (times_in s (targets (take l.n l.graph.nodes)));
}
