use Rattle.std.proofs.Common.{◌≡◌, ℕ, ◌+◌, length, min, take, slice_index}
use Rattle.node_list.specs.Lists.{times_in}
use Rattle.edge_split.proofs.entries.count.Given as goal

abbrev pub invariant-loop-succ : goal.invariant-loop-succ
invariant-loop-succ l = record {
  len : length l.entries.items ≡ length l.initial.entries.items;
  counted : (s : ℕ) → slice_index l.entries.items s ≡ min 2 (slice_index l.initial.entries.items s + times_in s (take l.succ-index l.succs));
}
