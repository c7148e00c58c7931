use Rattle.std.proofs.Common.{◌≡◌, ℕ, ◌<◌, slice_get, Some, true}
use Rattle.flow_graph.proofs.retain.are_all_set.Given as goal

abbrev pub invariant-loop-mark : goal.invariant-loop-mark
invariant-loop-mark l = (n : ℕ) → n < l.mark-index → slice_get l.marks n ≡ Some true
