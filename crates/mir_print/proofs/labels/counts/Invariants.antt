use Rattle.std.proofs.Common.{◌≡◌, ◌+◌, ◌≤◌, ℕ, length, slice_index}
use Rattle.mir_base.specs.Text.{targets_below}
use Rattle.mir_print.proofs.labels.counts.Given as goal

abbrev pub invariant-loop-mark : goal.invariant-loop-mark
invariant-loop-mark l = record {
  many : length l.counts.items ≡ l.mark-index + 1;
  last : l.below ≡ targets_below l.body l.mark-index;
  low : l.below ≤ l.mark-index;
  each : (place : ℕ) → place ≤ l.mark-index → slice_index l.counts.items place ≡ targets_below l.body place;
}
