use Rattle.std.proofs.Common.{◌≡◌, ◌+◌, ◌-◌, ℕ, ◌<◌, length, slice_index_or}
use Rattle.bit_rows.specs.Bits.{row_bit}
use Rattle.path_laws.specs.Paths.{has_bit}
use Rattle.live_range.specs.Counts.{count_below, only_if}
use Rattle.live_range.proofs.counting.count_rows.Given as goal

abbrev pub invariant-loop-n : goal.invariant-loop-n
invariant-loop-n l = record {
  len : length l.counts ≡ length l.initial.counts;
  before : length l.before ≡ length l.counts;
  newly_set : length l.newly_set ≡ length l.counts;
  each : (b : ℕ) → b < length l.counts → slice_index_or l.counts b 0 ≡ count_below (has_bit l.rows b) l.n + only_if (row_bit l.before b) (length l.rows - l.n);
}
