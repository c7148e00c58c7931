use Rattle.std.proofs.Common.{◌≡◌, ◌+◌, ◌-◌, ℕ, ◌<◌, ◌≤◌, length, slice_index_or}
use Rattle.bit_rows.specs.Bits.{row_bit}
use Rattle.live_range.specs.Counts.{only_if}
use Rattle.live_range.proofs.counting.add_where.Given as goal

abbrev pub invariant-loop-from : goal.invariant-loop-from
invariant-loop-from l = record {
  within : l.from ≤ length l.row;
  len : length l.counts ≡ length l.initial.counts;
  done : (b : ℕ) → b < l.from → slice_index_or l.counts b 0 ≡ slice_index_or l.initial.counts b 0 + only_if (row_bit l.row b) l.more;
  later : (b : ℕ) → l.from ≤ b → slice_index_or l.counts b 0 ≡ slice_index_or l.initial.counts b 0;
}

abbrev pub decreases-loop-from : goal.decreases-loop-from
decreases-loop-from l = length l.row - l.from
