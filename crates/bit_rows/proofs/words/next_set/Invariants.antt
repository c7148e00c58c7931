use Rattle.std.proofs.Common.{◌≡◌, ℕ, ◌+◌, ◌*◌, ◌<◌, ◌≤◌, false}
use Rattle.bit_rows.specs.Words.{bit_of}
use Rattle.bit_rows.proofs.words.next_set.Given as goal

abbrev pub invariant-loop-i : goal.invariant-loop-i
invariant-loop-i l = record {
  start : l.start < 64;
  from : l.from ≤ 64 * l.i + l.start;
  passed : (k : ℕ) → l.from ≤ k → k < 64 * l.i + l.start → bit_of l.words k ≡ false;
}
