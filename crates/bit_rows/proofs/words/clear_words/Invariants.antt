use Rattle.std.proofs.Common.{◌≡◌, ℕ, ◌<◌, length, get_or}
use Rattle.bit_rows.proofs.words.clear_words.Given as goal

abbrev pub invariant-loop-i : goal.invariant-loop-i
invariant-loop-i l = record {
  len : length l.words ≡ length l.initial.words;
  done : (k : ℕ) → k < l.i → get_or l.words k 0 ≡ 0;
}
