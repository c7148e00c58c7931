use Rattle.std.proofs.Common.{◌≡◌, ℕ, ◌<◌, ◌≤◌, length, get_or, w64}
use Rattle.std.specs.Int.{bit_not}
use Rattle.bit_rows.proofs.words.flip_words.Given as goal

abbrev pub invariant-loop-i : goal.invariant-loop-i
invariant-loop-i l = record {
  len : length l.words ≡ length l.initial.words;
  done : (k : ℕ) → k < l.i → get_or l.words k 0 ≡ bit_not w64 (get_or l.initial.words k 0);
  rest : (k : ℕ) → l.i ≤ k → get_or l.words k 0 ≡ get_or l.initial.words k 0;
}
