use Rattle.std.proofs.Common.{◌≡◌, ℕ, ◌<◌, ◌≤◌, length, get_or, bit_or, bit_and, w64}
use Rattle.std.specs.Int.{bit_not}
use Rattle.bit_rows.proofs.words.or_then_minus_words.Given as goal

abbrev pub invariant-loop-i : goal.invariant-loop-i
invariant-loop-i l = record {
  len : length l.into ≡ length l.initial.into;
  done : (k : ℕ) → k < l.i → get_or l.into k 0 ≡ bit_and (bit_or (get_or l.initial.into k 0) (get_or l.more k 0)) (bit_not w64 (get_or l.less k 0));
  rest : (k : ℕ) → l.i ≤ k → get_or l.into k 0 ≡ get_or l.initial.into k 0;
}
