use Rattle.std.proofs.Common.{◌≡◌, ◌⊎◌, ℕ, ◌+◌, ◌*◌, ◌<◌, ◌≤◌, length, get_or, bit_or}
use Rattle.bit_rows.specs.Words.{minus_word}
use Rattle.bit_rows.proofs.packed.or_passed_rows.Given as goal

abbrev pub invariant-loop-i : goal.invariant-loop-i
invariant-loop-i l = record {
  len : length l.words ≡ length l.initial.words;
  done : (k : ℕ) → k < l.i → get_or l.words (l.stride * l.row + k) 0 ≡ bit_or (get_or l.initial.words (l.stride * l.row + k) 0) (minus_word (bit_or (get_or l.initial.words (l.stride * l.from + k) 0) (get_or l.more k 0)) (get_or l.less k 0));
  rest : (j : ℕ) → (j < l.stride * l.row) ⊎ (l.stride * l.row + l.i ≤ j) → get_or l.words j 0 ≡ get_or l.initial.words j 0;
}
