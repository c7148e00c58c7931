use Rattle.std.proofs.Common.{◌≡◌, ℕ, ◌<◌, ◌≤◌, ◌-◌, length, get_or}
use Rattle.bit_rows.specs.Words.{minus_word}
use Rattle.bit_rows.proofs.words.words_without.Given as goal

abbrev pub invariant-loop-at : goal.invariant-loop-at
invariant-loop-at l = record {
  len : length l.made.items ≡ l.at;
  most : l.at ≤ l.count;
  done : (k : ℕ) → k < l.at → get_or l.made.items k 0 ≡ minus_word (get_or l.words k 0) (get_or l.less k 0);
}

abbrev pub decreases-loop-at : goal.decreases-loop-at
decreases-loop-at l = l.count - l.at
