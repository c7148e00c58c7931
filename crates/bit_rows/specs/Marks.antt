-- Marks for the words of rows, each of 64 bits: which of them have something that another row may not have got yet. A
-- word for which there is no mark counts as marked. Cited by contracts.
use Rattle.std.specs.Prelude.{◌≡◌, ℕ, ◌+◌, ◌/◌, ◌<◌, Bool, true, false, List, length, slice_index, slice_index_or, bit_or}
use Rattle.bit_rows.specs.Bits.{row_bit}
use Rattle.bit_rows.specs.Words.{minus_word}

-- how many words a row of n bits has
abbrev pub words_for : ℕ → ℕ
words_for n = (n + 63) / 64

-- the word in which a bit stands is marked
abbrev pub in_marked : List Bool → ℕ → Bool
in_marked marks b = slice_index_or marks (b / 64) true

-- what a row has and a second has not is in a third already, but in words that are marked
pub record AreSettled (marks from less into : List Bool) : Type 0 where
  pub each : (b : ℕ) → b < length into → in_marked marks b ≡ false → row_bit from b ≡ true
      → row_bit less b ≡ false → row_bit into b ≡ true

-- a row changed only in words that are marked, and those that were marked are
pub record AreMarked (before old after new : List Bool) : Type 0 where
  pub each : (b : ℕ) → in_marked after b ≡ false
      → (in_marked before b ≡ false) × (row_bit new b ≡ row_bit old b)

-- ---- of words

-- what words have and others have not is in a third list's already, but in words that are marked
pub record AreSettledWords (marks : List Bool) (from less into : List ℕ) : Type 0 where
  pub each : (k : ℕ) → k < length into → row_bit marks k ≡ false
      → bit_or (slice_index into k) (minus_word (slice_index from k) (slice_index less k))
      ≡ slice_index into k

-- only words that are marked changed, and those that were marked are
pub record AreMarkedWords (before : List Bool) (old : List ℕ) (after : List Bool)
    (new : List ℕ) : Type 0 where
  pub each : (k : ℕ) → row_bit after k ≡ false
      → (row_bit before k ≡ false) × (slice_index new k ≡ slice_index old k)
