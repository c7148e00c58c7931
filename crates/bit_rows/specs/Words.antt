-- How truth values are kept: 64 to a word, the first in the lowest bit. Cited by contracts.
use Rattle.std.specs.Prelude.{◌≡◌, ◌≢◌, ℕ, ◌+◌, ◌*◌, ◌/◌, ◌%◌, ◌^◌, ◌<◌, ◌≤◌, ◌-◌, min, Bool, false, nat_eq, if◌then◌else◌, List, bit_and, bit_or, length, map, slice_index, slice_range, slice_set}
use Rattle.std.specs.List.{range_with_len}
use Rattle.std.specs.Int.{bit_at, bit_not, w64}

-- ---- bits in words

-- bit k of the words
unfoldable pub bit_of : List ℕ → ℕ → Bool
bit_of words k = nat_eq (bit_at (slice_index words (k / 64)) (k % 64)) 1

-- the first n bits
unfoldable pub bits_of : ℕ → List ℕ → List Bool
bits_of n words = map (bit_of words) (range_with_len 0 n)

-- the words are as many as n bits need, and the bits past these are not set
pub record FitsWords (n : ℕ) (words : List ℕ) : Type 0 where
  pub len : length words ≡ (n + 63) / 64
  pub small : (k : ℕ) → slice_index words k < 2 ^ 64
  pub unused : (k : ℕ) → n ≤ k → k < 64 * length words → bit_of words k ≡ false

-- ---- words made of others

-- the bits of the first word that are not set in the second
abbrev pub minus_word : ℕ → ℕ → ℕ
minus_word x y = bit_and x (bit_not w64 y)

-- each of the first `len` words is what the operator gives on the old word and on the other list's
abbrev pub EachWord : (ℕ → ℕ → ℕ) → ℕ → List ℕ → List ℕ → List ℕ → Type 0
EachWord op len old other new = (k : ℕ) → k < len
    → slice_index new k ≡ op (slice_index old k) (slice_index other k)

-- each of them is the old word with the bits that the other list has and the third has not
abbrev pub EachOrMinus : ℕ → List ℕ → List ℕ → List ℕ → List ℕ → Type 0
EachOrMinus len old other less new = (k : ℕ) → k < len
    → slice_index new k
    ≡ bit_or (slice_index old k) (minus_word (slice_index other k) (slice_index less k))

-- each is made of the old one, and of what another list's or a third one's has and a fourth one's has not
abbrev pub EachOrPassed : ℕ → List ℕ → List ℕ → List ℕ → List ℕ → List ℕ → Type 0
EachOrPassed len old other more less new = (k : ℕ) → k < len
    → slice_index new k
    ≡ bit_or (slice_index old k)
    (minus_word (bit_or (slice_index other k) (slice_index more k)) (slice_index less k))

-- each is made of the old one and another list's by the first operator, and of that and a third list's by the second
abbrev pub EachByTwo : (ℕ → ℕ → ℕ) → (ℕ → ℕ → ℕ) → ℕ → List ℕ → List ℕ → List ℕ → List ℕ → Type 0
EachByTwo op next len old other third new = (k : ℕ) → k < len
    → slice_index new k ≡ next (op (slice_index old k) (slice_index other k)) (slice_index third k)

-- after the old words stand these without the bits of others
pub record AddsWithout (old words less new : List ℕ) : Type 0 where
  pub len : length new ≡ length old + length words
  pub before : (k : ℕ) → k < length old → slice_index new k ≡ slice_index old k
  pub added : (k : ℕ) → k < length words
      → slice_index new (length old + k) ≡ minus_word (slice_index words k) (slice_index less k)

-- a word with one bit set or cleared
abbrev pub with_bit : ℕ → ℕ → Bool → ℕ
with_bit word i value = if value then bit_or word (2 ^ i) else bit_and word (bit_not w64 (2 ^ i))

-- the words with one of their bits set or cleared
abbrev pub words_with_bit : List ℕ → ℕ → Bool → List ℕ
words_with_bit words bit value =
    slice_set words (bit / 64) (with_bit (slice_index words (bit / 64)) (bit % 64) value)

-- the bits of the word of this number that stand below n, all set
abbrev pub used_bits : ℕ → ℕ → ℕ
used_bits n word = 2 ^ min 64 (n - 64 * word) - 1

-- of so many words each bit below n is the opposite of the old one, and those past n are not set
abbrev pub AreFlipped : ℕ → ℕ → List ℕ → List ℕ → Type 0
AreFlipped n len old new = (k : ℕ) → k < len
    → slice_index new k ≡ bit_and (bit_not w64 (slice_index old k)) (used_bits n k)

-- ---- rows in words

-- the words of one row, where each row has so many
abbrev pub words_at : ℕ → List ℕ → ℕ → List ℕ
words_at stride words row = slice_range words (stride * row) (stride * row + stride)

-- so many rows of so many bits, one after the other
unfoldable pub rows_of : ℕ → ℕ → ℕ → List ℕ → List (List Bool)
rows_of rows bits stride words = map (λ row. bits_of bits (words_at stride words row)) (range_with_len 0 rows)

-- the words are as many as the rows need, and those of each row keep its bits
pub record FitsRows (rows bits stride : ℕ) (words : List ℕ) : Type 0 where
  pub all : length words ≡ stride * rows
  pub each : (row : ℕ) → row < rows → FitsWords bits (words_at stride words row)

-- the words of one row may be others, and those of the others are as before
pub record Rewritten (stride row : ℕ) (before after : List ℕ) : Type 0 where
  pub len : length after ≡ length before
  pub others : (r : ℕ) → r ≢ row → words_at stride after r ≡ words_at stride before r

-- each word of a row is made of the old one and another list's by the operator
abbrev pub EachWordOfRow : (ℕ → ℕ → ℕ) → ℕ → ℕ → List ℕ → List ℕ → List ℕ → Type 0
EachWordOfRow op stride row old other new =
    EachWord op stride (words_at stride old row) other (words_at stride new row)
