-- Rows of truth values that are kept in columns of words, and what of one column is written. Cited by contracts.
use Rattle.std.specs.Prelude.{◌≡◌, ℕ, zero, suc, ◌+◌, ◌*◌, ◌/◌, ◌%◌, ◌<◌, Bool, List, [], ◌∷◌, ◌++◌, length, map, nat_eq, slice_index}
use Rattle.std.specs.List.{range_with_len}
use Rattle.std.specs.Int.{bit_at}
use Rattle.bit_rows.specs.Bits.{row_bit, row_of}
use Rattle.table_text.specs.Rows.{bit_byte}

-- ---- one column

-- the bit of this number of a word
abbrev pub word_bit : ℕ → ℕ → Bool
word_bit word i = nat_eq (bit_at word i) 1

-- the word has the 16 bits of row n that begin with number 16 * k
abbrev pub IsWordOf : List (List Bool) → ℕ → ℕ → ℕ → Type 0
IsWordOf rows k n word = (i : ℕ) → i < 16 → row_bit (row_of rows n) (16 * k + i) ≡ word_bit word i

-- behind the old words stands the front of column k of the rows, with the words of so many of them
pub record AddsColumn (rows : List (List Bool)) (k count : ℕ) (old new : List ℕ) : Type 0 where
  pub len : length new ≡ length old + count
  pub before : (at : ℕ) → at < length old → slice_index new at ≡ slice_index old at
  pub added : (n : ℕ) → n < count → IsWordOf rows k n (slice_index new (length old + n))

-- the bit of this number of the first words of a column, of which there are so many
abbrev pub column_below : List ℕ → ℕ → ℕ → List ℕ
column_below column bit zero = []
column_below column bit (suc n) =
    column_below column bit n ++ bit_byte (word_bit (slice_index column n) bit) ∷ []

-- ---- all columns

-- the words are the columns of the rows, one behind the other, so many
pub record AreColumns (rows : List (List Bool)) (columns : ℕ) (words : List ℕ) : Type 0 where
  pub len : length words ≡ columns * length rows
  pub each : (k n : ℕ) → k < columns → n < length rows
      → IsWordOf rows k n (slice_index words (k * length rows + n))

-- bit b of row n of so many rows
unfoldable pub line_bit : ℕ → List ℕ → ℕ → ℕ → Bool
line_bit rows words n b = word_bit (slice_index words (b / 16 * rows + n)) (b % 16)

-- row n of so many rows of so many bits
unfoldable pub line_row : ℕ → ℕ → List ℕ → ℕ → List Bool
line_row rows bits words n = map (line_bit rows words n) (range_with_len 0 bits)

-- so many rows of so many bits
unfoldable pub lines_of : ℕ → ℕ → List ℕ → List (List Bool)
lines_of rows bits words = map (line_row rows bits words) (range_with_len 0 rows)

-- the words are as many as the columns need
pub record FitsColumns (rows bits : ℕ) (words : List ℕ) : Type 0 where
  pub len : length words ≡ (bits + 15) / 16 * rows
