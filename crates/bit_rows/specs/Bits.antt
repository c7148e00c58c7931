-- Lists of truth values, and what the calls make of them. Cited by contracts.
use Rattle.std.specs.Prelude.{◌≡◌, ℕ, ◌<◌, ◌≤◌, Bool, true, false, not, ◌||◌, ◌&&◌, List, [], ◌∷◌, length, map, slice_index_or, slice_set}

-- ---- one row

-- two lists place by place, as long as the shorter
abbrev pub zip_with : (Bool → Bool → Bool) → List Bool → List Bool → List Bool
zip_with f [] ys = []
zip_with f (x ∷ xs) [] = []
zip_with f (x ∷ xs) (y ∷ ys) = f x y ∷ zip_with f xs ys

-- the row that is true where one of the two is, or both are
abbrev pub or_bits : List Bool → List Bool → List Bool
or_bits = zip_with (λ x y. x || y)

-- the row that is true where both are
abbrev pub and_bits : List Bool → List Bool → List Bool
and_bits = zip_with (λ x y. x && y)

-- the row that is true where the first is and the second is not
abbrev pub minus_bits : List Bool → List Bool → List Bool
minus_bits = zip_with (λ x y. x && not y)

-- the row that is true where this one is not
abbrev pub not_bits : List Bool → List Bool
not_bits = map not

-- the bit of a number; past the last one it is false
abbrev pub row_bit : List Bool → ℕ → Bool
row_bit row bit = slice_index_or row bit false

-- a true bit of so many, at this number or later
abbrev pub IsTrueFrom : (ℕ → Bool) → ℕ → ℕ → ℕ → Type 0
IsTrueFrom bits len from bit = (from ≤ bit) × (bit < len) × (bits bit ≡ true)

-- no bit is true at this number or later, up to before the other
abbrev pub NoneTrue : (ℕ → Bool) → ℕ → ℕ → Type 0
NoneTrue bits from stop = (k : ℕ) → from ≤ k → k < stop → bits k ≡ false

-- ---- rows

-- the row of a number
abbrev pub row_of : List (List Bool) → ℕ → List Bool
row_of rows row = slice_index_or rows row []

-- the rows, where one has become what an operation makes of it and of a row of others
abbrev pub with_row_by : (List Bool → List Bool → List Bool) → List (List Bool) → ℕ
    → List (List Bool) → ℕ
    → List (List Bool)
with_row_by op rows row others from = slice_set rows row (op (row_of rows row) (row_of others from))

-- each row has so many bits
pub record AreEquallyLong (bits : ℕ) (rows : List (List Bool)) : Type 0 where
  pub each : (row : ℕ) → row < length rows → length (row_of rows row) ≡ bits

-- as many rows as the first, each with as many bits
pub record AreAlike (rows other : List (List Bool)) : Type 0 where
  pub len : length other ≡ length rows
  pub each : (n : ℕ) → n < length rows → length (row_of other n) ≡ length (row_of rows n)

-- each row is made of the old one and that of the other, also past the last row
abbrev pub EachRow : (List Bool → List Bool → List Bool) → List (List Bool) → List (List Bool)
    → List (List Bool)
    → Type 0
EachRow f old other new = (n : ℕ) → row_of new n ≡ f (row_of old n) (row_of other n)

-- each bit is made of the old one and that of the other, also past the last row and bit
abbrev pub EachBit : (Bool → Bool → Bool) → List (List Bool) → List (List Bool) → List (List Bool)
    → Type 0
EachBit f old other new = (n b : ℕ)
    → row_bit (row_of new n) b ≡ f (row_bit (row_of old n) b) (row_bit (row_of other n) b)

-- from this row on each bit is the opposite of the old one
abbrev pub EachBitFlipped : ℕ → List (List Bool) → List (List Bool) → Type 0
EachBitFlipped from old new = (n b : ℕ) → from ≤ n → n < length old → b < length (row_of old n)
    → row_bit (row_of new n) b ≡ not (row_bit (row_of old n) b)
