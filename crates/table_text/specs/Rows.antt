-- The lines of rows of truth values: one bit of all of them. Cited by contracts, those of the crates above too.
use Rattle.std.specs.Prelude.{ℕ, zero, suc, ◌<◌, Bool, if◌then◌else◌, List, [], ◌∷◌, ◌++◌, codes, length}
use Rattle.bit_rows.specs.Bits.{row_bit, row_of}

-- each row has a bit of this number
abbrev pub HaveBit : List (List Bool) → ℕ → Type 0
HaveBit rows bit = (n : ℕ) → n < length rows → bit < length (row_of rows n)

-- `1` for a bit that is set, and `0` for one that is not
abbrev pub bit_byte : Bool → ℕ
bit_byte bit = if bit then 49 else 48

-- the bit of this number of the first rows, of which there are so many
abbrev pub bits_below : List (List Bool) → ℕ → ℕ → List ℕ
bits_below rows bit zero = []
bits_below rows bit (suc n) = bits_below rows bit n ++ bit_byte (row_bit (row_of rows n) bit) ∷ []

-- the bit of all rows, where a row stands for a node
abbrev pub bits_line : List (List Bool) → ℕ → List ℕ → List ℕ
bits_line rows bit title =
    codes "row " ++ bits_below rows bit (length rows) ++ codes " " ++ title ++ codes "\n"

-- and where it stands for an edge
abbrev pub edge_bits_line : List (List Bool) → ℕ → List ℕ → List ℕ
edge_bits_line rows bit title =
    codes "edges " ++ bits_below rows bit (length rows) ++ codes " " ++ title ++ codes "\n"
