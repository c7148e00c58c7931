-- The temporaries of a placement: which expressions have one, and its number. Cited by contracts.
use Rattle.std.specs.Prelude.{◌≡◌, ℕ, zero, suc, ◌+◌, ◌<◌, Bool, false, if◌then◌else◌, ◌||◌, List, [], ◌∷◌, slice_get, slice_index_or, Some}
use Rattle.path_laws.specs.Paths.{has_bit}

-- some row has the bit
abbrev pub has_insertion : List (List Bool) → ℕ → Bool
has_insertion [] i = false
has_insertion (row ∷ rows) i = has_bit (row ∷ []) i 0 || has_insertion rows i

-- how many expressions before number i have an insertion
abbrev pub temporaries_before : List (List Bool) → ℕ → ℕ
temporaries_before rows zero = 0
temporaries_before rows (suc i) =
    temporaries_before rows i + (if has_insertion rows i then 1 else 0)

-- the temporary of expression i, where the graph has so many variables: each expression with an insertion has the next
-- number, in the order of the table
abbrev pub temporary : ℕ → List (List Bool) → ℕ → ℕ
temporary vars rows i = vars + temporaries_before rows i

-- the numbers are those of the temporaries of so many expressions
abbrev pub AreTemporaries : ℕ → ℕ → List (List Bool) → List ℕ → Type 0
AreTemporaries vars exprs rows numbers = (i : ℕ) → i < exprs
    → slice_get numbers i ≡ Some (temporary vars rows i)

-- the row has the bits of the expressions that have an insertion
abbrev pub IsInsertionRow : List (List Bool) → List Bool → Type 0
IsInsertionRow rows row = (i : ℕ) → slice_index_or row i false ≡ has_insertion rows i
