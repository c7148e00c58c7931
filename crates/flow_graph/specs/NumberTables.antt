-- Tables of numbers. Cited by contracts.
use Rattle.std.specs.Prelude.{ℕ, List, slice_index_or}

-- the number at an index of a table; 0 past its end
abbrev pub number_at : List ℕ → ℕ → ℕ
number_at table n = slice_index_or table n 0
