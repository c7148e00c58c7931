-- How many rows have a bit: before how many nodes an expression is inserted, how many of its uses are replaced, and on
-- how many edges its temporary is held. Cited by contracts.
use Rattle.std.specs.Prelude.{◌≡◌, ◌+◌, ◌<◌, ℕ, zero, suc, Bool, List, length, slice_index_or, if◌then◌else◌}
use Rattle.flow_graph.specs.Sums.{one_if}
use Rattle.path_laws.specs.Paths.{has_bit}

-- for how many numbers below n the test is true
abbrev pub count_below : (ℕ → Bool) → ℕ → ℕ
count_below test zero = 0
count_below test (suc n) = count_below test n + one_if (test n)

-- how many of the rows have the bit of this number
abbrev pub rows_with : List (List Bool) → ℕ → ℕ
rows_with rows b = count_below (has_bit rows b) (length rows)

-- of each of so many bits, how many rows have it
pub record AreCounts (bits : ℕ) (rows : List (List Bool)) (counts : List ℕ) : Type 0 where
  pub len : length counts ≡ bits
  pub each : (b : ℕ) → b < bits → slice_index_or counts b 0 ≡ rows_with rows b

-- so many where it is true, and none where it is not
abbrev pub only_if : Bool → ℕ → ℕ
only_if b count = if b then count else 0
