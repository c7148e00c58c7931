-- Units that are marked as stale. Cited by contracts.
use Rattle.std.specs.Prelude.{◌≡◌, ℕ, Bool, true, false, List, length, slice_index_or}
use Rattle.flow_graph.specs.Numbering.{is_in}

-- the unit is marked
abbrev pub is_stale : List Bool → ℕ → Bool
is_stale stale u = slice_index_or stale u true

-- these units are marked, and no mark is taken away
pub record AllStale (units : List ℕ) (old new : List Bool) : Type 0 where
  pub long : length new ≡ length old
  pub keeps : (w : ℕ) → is_stale new w ≡ false
      → (is_stale old w ≡ false) × (is_in w units ≡ false)

-- where something was raised
pub record CallersMarked (raised : Bool) (units : List ℕ) (old new : List Bool) : Type 0 where
  pub long : length new ≡ length old
  pub keeps : (w : ℕ) → is_stale new w ≡ false
      → (is_stale old w ≡ false) × (raised ≡ true → is_in w units ≡ false)
