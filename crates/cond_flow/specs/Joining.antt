-- A join of two lists of what is known that is made part by part. Cited by contracts of private functions.
use Rattle.std.specs.Prelude.{◌≡◌, ◌≢◌, ℕ, ◌<◌, ◌≤◌, Bool, true, false, List, length, slice_index_or}

-- the places from one on to another are joined, the others are as they were, and it is told whether any changed
pub record JoinedBetween {K : Type 0} (join : K → K → K) (top : K) (xs ys zs : List K)
    (changed : Bool) (start stop : ℕ) : Type 0 where
  pub len : length zs ≡ length xs
  pub done : (k : ℕ) → start ≤ k → k < stop
      → slice_index_or zs k top ≡ join (slice_index_or xs k top) (slice_index_or ys k top)
  pub sooner : (k : ℕ) → k < start → slice_index_or zs k top ≡ slice_index_or xs k top
  pub rest : (k : ℕ) → stop ≤ k → slice_index_or zs k top ≡ slice_index_or xs k top
  pub same : changed ≡ false → (k : ℕ) → slice_index_or zs k top ≡ slice_index_or xs k top
  pub moved : changed ≡ true → (k : ℕ) × (slice_index_or zs k top ≢ slice_index_or xs k top)

-- the same stands in two lists from one place on to another
pub record SameItems {T : Type 0} (otherwise : T) (xs ys : List T) (start stop : ℕ) : Type 0 where
  pub each : (k : ℕ) → start ≤ k → k < stop
      → slice_index_or xs k otherwise ≡ slice_index_or ys k otherwise
