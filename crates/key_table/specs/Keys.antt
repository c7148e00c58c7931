-- What a table of distinct keys has and finds. Cited by contracts.
use Rattle.std.specs.Prelude.{◌≡◌, ◌⊎◌, ◌↔◌, ℕ, Contains, List, [], ◌∷◌, ◌++◌, slice_get, Option, Some, None}

-- the list has the key at its end, where it was new
abbrev pub IsWithKey : {K : Type 0} → List K → K → List K → Type 0
IsWithKey old key new = (Contains old key × (new ≡ old))
    ⊎ ((Contains old key → ⊥) × (new ≡ old ++ key ∷ []))

-- the same of a key that may be absent, without which the list stays
abbrev pub IsWithSome : {K : Type 0} → List K → Option K → List K → Type 0
IsWithSome old None new = new ≡ old
IsWithSome old (Some key) new = IsWithKey old key new

-- the number is that of the key; there is none where the list does not have it
abbrev pub FindsKey : {K : Type 0} → List K → K → Option ℕ → Type 0
FindsKey keys key number = (i : ℕ) → (slice_get keys i ≡ Some key) ↔ (number ≡ Some i)

-- the same of a key that may be absent
abbrev pub FindsSome : {K : Type 0} → List K → Option K → Option ℕ → Type 0
FindsSome {K = K} keys key number = (i : ℕ) (k : K) → slice_get keys i ≡ Some k → (key
    ≡ Some k) ↔ (number ≡ Some i)
