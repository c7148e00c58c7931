-- What is known of variables, as it is kept in two lists. Cited by contracts of private functions.
use Rattle.std.specs.Prelude.{◌≡◌, ℕ, ℤ, List, [], ◌∷◌, slice_index_or, slice_set}
use Rattle.cond_flow.specs.Rules.{Rules}

-- what kinds and numbers stand for, one by one
abbrev pub decoded_each : {K : Type 0} → (ℕ → ℤ → K) → List ℕ → List ℤ → List K
decoded_each decoded [] numbers = []
decoded_each decoded (k ∷ kinds) [] = []
decoded_each decoded (k ∷ kinds) (n ∷ numbers) = decoded k n ∷ decoded_each decoded kinds numbers

-- what is known of a variable where this path meets one on which what a code stands for is known of it
abbrev pub joined_code : {K : Type 0} → Rules K → (ℕ → ℤ → K) → List ℕ → List ℤ → ℕ → ℕ → ℤ → K
joined_code rules decoded kinds numbers i kind number =
    rules.joined (slice_index_or (decoded_each decoded kinds numbers) i (decoded kind number))
    (decoded kind number)

-- that is known then
abbrev pub JoinedCode : {K : Type 0} → Rules K → (ℕ → ℤ → K) → List ℕ → List ℤ → ℕ → ℕ → ℤ → List K
    → Type 0
JoinedCode rules decoded kinds numbers i kind number known =
    known ≡ slice_set (decoded_each decoded kinds numbers) i
    (joined_code rules decoded kinds numbers i kind number)

-- no more may be known of it then
abbrev pub StaysCode : {K : Type 0} → Rules K → (ℕ → ℤ → K) → List ℕ → List ℤ → ℕ → ℕ → ℤ → Type 0
StaysCode rules decoded kinds numbers i kind number =
    joined_code rules decoded kinds numbers i kind number
    ≡ slice_index_or (decoded_each decoded kinds numbers) i (decoded kind number)

-- where a path meets another, what is known has this kind and keeps its number, whatever the numbers are; and it is
-- another kind only where something else is known
pub record IsJoinedKind {K : Type 0} (rules : Rules K) (decoded : ℕ → ℤ → K) (kind other met : ℕ)
    : Type 0 where
  pub joined : (n m : ℤ) → rules.joined (decoded kind n) (decoded other m) ≡ decoded met n
  pub stays : (n : ℤ) → decoded met n ≡ decoded kind n → met ≡ kind
