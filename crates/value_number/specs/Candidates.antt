-- Variables that may have a term. Cited by contracts of private functions.
use Rattle.std.specs.Prelude.{◌≡◌, ◌⊎◌, ℕ, ◌+◌, ◌<◌, ◌≤◌, Contains, List, length, slice_get, Option, Some, None}
use Rattle.std.specs.declared.cmp.Reverse.{Reverse}
use Rattle.std.specs.BinaryHeap.{IsHeap, heap_items, heap_len}
use Rattle.std.specs.Ordering.{nat_cmp}
use Rattle.value_number.specs.declared.candidates.Candidates.{Candidates}
use Rattle.value_number.specs.Table.{variable_number}

-- the variable is among the others
pub record IsOther (candidates : Candidates) (v : ℕ) : Type 0 where
  pub key : Reverse ℕ
  pub there : Contains (heap_items candidates.others) key
  pub is : key.0 ≡ v

-- the variable is one of them
abbrev pub IsCandidate : Candidates → ℕ → Type 0
IsCandidate candidates v = (candidates.first ≡ Some v) ⊎ IsOther candidates v

-- the first is the least
pub record AreInOrder (candidates : Candidates) : Type 0 where
  pub heap : IsHeap (λ a b. nat_cmp b.0 a.0) (heap_items candidates.others)
  pub least : (v u : ℕ) → candidates.first ≡ Some v → IsOther candidates u → v ≤ u
  pub none : (u : ℕ) → candidates.first ≡ None → IsOther candidates u → ⊥

-- 1 where there is a variable, and 0 where there is none
abbrev pub one_of : Option ℕ → ℕ
one_of None = 0
one_of (Some v) = 1

-- how many there are
abbrev pub candidate_count : Candidates → ℕ
candidate_count candidates = heap_len candidates.others + one_of candidates.first

-- each variable whose number this is is among the candidates, and the first is the least
pub record Cover (numbers : List (Option ℕ)) (number : ℕ) (candidates : Candidates) : Type 0 where
  pub order : AreInOrder candidates
  pub each : (v : ℕ) → variable_number numbers v ≡ Some number → IsCandidate candidates v

-- so it is for each number
pub record CoverAll (numbers : List (Option ℕ)) (table : List Candidates) : Type 0 where
  pub below : (v number : ℕ) → variable_number numbers v ≡ Some number → number < length table
  pub covers : (number : ℕ) (candidates : Candidates) → slice_get table number ≡ Some candidates
      → Cover numbers number candidates
