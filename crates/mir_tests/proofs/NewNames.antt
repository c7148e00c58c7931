-- A name that none of a graph's variables has, behind their names.
use Rattle.std.proofs.Common.{◌≡◌, ◌≢◌, ℕ, ◌<◌, ◌≤◌, List, [], ◌∷◌, ◌++◌, length, slice_get, Some, inl, inr, sym, ap, ◌∙◌, arith, length-append}
use Rattle.std.proofs.lemmas.Bool.{cases_lt}
use Rattle.mir_base.specs.ItemLaws.{get_left, get_last}
use Rattle.mir_base.specs.Shapes.{AllDiffer}

-- all names differ with it
pub longer_differs : (names : List (List ℕ)) (name : List ℕ) → AllDiffer names → ((i : ℕ) → slice_get names i ≢ Some name) → AllDiffer (names ++ name ∷ [])
longer_differs names name differ new i j i_in j_in same = elim (cases_lt i (length names)) [
  | inl low ↦ elim (cases_lt j (length names)) [
    | inl low' ↦ differ i j low low' (sym (left i low) ∙ same ∙ left j low')
    | inr high ↦ absurd (new i (sym (left i low) ∙ same ∙ right j j_in high))
  ]
  | inr high ↦ elim (cases_lt j (length names)) [
    | inl low ↦ absurd (new j (sym (left j low) ∙ sym same ∙ right i i_in high))
    | inr high' ↦ last i i_in high ∙ sym (last j j_in high')
  ]
]
  where
    all : List (List ℕ)
    all = names ++ name ∷ []

    left : (k : ℕ) → k < length names → slice_get all k ≡ slice_get names k
    left k low = get_left names (name ∷ []) k low

    last : (k : ℕ) → k < length all → length names ≤ k → k ≡ length names
    last k within high = omega (arith, within, high, length-append names (name ∷ []))

    right : (k : ℕ) → k < length all → length names ≤ k → slice_get all k ≡ Some name
    right k within high = ap (slice_get all) (last k within high) ∙ get_last names name
