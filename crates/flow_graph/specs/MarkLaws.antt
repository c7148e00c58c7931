-- Laws of marks: each stays set, and a walk makes the number of nodes that are not marked less. For proofs only, here
-- and above.
use Rattle.std.proofs.Common.{◌≡◌, ℕ, zero, suc, ◌+◌, ◌<◌, Bool, true, false, List, [], ◌∷◌, length, slice_get, slice_set, slice_index_or, Some, ◌⊎◌, inl, inr, refl, sym, ap, ◌∙◌, subst, arith}
use Rattle.std.proofs.lemmas.Bool.{cases_eq}
use Rattle.std.proofs.lemmas.Option.{slice_get_within}
use Rattle.flow_graph.specs.ListLaws.{set_here, set_elsewhere}
use Rattle.flow_graph.specs.ReachWalks.{unmarked}

-- ---- one mark

-- a mark stays set
pub set_keeps : (marks : List Bool) (s n : ℕ) → slice_get marks n ≡ Some true → slice_get (slice_set marks s true) n ≡ Some true
set_keeps marks s n e = elim (cases_eq n s) [
  | inl p ↦ subst (λ m. slice_get (slice_set marks m true) n ≡ Some true) p (set_here marks n true (slice_get_within marks n true e))
  | inr other ↦ set_elsewhere marks s n true other ∙ e
]

-- what is marked after node s was marked was marked before, or is s
pub marked_before : (marks : List Bool) (s n : ℕ) → slice_get (slice_set marks s true) n ≡ Some true → (n ≡ s) ⊎ (slice_get marks n ≡ Some true)
marked_before marks s n e = elim (cases_eq n s) [ inl p ↦ inl p | inr other ↦ inr (sym (set_elsewhere marks s n true other) ∙ e) ]

-- ---- how many are not marked

-- one node fewer is unmarked
pub unmarked_set : (marks : List Bool) (s : ℕ) → s < length marks → slice_index_or marks s false ≡ false
    → unmarked (slice_set marks s true) + 1 ≡ unmarked marks
unmarked_set [] s lt e = absurd (omega (arith, lt))
unmarked_set (true ∷ marks) zero lt e = cc
unmarked_set (false ∷ marks) zero lt e = omega arith
unmarked_set (true ∷ marks) (suc s) lt e = unmarked_set marks s (omega (arith, lt)) e
unmarked_set (false ∷ marks) (suc s) lt e = omega (arith, unmarked_set marks s (omega (arith, lt)) e)

-- marking what is marked leaves as many unmarked
pub unmarked_same : (marks : List Bool) (s : ℕ) → slice_index_or marks s false ≡ true → unmarked (slice_set marks s true) ≡ unmarked marks
unmarked_same [] s e = refl
unmarked_same (true ∷ marks) zero e = refl
unmarked_same (false ∷ marks) zero e = cc
unmarked_same (true ∷ marks) (suc s) e = unmarked_same marks s e
unmarked_same (false ∷ marks) (suc s) e = ap suc (unmarked_same marks s e)
