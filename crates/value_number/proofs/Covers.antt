-- Candidates for a number: what is put in and dropped, and what covers the numbers of all variables.
use Rattle.std.proofs.Common.{◌≡◌, ◌≢◌, ◌⊎◌, inl, inr, ℕ, zero, suc, ◌<◌, ◌≤◌, List, [], ◌∷◌, ◌++◌, length, length-append, slice_get, slice_index_or, slice_set, Contains, Option, Some, None, Result, Ok, Err, OnOk, refl, sym, ap, ◌∙◌, subst, arith}
use Rattle.std.specs.declared.cmp.Reverse.{Reverse}
use Rattle.std.specs.BinaryHeap.{IsHeap, heap_items}
use Rattle.std.specs.List.Sorted.{IsPermutation}
use Rattle.std.specs.declared.cmp.Ordering.{Ordering}
use Rattle.std.specs.Ordering.{nat_cmp}
use Rattle.std.proofs.lemmas.Bool.{cases_eq}
use Rattle.std.proofs.lemmas.List.{get_or-set_same, get_or-set_other, length-set}
use Rattle.std.proofs.lemmas.List.Sorted.{Contains-permutation, IsPermutation-sym}
use Rattle.std.proofs.lemmas.Option.{same_Some, slice_get_within}
use Rattle.flow_graph.specs.ListLaws.{get_push, set_here, set_elsewhere}
use Rattle.value_number.specs.declared.candidates.Candidates.{Candidates}
use Rattle.value_number.specs.Candidates.{AreInOrder, Cover, CoverAll, IsCandidate, IsOther}
use Rattle.value_number.specs.Table.{variable_number}

-- what a list holds is its first item or stands in the rest
contains_cons : {A : Type 0} (x : A) (xs : List A) (k : A) → Contains (x ∷ xs) k → (x ≡ k) ⊎ Contains xs k
contains_cons x xs k there = at there.0 there.1 there.2
  where
    at : (i : ℕ) → i < length (x ∷ xs) → slice_index_or (x ∷ xs) i k ≡ k → (x ≡ k) ⊎ Contains xs k
    at zero lt is = inl is
    at (suc i) lt is = inr (i, omega (arith, lt), is)

-- a value of the rest is held
contains_rest : {A : Type 0} (x : A) (xs : List A) (k : A) → Contains xs k → Contains (x ∷ xs) k
contains_rest x xs k there = (suc there.0, omega (arith, there.1), there.2)

-- the order of the heap: the greatest of it is the least variable
abbrev by_least : Reverse ℕ → Reverse ℕ → Ordering
by_least a b = nat_cmp b.0 a.0

-- ---- candidates that are put in and dropped

-- the first of none that were put in
pub only_candidate : (old new : Candidates) (v : ℕ) → AreInOrder old → old.first ≡ None → new.first ≡ Some v → new.others ≡ old.others → AreInOrder new
only_candidate old new v order none first same = record {
  heap = subst (λ h. IsHeap by_least (heap_items h)) (sym same) order.heap;
  least = λ w u at other. absurd (order.none u none (back u other));
  none = λ u at other. order.none u none (back u other);
}
  where
    back : (u : ℕ) → IsOther new u → IsOther old u
    back u other = record { key = other.key; there = subst (λ h. Contains (heap_items h) other.key) same other.there; is = other.is }

module _ (old new : Candidates) (first v lesser greater : ℕ) (key : Reverse ℕ) (is_key : key.0 ≡ greater) (was : old.first ≡ Some first) (is : new.first ≡ Some lesser) (le : lesser ≤ greater)
    (are : ((lesser ≡ first) × (greater ≡ v)) ⊎ ((lesser ≡ v) × (greater ≡ first))) (moved : IsPermutation (key ∷ heap_items old.others) (heap_items new.others)) where
  -- the greater is among the others
  put_other : IsOther new greater
  put_other = record { key = key; there = Contains-permutation (key ∷ heap_items old.others) (heap_items new.others) key moved (0, omega arith, refl); is = is_key }

  -- and so are those that were
  stays_other : (u : ℕ) → IsOther old u → IsOther new u
  stays_other u other = record { key = other.key; there = Contains-permutation (key ∷ heap_items old.others) (heap_items new.others) other.key moved (contains_rest key (heap_items old.others) other.key other.there); is = other.is }

  -- the lesser is not above the first
  low : lesser ≤ first
  low = elim are as (λ _. lesser ≤ first) [ inl p ↦ omega (arith, p.0) | inr p ↦ omega (arith, p.1, le) ]

  -- two variables, of which the first was the first: the candidates stay in order
  pub put_order : AreInOrder old → (IsHeap by_least (heap_items old.others) → IsHeap by_least (heap_items new.others)) → AreInOrder new
  put_order order heaps = record {
    heap = heaps order.heap;
    least = λ w u at other. elim (contains_cons key (heap_items old.others) other.key (Contains-permutation (heap_items new.others) (key ∷ heap_items old.others) other.key (IsPermutation-sym (key ∷ heap_items old.others) (heap_items new.others) moved) other.there)) as (λ _. w ≤ u) [
      | inl same ↦ (let one : w ≡ lesser = same_Some _ _ (sym at ∙ is) in omega (arith, one, le, sym is_key ∙ ap (λ (k : Reverse ℕ). k.0) same ∙ other.is))
      | inr there ↦ (
          let one : w ≡ lesser = same_Some _ _ (sym at ∙ is) in
          let above = order.least first u was (record { key = other.key; there = there; is = other.is }) in
          omega (arith, one, low, above))
    ];
    none = λ u at other. let bad : Some lesser ≡ None = sym is ∙ at in cc;
  }

  -- all that were candidates are
  pub put_stay : (u : ℕ) → IsCandidate old u → IsCandidate new u
  put_stay u (inr other) = inr (stays_other u other)
  put_stay u (inl at) = let same : first ≡ u = same_Some _ _ (sym was ∙ at) in elim are as (λ _. IsCandidate new u) [
    | inl p ↦ inl (is ∙ ap Some (p.0 ∙ same))
    | inr p ↦ inr (subst (IsOther new) (p.1 ∙ same) put_other)
  ]

  -- and so is the variable
  pub put_there : IsCandidate new v
  put_there = elim are as (λ _. IsCandidate new v) [
    | inl p ↦ inr (subst (IsOther new) p.1 put_other)
    | inr p ↦ inl (is ∙ ap Some p.0)
  ]

module _ (old new : Candidates) (first : new.first ≡ old.first) (items : heap_items new.others ≡ heap_items old.others) where
  -- and back
  same_back : (u : ℕ) → IsOther new u → IsOther old u
  same_back u other = record { key = other.key; there = subst (λ l. Contains l other.key) items other.there; is = other.is }

  -- and in order
  pub same_order : AreInOrder old → AreInOrder new
  same_order order = record {
    heap = subst (IsHeap by_least) (sym items) order.heap;
    least = λ v u at other. order.least v u (sym first ∙ at) (same_back u other);
    none = λ u at other. order.none u (sym first ∙ at) (same_back u other);
  }

module _ (old new : Candidates) (x : Reverse ℕ) (is : new.first ≡ Some x.0) (moved : IsPermutation (heap_items old.others) (x ∷ heap_items new.others)) where
  -- and the others stay
  pub drop_stay : (u : ℕ) → IsCandidate old u → (old.first ≡ Some u) ⊎ IsCandidate new u
  drop_stay u (inl at) = inl at
  drop_stay u (inr other) = elim (contains_cons x (heap_items new.others) other.key (Contains-permutation (heap_items old.others) (x ∷ heap_items new.others) other.key moved other.there)) as (λ _. (old.first ≡ Some u) ⊎ IsCandidate new u) [
    | inl same ↦ inr (inl (is ∙ ap (λ (k : Reverse ℕ). Some k.0) same ∙ ap Some other.is))
    | inr there ↦ inr (inr (record { key = other.key; there = there; is = other.is }))
  ]

module _ (old new : Candidates) (long : length (heap_items old.others) ≡ 0) where
  -- there are no others
  empty_other : (u : ℕ) → IsOther old u → ⊥
  empty_other u other = let within = other.there.1 in omega (arith, within, long)

  -- and it was the only one
  pub empty_stay : (u : ℕ) → IsCandidate old u → (old.first ≡ Some u) ⊎ IsCandidate new u
  empty_stay u (inl at) = inl at
  empty_stay u (inr other) = absurd (empty_other u other)

-- ---- the numbers of all variables

-- what follows from what holds where a call does not fail
pub on_ok : {T E : Type 0} {P Q : Type 0} (r : Result T E) → (P → Q) → OnOk r P → OnOk r Q
on_ok (Ok x) f p = f p
on_ok (Err e) f p = tt

module _ (numbers : List (Option ℕ)) (table : List Candidates) (all : CoverAll numbers table) where
  -- one more number, which no variable has
  pub cover_push : (candidates : Candidates) → AreInOrder candidates → CoverAll numbers (table ++ candidates ∷ [])
  cover_push candidates order = record {
    below = λ v number at. omega (arith, all.below v number at, length-append table (candidates ∷ []));
    covers = λ number found at. elim (get_push table candidates found number at) as (λ _. Cover numbers number found) [
      | inl there ↦ all.covers number found there
      | inr last ↦ record { order = subst AreInOrder last.1 order; each = λ v has. let below = all.below v number has in absurd (omega (arith, below, last.0)) }
    ];
  }

  -- other candidates for a number
  pub cover_put : (number : ℕ) (new : Candidates) → number < length table → Cover numbers number new → CoverAll numbers (slice_set table number new)
  cover_put number new lt cover = record {
    below = λ v k at. omega (arith, all.below v k at, length-set table number new);
    covers = λ k found at. elim (cases_eq k number) as (λ _. Cover numbers k found) [
      | inl same ↦ (
          let is : new ≡ found = same_Some _ _ (sym (set_here table number new lt) ∙ subst (λ j. slice_get (slice_set table number new) j ≡ Some found) same at) in
          subst (λ j. Cover numbers j found) (sym same) (subst (Cover numbers number) is cover))
      | inr apart ↦ all.covers k found (sym (set_elsewhere table number k new apart) ∙ at)
    ];
  }

  -- more of them
  pub cover_more : (number : ℕ) (old new : Candidates) → slice_get table number ≡ Some old → (AreInOrder old → AreInOrder new) → ((u : ℕ) → IsCandidate old u → IsCandidate new u) → CoverAll numbers (slice_set table number new)
  cover_more number old new here order stay =
      let cover = all.covers number old here in
      cover_put number new (slice_get_within table number old here) (record { order = order cover.order; each = λ v has. stay v (cover.each v has) })

  -- a variable that loses its number
  pub cover_lost : (x : ℕ) → x < length numbers → CoverAll (slice_set numbers x None) table
  cover_lost x lt = record {
    below = λ v number at. all.below v number (had v number at);
    covers = λ number candidates here. let cover = all.covers number candidates here in record { order = cover.order; each = λ v at. cover.each v (had v number at) };
  }
    where
      had : (v number : ℕ) → variable_number (slice_set numbers x None) v ≡ Some number → variable_number numbers v ≡ Some number
      had v number at = elim (cases_eq v x) as (λ _. variable_number numbers v ≡ Some number) [
        | inl same ↦ (let bad : None ≡ Some number = sym (get_or-set_same numbers x None None lt) ∙ subst (λ w. variable_number (slice_set numbers x None) w ≡ Some number) same at in cc)
        | inr apart ↦ sym (get_or-set_other numbers x v None None apart) ∙ at
      ]

  -- one that gets a number, for which it is a candidate
  pub cover_given : (x number : ℕ) (candidates : Candidates) → x < length numbers → slice_get table number ≡ Some candidates → IsCandidate candidates x → CoverAll (slice_set numbers x (Some number)) table
  cover_given x number candidates lt here is = record {
    below = λ v k at. elim (cases_eq v x) as (λ _. k < length table) [
      | inl same ↦ (let one = given v k same at in subst (λ j. j < length table) one (slice_get_within table number candidates here))
      | inr apart ↦ all.below v k (had v k apart at)
    ];
    covers = λ k found at. let cover = all.covers k found at in record {
      order = cover.order;
      each = λ v has. elim (cases_eq v x) as (λ _. IsCandidate found v) [
        | inl same ↦ (
            let one = given v k same has in
            let found_is : candidates ≡ found = same_Some _ _ (sym here ∙ ap (slice_get table) one ∙ at) in
            subst (IsCandidate found) (sym same) (subst (λ c. IsCandidate c x) found_is is))
        | inr apart ↦ cover.each v (had v k apart has)
      ];
    };
  }
    where
      had : (v k : ℕ) → v ≢ x → variable_number (slice_set numbers x (Some number)) v ≡ Some k → variable_number numbers v ≡ Some k
      had v k apart at = sym (get_or-set_other numbers x v (Some number) None apart) ∙ at

      given : (v k : ℕ) → v ≡ x → variable_number (slice_set numbers x (Some number)) v ≡ Some k → number ≡ k
      given v k same at = same_Some _ _ (sym (get_or-set_same numbers x (Some number) None lt) ∙ subst (λ w. variable_number (slice_set numbers x (Some number)) w ≡ Some k) same at)

-- ---- the first variable with a number
