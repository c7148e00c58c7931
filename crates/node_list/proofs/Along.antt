-- Links that lead along a list, with a number put in or taken out.
use Rattle.std.proofs.Common.{◌≡◌, ◌≢◌, ℕ, zero, suc, ◌+◌, ◌<◌, ◌≤◌, cond, eqb, List, [], ◌∷◌, ◌++◌, length, refl, sym, ap, inl, inr, ◌⊎◌, arith, ◌∙◌, eq-eqb}
use Rattle.std.proofs.lemmas.Bool.{cases_eq, ne_eqb, lt-ltb, le-ltb}
use Rattle.node_list.specs.Lists.{times_in, inserted_before, without}
use Rattle.node_list.specs.Rings.{Along, linked_from}

-- the nodes along the links are the list that they lead along
pub linked_along : (next prev : ℕ → ℕ) (nodes most from : ℕ) (xs : List ℕ) (stop : ℕ) → Along next prev from (xs ++ stop ∷ []) → nodes ≤ stop → ((n : ℕ) → 0 < times_in n xs → n < nodes) → length xs ≤ most
    → linked_from next nodes most (next from) ≡ xs
linked_along next prev nodes zero from [] stop a end low len = refl
linked_along next prev nodes zero from (x ∷ xs) stop a end low len = absurd (let len' : suc (length xs) ≤ 0 = len in omega arith)
linked_along next prev nodes (suc most) from [] stop a end low len = rw (a.0, le-ltb stop nodes end) refl
linked_along next prev nodes (suc most) from (x ∷ xs) stop a end low len =
    rw (a.0, lt-ltb x nodes (low x (rw (eq-eqb x x refl) (omega arith))))
    (ap (λ ys. x ∷ ys) (linked_along next prev nodes most x xs stop a.2 end (λ n h. low n (omega arith)) (let len' : suc (length xs) ≤ suc most = len in omega arith)))

-- a node that is linked to itself would stand twice
pub along_moves : (next prev : ℕ → ℕ) (from : ℕ) (xs : List ℕ) (stop n : ℕ) → Along next prev from (xs ++ stop ∷ []) → next n ≡ n → n ≢ stop → 0 < times_in n xs → 2 ≤ times_in n xs
along_moves next prev from [] stop n a self d h = absurd (omega arith)
along_moves next prev from (x ∷ []) stop n a self d h = elim (cases_eq x n) as (λ _. 2 ≤ times_in n (x ∷ [])) [
  | inl e ↦ let onward : next x ≡ stop = a.2.0 in let self' : next x ≡ n = ap next e ∙ self in absurd (d (sym self' ∙ onward))
  | inr o ↦ let none : times_in n (x ∷ []) ≡ 0 = rw (ne_eqb x n o) refl in absurd (omega arith)
]
along_moves next prev from (x ∷ y ∷ xs) stop n a self d h = elim (cases_eq x n) as (λ _. 2 ≤ times_in n (x ∷ y ∷ xs)) [
  | inl e ↦ let onward : next x ≡ y = a.2.0 in let same : y ≡ n = sym onward ∙ ap next e ∙ self in rw (eq-eqb x n e, eq-eqb y n same) (omega arith)
  | inr o ↦
      let rest : times_in n (x ∷ y ∷ xs) ≡ times_in n (y ∷ xs) = rw (ne_eqb x n o) (omega arith) in
      let two : 2 ≤ times_in n (y ∷ xs) = along_moves next prev x (y ∷ xs) stop n a.2 self d (omega arith) in
      omega arith
]

-- a new number is linked in before a place
module _ (next prev next' prev' : ℕ → ℕ) (place before new : ℕ) (forward : next before ≡ place) (back : prev place ≡ before)
    (at_new : next' new ≡ place) (at_before : next' before ≡ new) (next_same : (k : ℕ) → k ≢ new → k ≢ before → next' k ≡ next k)
    (from_new : prev' new ≡ before) (from_place : prev' place ≡ new) (prev_same : (k : ℕ) → k ≢ new → k ≢ place → prev' k ≡ prev k) where
  pub along_put : (from : ℕ) (xs : List ℕ) → from ≢ new → times_in new xs ≡ 0 → Along next prev from xs → Along next' prev' from (inserted_before place new xs)
  along_put from [] d fresh a = tt
  along_put from (x ∷ xs) d fresh a =
      elim (cases_eq x new) as (λ _. Along next' prev' from (cond (eqb x place) (new ∷ x ∷ inserted_before place new xs) (x ∷ inserted_before place new xs))) [
        | inl same ↦ let one : times_in new (x ∷ xs) ≡ 1 + times_in new xs = rw (eq-eqb x new same) refl in absurd (omega arith)
        | inr other ↦
            let rest : Along next' prev' x (inserted_before place new xs) = along_put x xs other (omega arith) a.2 in
            elim (cases_eq x place) as (λ _. Along next' prev' from (cond (eqb x place) (new ∷ x ∷ inserted_before place new xs) (x ∷ inserted_before place new xs))) [
              | inl here ↦
                  let from_is : before ≡ from = sym back ∙ ap prev (sym here) ∙ a.1 in
                  rw (eq-eqb x place here) (ap next' (sym from_is) ∙ at_before, from_new ∙ from_is, (at_new ∙ sym here, ap prev' here ∙ from_place, rest))
              | inr away ↦
                  rw (ne_eqb x place away) (next_same from d (λ s. away (sym a.0 ∙ ap next s ∙ forward)) ∙ a.0, prev_same x other away ∙ a.1, rest)
            ]
      ]

-- a number is linked out, between the one before it and the one after it
module _ (next prev next' prev' : ℕ → ℕ) (node before after : ℕ) (forward : next before ≡ node) (onward : next node ≡ after) (back : prev node ≡ before) (backward : prev after ≡ node)
    (moves : after ≢ node)
    (at_before : next' before ≡ after) (next_same : (k : ℕ) → k ≢ node → k ≢ before → next' k ≡ next k)
    (from_after : prev' after ≡ before) (prev_same : (k : ℕ) → k ≢ node → k ≢ after → prev' k ≡ prev k) where
  pub along_cut : (from : ℕ) (xs : List ℕ) → from ≢ node → Along next prev from xs → Along next' prev' from (without node xs)
  along_cut from [] d a = tt
  along_cut from (x ∷ []) d a = elim (cases_eq x node) as (λ _. Along next' prev' from (cond (eqb x node) [] (x ∷ []))) [
    | inl here ↦ rw (eq-eqb x node here) tt
    | inr away ↦
        rw (ne_eqb x node away) (next_same from d (λ s. away (sym a.0 ∙ ap next s ∙ forward)) ∙ a.0, prev_same x away (λ s. d (sym a.1 ∙ ap prev s ∙ backward)) ∙ a.1, tt)
  ]
  along_cut from (x ∷ y ∷ xs) d a = elim (cases_eq x node) as (λ _. Along next' prev' from (cond (eqb x node) (without node (y ∷ xs)) (x ∷ without node (y ∷ xs)))) [
    | inl here ↦
        let from_is : before ≡ from = sym back ∙ ap prev (sym here) ∙ a.1 in
        let y_is : after ≡ y = sym onward ∙ ap next (sym here) ∙ a.2.0 in
        let away : y ≢ node = λ s. moves (y_is ∙ s) in
        rw (eq-eqb x node here, ne_eqb y node away) (ap next' (sym from_is) ∙ at_before ∙ y_is, ap prev' (sym y_is) ∙ from_after ∙ from_is, along_cut y xs away a.2.2)
    | inr away ↦
        rw (ne_eqb x node away) (next_same from d (λ s. away (sym a.0 ∙ ap next s ∙ forward)) ∙ a.0, prev_same x away (λ s. d (sym a.1 ∙ ap prev s ∙ backward)) ∙ a.1, along_cut x (y ∷ xs) away a.2)
  ]

-- where the first link leads
pub first_link : (next prev : ℕ → ℕ) (from : ℕ) (xs : List ℕ) (stop : ℕ) → Along next prev from (xs ++ stop ∷ []) → ((xs ≡ []) × (next from ≡ stop)) ⊎ ((rest : List ℕ) × (xs ≡ next from ∷ rest))
first_link next prev from [] stop a = inl (refl, a.0)
first_link next prev from (x ∷ xs) stop a = inr (xs, rw a.0 refl)
