-- Each node that is reached has one way from a root, on which it does not stand itself. For proofs only.
use Rattle.std.proofs.Common.{◌≡◌, ◌⊎◌, inl, inr, ℕ, zero, suc, ◌<◌, ◌≤◌, Bool, true, false, ◌||◌, nat_eq, nat_lt, List, [], ◌∷◌, length, slice_get, Some, refl, sym, ap, ◌∙◌, subst, arith}
use Rattle.std.proofs.lemmas.Bool.{cases_Bool, false≢true}
use Rattle.flow_graph.specs.declared.nodes.Node.{Node}
use Rattle.flow_graph.specs.Edges.{preds_of}
use Rattle.flow_graph.specs.EdgeLaws.{pred_has}
use Rattle.flow_graph.specs.Graphs.{Reached, at_start, along}
use Rattle.flow_graph.specs.ListLaws.{cons_same}
use Rattle.flow_graph.specs.Paths.{HasEdge}
use Rattle.value_number.specs.Roots.{is_root, FromRoot}
use Rattle.flow_graph.specs.Numbering.{IsIn}

-- the only item of a list that has at most one
only_item : (xs : List ℕ) (i m : ℕ) → length xs ≤ 1 → slice_get xs i ≡ Some m → xs ≡ m ∷ []
only_item [] i m few e = cc
only_item (x ∷ []) zero m few e = let same : x ≡ m = cc in ap (λ y. y ∷ []) same
only_item (x ∷ []) (suc i) m few e = cc
only_item (x ∷ y ∷ xs) i m few e = absurd (omega (arith, few))

module _ (nodes : List Node) where
  -- at most one edge enters a node that is no root
  few_enter : (n : ℕ) → is_root nodes n ≡ false → length (preds_of nodes n) ≤ 1
  few_enter n off = cases (nat_eq n 0) (nat_lt 1 (length (preds_of nodes n))) refl off
    where
      cases : (a b : Bool) → nat_lt 1 (length (preds_of nodes n)) ≡ b → (a || b) ≡ false → length (preds_of nodes n) ≤ 1
      cases true b e h = cc
      cases false true e h = cc
      cases false false e h = grind arith

  -- so an edge into such a node is the only one
  pub only_enters : (m n : ℕ) → is_root nodes n ≡ false → HasEdge nodes m n → preds_of nodes n ≡ m ∷ []
  only_enters m n off edge = let at =
      pred_has nodes m n edge in only_item (preds_of nodes n) at.0 m (few_enter n off) at.1

  -- a node is a root or none
  pub root_or_not : (n : ℕ) → (is_root nodes n ≡ true) ⊎ (is_root nodes n ≡ false)
  root_or_not n = cases_Bool (is_root nodes n)

  -- equal lists of one item
  head_same : {x y : ℕ} → x ∷ [] ≡ y ∷ [] → x ≡ y
  head_same e = cc

  -- a node has one way from a root
  pub one_way : (n root root' : ℕ) (before before' : List ℕ) → FromRoot nodes root n before
      → FromRoot nodes root' n before' → (root ≡ root') × (before ≡ before')
  one_way n root root' [] [] p q = (sym p.0 ∙ q.0, refl)
  one_way n root root' [] (m' ∷ before') p q = absurd (false≢true (sym q.0 ∙ p.1))
  one_way n root root' (m ∷ before) [] p q = absurd (false≢true (sym p.0 ∙ q.1))
  one_way n root root' (m ∷ before) (m' ∷ before') p q =
      let same : m ≡ m' = head_same (sym p.1 ∙ q.1) in
      let rest = one_way m root root' before before' p.2 (subst (λ k. FromRoot nodes root' k before') (sym same) q.2) in
      (rest.0, cons_same same rest.1)

  -- and each node that is reached has one
  pub some_way : (n : ℕ) → Reached nodes n → (root : ℕ) × (before : List ℕ) × FromRoot nodes root n before
  some_way n at_start = (0, [], (refl, refl))
  some_way n (along m slot k reached edge) =
      let earlier = some_way m reached in
      elim (root_or_not n) as (λ _. (root : ℕ) × (before : List ℕ) × FromRoot nodes root n before) [
        | inl on ↦ (n, [], (refl, on))
        | inr off ↦ (earlier.0, m ∷ earlier.1, (off, only_enters m n off (slot, edge), earlier.2))
      ]

  -- a node on the way has the remainder of it for its own
  rest_of_way : (n k root : ℕ) (before : List ℕ) → FromRoot nodes root n before → IsIn k before → (rest : List ℕ)
      × FromRoot nodes root k rest × (length rest < length before)
  rest_of_way n k root [] p h = absurd h
  rest_of_way n k root (m ∷ before) p (inl same) =
      (before, subst (λ j. FromRoot nodes root j before) same p.2, omega arith)
  rest_of_way n k root (m ∷ before) p (inr h) = let r =
      rest_of_way m k root before p.2 h in (r.0, r.1, omega (arith, r.2))

  -- so no node stands on its own way
  pub not_on_its_way : (n root : ℕ) (before : List ℕ) → FromRoot nodes root n before → IsIn n before → ⊥
  not_on_its_way n root before p h =
      let r = rest_of_way n n root before p h in
      let same : before ≡ r.0 = (one_way n root root before r.0 p r.1).1 in
      let equal : length before ≡ length r.0 = ap length same in
      omega (arith, r.2, equal)
