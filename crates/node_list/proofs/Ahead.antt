-- Where the link of a node in a list leads.
use Rattle.std.proofs.Common.{◌≡◌, ℕ, zero, suc, ◌+◌, ◌-◌, ◌<◌, ◌≤◌, cond, eqb, List, [], ◌∷◌, ◌++◌, length, take, drop, get_or, slice_get, Option, Some, None, MatchOption, ◌⊎◌, inl, inr, refl, sym, ap, ◌∙◌, arith, eq-eqb}
use Rattle.std.proofs.lemmas.Bool.{cases_eq, cases_lt, ne_eqb}
use Rattle.std.proofs.lemmas.List.{get_or-drop, get_or-take, get_or_past, length-drop, length-take}
use Rattle.std.proofs.lemmas.Option.{slice_get-get_or}
use Rattle.std.specs.Option.{option_or}
use Rattle.node_list.specs.Lists.{list_at, times_in, times, after_in, node_after}
use Rattle.node_list.specs.Rings.{Along, HoldLinks}
use Rattle.node_list.proofs.Counts.{times_in_cons_same, times_in_cons_other, times_in_le}
use Rattle.node_list.proofs.Keeps.{find_list}
use Rattle.node_list.proofs.Writes.{all_len, lists_of, leads_first, leads_none}

-- the link of a node leads to the number after it, or out of the list
after_along : (next prev : ℕ → ℕ) (from : ℕ) (xs : List ℕ) (stop node : ℕ) → Along next prev from (xs ++ stop ∷ []) → 0 < times_in node xs → ((after_in node xs ≡ Some (next node)) × (0 < times_in (next node) xs)) ⊎ ((after_in node xs ≡ None) × (next node ≡ stop))
after_along next prev from [] stop node a there = absurd (omega (arith, there))
after_along next prev from (x ∷ []) stop node a there = elim (cases_eq x node) [
  | inl is ↦ inr (ap (λ b. cond b (slice_get {X = ℕ} [] 0) None) (eq-eqb x node is), ap next (sym is) ∙ a.2.0)
  | inr differ ↦ let none = times_in_cons_other node x [] differ in absurd (omega (arith, there, none))
]
after_along next prev from (x ∷ y ∷ xs) stop node a there = elim (cases_eq x node) [
  | inl is ↦
      let leads : next node ≡ y = ap next (sym is) ∙ a.2.0 in
      let one = ap {B = ℕ} (λ k. times_in k (x ∷ y ∷ xs)) leads in
      let same = times_in_cons_same y xs in
      let here : times_in y (x ∷ y ∷ xs) ≡ cond (eqb x y) 1 0 + times_in y (y ∷ xs) = refl in
      inl (ap (λ b. cond b (slice_get (y ∷ xs) 0) (after_in node (y ∷ xs))) (eq-eqb x node is) ∙ ap Some (sym leads), omega (arith, one, same, here))
  | inr differ ↦
      let fewer = times_in_cons_other node x (y ∷ xs) differ in
      let skip : after_in node (x ∷ y ∷ xs) ≡ after_in node (y ∷ xs) = ap (λ b. cond b (slice_get (y ∷ xs) 0) (after_in node (y ∷ xs))) (ne_eqb x node differ) in
      elim (after_along next prev x (y ∷ xs) stop node a.2 (omega (arith, there, fewer))) [
        | inl some ↦
            let more : times_in (next node) (x ∷ y ∷ xs) ≡ cond (eqb x (next node)) 1 0 + times_in (next node) (y ∷ xs) = refl in
            inl (skip ∙ some.0, omega (arith, some.1, more))
        | inr out ↦ inr (skip ∙ out.0, out.1)
      ]
]

-- a node that stands in no list has none after it
after_absent : (node : ℕ) (xs : List ℕ) → times_in node xs ≡ 0 → after_in node xs ≡ None
after_absent node [] none = refl
after_absent node (x ∷ xs) none = elim (cases_eq x node) [
  | inl is ↦ let one : times_in node (x ∷ xs) ≡ 1 + times_in node xs = ap (λ b. cond b 1 0 + times_in node xs) (eq-eqb x node is) in absurd (omega (arith, none, one))
  | inr differ ↦
      let fewer = times_in_cons_other node x xs differ in
      ap (λ b. cond b (slice_get xs 0) (after_in node xs)) (ne_eqb x node differ) ∙ after_absent node xs (omega (arith, none, fewer))
]

-- nor in all lists
none_after : (lists : List (List ℕ)) (node : ℕ) → times lists node ≡ 0 → node_after lists node ≡ None
none_after [] node none = refl
none_after (xs ∷ lists) node none =
    ap (λ o. option_or o (node_after lists node)) (after_absent node xs (omega (arith, none))) ∙ none_after lists node (omega (arith, none))

-- it is enough to look in the list in which it stands
after_there : (lists : List (List ℕ)) (node list : ℕ) → list < length lists → 0 < times_in node (list_at lists list) → times lists node ≤ 1 → node_after lists node ≡ after_in node (list_at lists list)
after_there [] node list within there once = absurd (omega (arith, within))
after_there (xs ∷ lists) node zero within there once =
    ap (option_or (after_in node xs)) (none_after lists node (omega (arith, there, once))) ∙ or_none (after_in node xs)
  where
    or_none : (o : Option ℕ) → option_or o None ≡ o
    or_none None = refl
    or_none (Some x) = refl
after_there (xs ∷ lists) node (suc list) within there once =
    let le = times_in_le lists list node in
    ap (λ o. option_or o (node_after lists node)) (after_absent node xs (omega (arith, there, once, le)))
    ∙ after_there lists node list (omega (arith, within)) there (omega (arith, once))

module _ (nodes count : ℕ) (next prev : List ℕ) (held : HoldLinks nodes count next prev) where
  abbrev lists : List (List ℕ)
  lists = lists_of nodes count next

  abbrev link : ℕ → ℕ
  link k = get_or next k 0

  -- a node that is listed: where its link leads
  found : (node : ℕ) → 0 < times lists node → ((node_after lists node ≡ Some (link node)) × (link node < nodes)) ⊎ ((node_after lists node ≡ None) × (nodes ≤ link node))
  found node there =
      let list = find_list lists node there in
      let is = after_there lists node list.0 list.1 list.2 (held.linked.once node) in
      elim (after_along link (λ k. get_or prev k 0) (nodes + list.0) (list_at lists list.0) (nodes + list.0) node (held.linked.rings list.0 list.1) list.2) [
        | inl some ↦
            let le = times_in_le lists list.0 (link node) in
            inl (is ∙ some.0, held.linked.within (link node) (omega (arith, some.1, le)))
        | inr out ↦ inr (is ∙ out.0, omega (arith, out.1))
      ]

  -- a link to a node is to the one after it, and a link past the nodes is from the last
  pub leads_after : (node : ℕ) → 0 < times lists node → link node < nodes → node_after lists node ≡ Some (link node)
  leads_after node there lt = elim (found node there) [ inl some ↦ some.0 | inr out ↦ absurd (omega (arith, out.1, lt)) ]

  pub leads_out : (node : ℕ) → 0 < times lists node → nodes ≤ link node → node_after lists node ≡ None
  leads_out node there le = elim (found node there) [ inl some ↦ absurd (omega (arith, some.1, le)) | inr out ↦ out.0 ]

  -- the same of the first node of a list
  pub begins_with : (list : ℕ) → list < count → link (nodes + list) < nodes → slice_get (list_at lists list) 0 ≡ Some (link (nodes + list))
  begins_with list within lt =
      let r = leads_first nodes count next prev held list within lt in
      ap (λ l. slice_get l 0) r.1

  pub begins_not : (list : ℕ) → list < count → nodes ≤ link (nodes + list) → slice_get (list_at lists list) 0 ≡ None
  begins_not list within le = ap (λ l. slice_get l 0) (leads_none nodes count next prev held list within le)

  -- the links of the rings, read as one slice, are as many as there are lists
  pub firsts_length : length (take (length next - nodes) (drop nodes next)) ≡ count
  firsts_length = omega (arith, length-take {A = ℕ}, length-drop nodes next, length-take (length next - nodes) (drop nodes next), held.next_len)

  -- and give the first node of each list that has one
  pub firsts_get : (list node : ℕ) → slice_get (list_at lists list) 0 ≡ Some node → slice_get (take (length next - nodes) (drop nodes next)) list ≡ Some node
  firsts_get list node first = elim (cases_lt list count) [
    | inl within ↦ elim (cases_lt (link (nodes + list)) nodes) [
      | inl lt ↦
          let slice = take (length next - nodes) (drop nodes next) in
          let inside : list < length next - nodes = omega (arith, within, held.next_len) in
          slice_get-get_or slice list 0 (omega (arith, within, firsts_length))
          ∙ ap Some (get_or-take (length next - nodes) (drop nodes next) list 0 inside ∙ get_or-drop nodes next list 0)
          ∙ sym (begins_with list within lt)
          ∙ first
      | inr le ↦ let none = sym (begins_not list within le) ∙ first in absurd (cc)
    ]
    | inr past ↦
        let empty : list_at lists list ≡ [] = get_or_past lists list [] (omega (arith, past, all_len nodes count next prev held)) in
        let none : None ≡ Some node = sym (ap (λ (l : List ℕ). slice_get l 0) empty) ∙ first in
        absurd (cc)
  ]

-- what a link says is the node, where it leads to one
pub read_is : (o : Option ℕ) (nodes link : ℕ) (target : Option ℕ) → MatchOption o (nodes ≤ link) (λ node. (node ≡ link) × (node < nodes)) → (link < nodes → target ≡ Some link) → (nodes ≤ link → target ≡ None) → o ≡ target
read_is None nodes link target says some none = sym (none says)
read_is (Some node) nodes link target says some none = ap Some says.0 ∙ sym (some (omega (arith, says.0, says.1)))
