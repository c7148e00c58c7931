-- Keys of nodes that are taken into an empty table: all of them are there, no others, and in the order of the nodes.
use Rattle.std.proofs.Common.{◌≡◌, inl, inr, ℕ, zero, suc, ◌∷◌, ◌⊎◌, ◌<◌, List, [], slice_get, Contains, Option, None, Some, refl, sym, ap, ◌∙◌, subst, arith}
use Rattle.std.proofs.lemmas.Option.{slice_get-get_or, slice_get_within}
use Rattle.key_table.specs.Keys.{IsWithSome}
use Rattle.key_table.specs.KeyLaws.{place_of, put_keeps, put_only, put_stays, put_there}
use Rattle.key_rows.specs.Gathered.{TakesKeys}
use Rattle.key_rows.specs.KeyRows.{HasKey}
use Rattle.mir_base.specs.ItemLaws.{one_place}
use Rattle.mir_base.specs.Shapes.{AllDiffer}
use Rattle.flow_graph.specs.declared.nodes.Node.{Node}

module _ {K : Type 0} (key_of : Node → Option K) where
  -- what is there stays
  taken_keeps : (nodes : List Node) (old new : List K) (c : K) → TakesKeys key_of nodes old new → Contains old c → Contains new c
  taken_keeps [] old new c same there = subst (λ l. Contains l c) (sym same) there
  taken_keeps (node ∷ nodes) old new c taken there = taken_keeps nodes taken.0 new c taken.2 (by (key_of node) taken.1)
    where
      by : (o : Option K) → IsWithSome old o taken.0 → Contains taken.0 c
      by None same = subst (λ l. Contains l c) (sym same) there
      by (Some k) with_key = put_keeps old k taken.0 with_key c there

  -- and the key of each node comes to it
  pub taken_all : (nodes : List Node) (old new : List K) → TakesKeys key_of nodes old new → (n : ℕ) (c : K) → HasKey key_of nodes c n → Contains new c
  taken_all [] old new taken n c has = cc
  taken_all (node ∷ nodes) old new taken zero c has = taken_keeps nodes taken.0 new c taken.2 (put_there old c taken.0 (subst (λ o. IsWithSome old o taken.0) has taken.1))
  taken_all (node ∷ nodes) old new taken (suc n) c has = taken_all nodes taken.0 new taken.2 n c has

  -- one node more adds its key, and no other
  pub one_only : (node : Node) (found : Option K) (old new : List K) → IsWithSome old found new → found ≡ key_of node → (i : ℕ) (c : K) → slice_get new i ≡ Some c → (slice_get old i ≡ Some c) ⊎ (key_of node ≡ Some c)
  one_only node None old new same is i c here = inl (ap (λ l. slice_get l i) (sym same) ∙ here)
  one_only node (Some k) old new with_key is i c here = elim (put_only old k new with_key i c here) [ inl before ↦ inl before | inr same ↦ inr (sym is ∙ ap Some (sym same)) ]

  -- so a key of the table was there, or some node has it
  taken_only_on : (nodes : List Node) (old new : List K) → TakesKeys key_of nodes old new → (i : ℕ) (c : K) → slice_get new i ≡ Some c → (slice_get old i ≡ Some c) ⊎ ((n : ℕ) × HasKey key_of nodes c n)
  taken_only_on [] old new same i c here = inl (ap (λ l. slice_get l i) (sym same) ∙ here)
  taken_only_on (node ∷ nodes) old new taken i c here = elim (taken_only_on nodes taken.0 new taken.2 i c here) [
    | inl there ↦ elim (one_only node (key_of node) old taken.0 taken.1 refl i c there) [ inl before ↦ inl before | inr is ↦ inr (zero, is) ]
    | inr later ↦ inr (suc later.0, later.1)
  ]

  -- from the empty table on
  pub taken_only : (nodes : List Node) (new : List K) → TakesKeys key_of nodes [] new → (c : K) → Contains new c → (n : ℕ) × HasKey key_of nodes c n
  taken_only nodes new taken c there = let place = place_of new c there in elim (taken_only_on nodes [] new taken place.0 c place.1) [ inl before ↦ cc | inr is ↦ is ]

  -- what is there keeps its place
  taken_stays : (nodes : List Node) (old new : List K) (i : ℕ) (c : K) → TakesKeys key_of nodes old new → slice_get old i ≡ Some c → slice_get new i ≡ Some c
  taken_stays [] old new i c same here = ap (λ l. slice_get l i) same ∙ here
  taken_stays (node ∷ nodes) old new i c taken here = taken_stays nodes taken.0 new i c taken.2 (by (key_of node) taken.1)
    where
      by : (o : Option K) → IsWithSome old o taken.0 → slice_get taken.0 i ≡ Some c
      by None same = ap (λ l. slice_get l i) same ∙ here
      by (Some k) with_key = put_stays old k taken.0 with_key i c here

  -- ---- the order of the table

  module _ (new : List K) (differ : AllDiffer new) (i j : ℕ) (c d : K) (lt : i < j) (at_i : slice_get new i ≡ Some c) (at_j : slice_get new j ≡ Some d) where
    -- where a later key of the table is there, each earlier one is
    before_there : (nodes : List Node) (old : List K) → TakesKeys key_of nodes old new → Contains old d → slice_get old i ≡ Some c
    before_there nodes old taken there =
        let place = place_of old d there in
        let same : place.0 ≡ j = one_place new differ place.0 j d (taken_stays nodes old new place.0 d taken place.1) at_j in
        let within = slice_get_within old place.0 d place.1 in
        let at = slice_get-get_or old i c (omega (arith, lt, same, within)) in
        at ∙ sym (taken_stays nodes old new i _ taken at) ∙ at_i

    -- of the key of a node, each one that comes earlier in the table was there, or an earlier node has it
    taken_order_on : (nodes : List Node) (old : List K) → TakesKeys key_of nodes old new → (m : ℕ) → HasKey key_of nodes d m → (slice_get old i ≡ Some c) ⊎ ((n : ℕ) × (n < m) × HasKey key_of nodes c n)
    taken_order_on [] old taken m has = cc
    taken_order_on (node ∷ nodes) old taken zero has =
        let there = before_there nodes taken.0 taken.2 (put_there old d taken.0 (subst (λ o. IsWithSome old o taken.0) has taken.1)) in
        elim (one_only node (key_of node) old taken.0 taken.1 refl i c there) [
          | inl before ↦ inl before
          | inr is ↦ (let same : i ≡ j = one_place new differ i j d (at_i ∙ sym is ∙ has) at_j in absurd (omega (arith, lt, same)))
        ]
    taken_order_on (node ∷ nodes) old taken (suc m) has = elim (taken_order_on nodes taken.0 taken.2 m has) [
      | inl there ↦ elim (one_only node (key_of node) old taken.0 taken.1 refl i c there) [ inl before ↦ inl before | inr is ↦ inr (zero, omega arith, is) ]
      | inr later ↦ (let low = later.1 in inr (suc later.0, omega (arith, low), later.2))
    ]

  -- from the empty table on
  pub taken_order : (nodes : List Node) (new : List K) → AllDiffer new → TakesKeys key_of nodes [] new → (i j : ℕ) (c d : K) → i < j → slice_get new i ≡ Some c → slice_get new j ≡ Some d → (m : ℕ) → HasKey key_of nodes d m → (n : ℕ) × (n < m) × HasKey key_of nodes c n
  taken_order nodes new differ taken i j c d lt at_i at_j m has = elim (taken_order_on new differ i j c d lt at_i at_j nodes [] taken m has) [ inl before ↦ cc | inr is ↦ is ]
