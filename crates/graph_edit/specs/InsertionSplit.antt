-- Law: a split graph stays split. What entered a node enters the first of the new nodes before it, and each other
-- node of a chain, and the node after it, is entered once. For proofs only; the crates above cite them.
use Rattle.std.proofs.Common.{◌≡◌, ℕ, zero, suc, ◌+◌, ◌<◌, ◌≤◌, if◌then◌else◌, nat_eq, List, [], ◌∷◌, ◌++◌, map, length, slice_get, Some, ◌⊎◌, inl, inr, refl, sym, ap, ◌∙◌, subst, arith, append-nil, length-append}
use Rattle.std.proofs.lemmas.Bool.{cases_eq, cases_lt, eq-eqb, ne_eqb}
use Rattle.std.proofs.lemmas.Option.{slice_get_within}
use Rattle.flow_graph.specs.ListLaws.{get_left, get_right_at}
use Rattle.flow_graph.specs.declared.nodes.Node.{Node}
use Rattle.flow_graph.specs.declared.nodes.Node.TheVariants.{Skip}
use Rattle.flow_graph.specs.Graphs.{node_succs, succs_of, AllWithin, IsEdge}
use Rattle.flow_graph.specs.Edges.{leaving, edges_from, preds_among, preds_of, IsSplit}
use Rattle.flow_graph.specs.LeavingLaws.{edges_from_append}
use Rattle.flow_graph.specs.PredLaws.{preds_append}
use Rattle.graph_edit.specs.Insertions.{Insertion, Change, Rewriting, put_below, entry, olds, chains, rewritten_nodes}
use Rattle.graph_edit.specs.ChangeLaws.{rewritten_succs}
use Rattle.graph_edit.specs.InsertionNodes.{olds_length, IsNewPlace, Link, place_same, old_get, entry_is, edge_node, edge_cases}

-- ---- no edge, and at most one

-- where no successor is s, the node is no predecessor of s
none_leaving : (s k : ℕ) (succs : List ℕ) → ((slot : ℕ) → slice_get succs slot ≡ Some s → ⊥)
    → preds_among s (leaving k succs) ≡ []
none_leaving s k [] none = refl
none_leaving s k (t ∷ succs) none =
    ap (λ b. (if b then k ∷ preds_among s (leaving k succs) else preds_among s (leaving k succs))) (ne_eqb t s (λ e. none 0 (ap Some e)))
    ∙ none_leaving s k succs (λ slot. none (suc slot))

-- where no edge leads to s, it has no predecessors
none_preds : (s k : ℕ) (nodes : List Node) → ((m slot : ℕ) → IsEdge nodes m slot s → ⊥)
    → preds_among s (edges_from k nodes) ≡ []
none_preds s k [] none = refl
none_preds s k (node ∷ nodes) none =
    preds_append s (leaving k (node_succs node)) (edges_from (suc k) nodes)
    ∙ ap (λ l. l ++ preds_among s (edges_from (suc k) nodes)) (none_leaving s k (node_succs node) (none 0))
    ∙ none_preds s (suc k) nodes (λ m. none (suc m))

-- a node with one successor at most enters s by its first edge and by no other, or not at all
first_leaves : (s k : ℕ) (succs : List ℕ)
    → ((slot t : ℕ) → slice_get succs slot ≡ Some t → slot ≡ 0)
    → ((slice_get succs 0 ≡ Some s) × (length (preds_among s (leaving k succs)) ≤ 1))
    ⊎ ((slot : ℕ) → slice_get succs slot ≡ Some s → ⊥)
first_leaves s k [] single = inr (λ slot e. cc)
first_leaves s k (t ∷ u ∷ succs) single = absurd (omega (arith, single 1 u refl))
first_leaves s k (t ∷ []) single = elim (cases_eq t s) [
  | inl same ↦ let one = ap (λ b. length (if b then k ∷ [] else [])) (eq-eqb t s same) in inl (ap Some same, omega (arith, one))
  | inr differ ↦ inr (λ slot e. other differ slot e)
]
  where
    other : (t ≡ s → ⊥) → (slot : ℕ) → slice_get (t ∷ []) slot ≡ Some s → ⊥
    other differ zero e = differ (cc)
    other differ (suc slot) e = cc

-- where each node has at most one successor, and no two have this one
few_preds : (s k : ℕ) (nodes : List Node) → ((m slot t : ℕ) → IsEdge nodes m slot t → slot ≡ 0)
    → ((m n : ℕ) → IsEdge nodes m 0 s → IsEdge nodes n 0 s → m ≡ n)
    → length (preds_among s (edges_from k nodes)) ≤ 1
few_preds s k [] single same = omega arith
few_preds s k (node ∷ nodes) single same =
    let front = leaving k (node_succs node) in
    let back = edges_from (suc k) nodes in
    let both = ap {B = ℕ} length (preds_append s front back) in
    let sum = length-append (preds_among s front) (preds_among s back) in
    elim (first_leaves s k (node_succs node) (single 0)) [
      | inl one ↦
          let none = ap {B = ℕ} length (none_preds s (suc k) nodes (λ m slot e. later m slot e one.0)) in
          omega (arith, both, sum, none, one.1)
      | inr not ↦
          let none = ap {B = ℕ} length (none_leaving s k (node_succs node) not) in
          omega (arith, both, sum, none, few_preds s (suc k) nodes (λ m. single (suc m)) (λ m n e e'. (let is = same (suc m) (suc n) e e' in omega (arith, is))))
    ]
  where
    later : (m slot : ℕ) → IsEdge nodes m slot s → slice_get (node_succs node) 0 ≡ Some s → ⊥
    later m slot e one =
        let zero_is = single (suc m) slot s e in
        let is = same 0 (suc m) one (subst (λ q. IsEdge nodes m q s) zero_is e) in
        omega (arith, is)

-- ---- other successors

module _ (changes : ℕ → Change) (to : ℕ → ℕ) (s t : ℕ) where
  moved_leaving : (k : ℕ) (succs : List ℕ)
      → ((slot u : ℕ) → slice_get succs slot ≡ Some u → nat_eq (to u) s ≡ nat_eq u t)
      → preds_among s (leaving k (map to succs)) ≡ preds_among t (leaving k succs)
  moved_leaving k [] as_before = refl
  moved_leaving k (u ∷ succs) as_before =
      ap (λ b. (if b then k ∷ preds_among s (leaving k (map to succs)) else preds_among s (leaving k (map to succs)))) (as_before 0 u refl)
      ∙ ap (λ l. (if nat_eq u t then k ∷ l else l)) (moved_leaving k succs (λ slot. as_before (suc slot)))

  -- where the edges that led to t are those that now lead to s
  moved_preds : (k : ℕ) (nodes : List Node)
      → ((m slot u : ℕ) → IsEdge nodes m slot u → nat_eq (to u) s ≡ nat_eq u t)
      → preds_among s (edges_from k (olds changes to k nodes)) ≡ preds_among t (edges_from k nodes)
  moved_preds k [] as_before = refl
  moved_preds k (node ∷ nodes) as_before =
      ap (λ l. preds_among s (leaving k l ++ edges_from (suc k) (olds changes to (suc k) nodes))) (rewritten_succs to _ node)
      ∙ preds_append s (leaving k (map to (node_succs node))) (edges_from (suc k) (olds changes to (suc k) nodes))
      ∙ ap (λ l. l ++ preds_among s (edges_from (suc k) (olds changes to (suc k) nodes))) (moved_leaving k (node_succs node) (as_before 0))
      ∙ ap (λ l. preds_among t (leaving k (node_succs node)) ++ l) (moved_preds (suc k) nodes (λ m. as_before (suc m)))
      ∙ sym (preds_append t (leaving k (node_succs node)) (edges_from (suc k) nodes))

-- ---- entries and targets of new nodes

module _ (inserts : ℕ → List Insertion) (nodes : ℕ) where
  pub entry_same : (t u : ℕ) → t < nodes → u < nodes → entry inserts nodes t ≡ entry inserts nodes u → t ≡ u
  entry_same t u t_in u_in e = elim (entry_is inserts nodes t) [
    | inl a ↦ elim (entry_is inserts nodes u) [
      | inl b ↦ omega (arith, a.1, b.1, e)
      | inr b ↦ absurd (omega (arith, a.1, b.1, e, t_in))
    ]
    | inr a ↦ elim (entry_is inserts nodes u) [
      | inl b ↦ absurd (omega (arith, a.1, b.1, e, u_in))
      | inr b ↦ (place_same inserts (put_below inserts t) t 0 u 0 (record { within = a.0; is = omega arith }) (record { within = b.0; is = omega (arith, a.1, b.1, e) })).0
    ]
  ]

  -- a node is the entry of one of the first m, or of none
  entry_of : (s m : ℕ)
      → ((t : ℕ) × (t < m) × (entry inserts nodes t ≡ s)) ⊎ ((t : ℕ) → t < m → entry inserts nodes t ≡ s → ⊥)
  entry_of s zero = inr (λ t lt e. omega (arith, lt))
  entry_of s (suc m) = elim (entry_of s m) [
    | inl found ↦ inl (found.0, omega (arith, found.1), found.2)
    | inr none ↦ elim (cases_eq (entry inserts nodes m) s) [
      | inl is ↦ inl (m, omega arith, is)
      | inr differ ↦ inr (λ t lt e. elim (cases_lt t m) [
        | inl less ↦ none t less e
        | inr ge ↦ let last : t ≡ m = omega (arith, lt, ge) in differ (sym (ap (entry inserts nodes) last) ∙ e)
      ])
    ]
  ]

  -- where the new node of number q among them leads
  record LeadsTo (q s : ℕ) : Type 0 where
    n : ℕ
    j : ℕ
    below : n < nodes
    place : IsNewPlace inserts q n j
    link : Link n (nodes + put_below inserts n) (length (inserts n)) j s

  leads_to_no_entry : (q s t : ℕ) → LeadsTo q s → t < nodes → entry inserts nodes t ≡ s → ⊥
  leads_to_no_entry q s t l t_in e = elim (entry_is inserts nodes t) [
    | inl a ↦ elim l.link [
      | inl more ↦ omega (arith, a.1, e, more.1, t_in)
      | inr last ↦
          let same : l.n ≡ t = omega (arith, a.1, e, last.1) in
          let long = ap {B = ℕ} (λ k. length (inserts k)) same in
          omega (arith, long, a.0, l.place.within)
    ]
    | inr a ↦ elim l.link [
      | inl more ↦
          let is = place_same inserts (put_below inserts t) t 0 l.n (suc l.j) (record { within = a.0; is = omega arith }) (record { within = more.0; is = omega (arith, a.1, e, more.1) }) in
          omega (arith, is.1)
      | inr last ↦ omega (arith, a.1, e, last.1, l.below)
    ]
  ]

  leads_to_same : (q r s : ℕ) → LeadsTo q s → LeadsTo r s → q ≡ r
  leads_to_same q r s l k = elim l.link [
    | inl a ↦ elim k.link [
      | inl b ↦ omega (arith, a.1, b.1, l.place.is, k.place.is)
      | inr b ↦ absurd (omega (arith, a.1, b.1, k.below))
    ]
    | inr a ↦ elim k.link [
      | inl b ↦ absurd (omega (arith, a.1, b.1, l.below))
      | inr b ↦
          let same : l.n ≡ k.n = omega (arith, a.1, b.1) in
          let long = ap {B = ℕ} (λ n. length (inserts n)) same in
          let low = ap (put_below inserts) same in
          omega (arith, a.0, b.0, long, low, l.place.is, k.place.is)
    ]
  ]

-- ---- the nodes before each node

module _ (r : Rewriting) (nodes : List Node) (within : AllWithin nodes) where
  abbrev to : ℕ → ℕ
  to = entry r.inserts (length nodes)

  abbrev front : List Node
  front = olds r.changes to 0 nodes

  abbrev back : List Node
  back = chains r.inserts (length nodes) 0 (length nodes)

  abbrev raw : List Node
  raw = rewritten_nodes r nodes

  new_target : (m slot s : ℕ) → IsEdge back m slot s → (slot ≡ 0) × LeadsTo r.inserts (length nodes) m s
  new_target m slot s e =
      let number : length nodes + m ≡ length front + m = omega (arith, olds_length r.changes to 0 nodes) in
      let edge : IsEdge raw (length nodes + m) slot s = ap (λ o. slice_get (succs_of o) slot) (get_right_at front back (length nodes + m) m number) ∙ e in
      elim (edge_cases r nodes (length nodes + m) slot s edge) [
        | inl o ↦ let node = edge_node nodes (length nodes + m) slot o.target o.edge in absurd (omega (arith, slice_get_within nodes (length nodes + m) node.0 node.1))
        | inr w ↦
            let same : m ≡ put_below r.inserts w.new.n + w.new.j = omega (arith, w.new.at) in
            (w.first, record { n = w.new.n; j = w.new.j; below = w.new.below; place = record { within = w.new.within; is = same }; link = subst (Link w.new.n (length nodes + put_below r.inserts w.new.n) (length (r.inserts w.new.n)) w.new.j) w.is w.new.link })
      ]

  old_target : (m slot s : ℕ) → IsEdge front m slot s → (t : ℕ) × (t < length nodes) × (to t ≡ s)
  old_target m slot s e =
      let node = edge_node front m slot s e in
      let lt = slice_get_within front m node.0 node.1 in
      let edge : IsEdge raw m slot s = ap (λ o. slice_get (succs_of o) slot) (get_left front back m lt) ∙ e in
      elim (edge_cases r nodes m slot s edge) [
        | inl o ↦ (o.target, within m slot o.target o.edge, o.is)
        | inr w ↦ absurd (omega (arith, w.new.at, lt, olds_length r.changes to 0 nodes))
      ]

  preds_parts : (s : ℕ)
      → preds_of raw s ≡ preds_among s (edges_from 0 front) ++ preds_among s (edges_from (0 + length front) back)
  preds_parts s =
      ap (preds_among s) (edges_from_append 0 front back) ∙ preds_append s (edges_from 0 front) (edges_from (0 + length front) back)

  -- what enters the entry of a node is what entered the node
  pub entry_preds : (t : ℕ) → t < length nodes
      → preds_of (rewritten_nodes r nodes) (entry r.inserts (length nodes) t) ≡ preds_of nodes t
  entry_preds t lt =
      let kept = moved_preds r.changes to (to t) t 0 nodes (λ m slot u edge. same_target u (within m slot u edge)) in
      let none = none_preds (to t) (0 + length front) back (λ m slot edge. leads_to_no_entry r.inserts (length nodes) m (to t) t (new_target m slot (to t) edge).1 lt refl) in
      preds_parts (to t) ∙ ap (λ l. l ++ preds_among (to t) (edges_from (0 + length front) back)) kept ∙ ap (λ l. preds_of nodes t ++ l) none ∙ append-nil (preds_of nodes t)
    where
      same_target : (u : ℕ) → u < length nodes → nat_eq (to u) (to t) ≡ nat_eq u t
      same_target u u_in = elim (cases_eq u t) [
        | inl same ↦ eq-eqb (to u) (to t) (ap to same) ∙ sym (eq-eqb u t same)
        | inr differ ↦ ne_eqb (to u) (to t) (λ e. differ (entry_same r.inserts (length nodes) u t u_in lt e)) ∙ sym (ne_eqb u t differ)
      ]

  -- a node that is no entry is entered at most once, along a chain
  other_preds : (s : ℕ) → ((t : ℕ) → t < length nodes → to t ≡ s → ⊥) → length (preds_of raw s) ≤ 1
  other_preds s other =
      let parts = ap {B = ℕ} length (preds_parts s) in
      let sum = length-append (preds_among s (edges_from 0 front)) (preds_among s (edges_from (0 + length front) back)) in
      let none = ap {B = ℕ} length (none_preds s 0 front (λ m slot edge. (let t = old_target m slot s edge in other t.0 t.1 t.2))) in
      let few = few_preds s (0 + length front) back (λ m slot t edge. (new_target m slot t edge).0) (λ m n edge edge'. leads_to_same r.inserts (length nodes) m n s (new_target m 0 s edge).1 (new_target n 0 s edge').1) in
      omega (arith, parts, sum, none, few)

  -- a node that is entered more than once is an entry
  many_preds : (s : ℕ) → 1 < length (preds_of raw s)
      → (t : ℕ) × (t < length nodes) × (to t ≡ s) × (preds_of raw s ≡ preds_of nodes t)
  many_preds s many = elim (entry_of r.inserts (length nodes) s (length nodes)) [
    | inl found ↦ (found.0, found.1, found.2, ap (preds_of raw) (sym found.2) ∙ entry_preds found.0 found.1)
    | inr none ↦ absurd (omega (arith, many, other_preds s none))
  ]

  pub rewritten_split : IsSplit nodes → IsSplit (rewritten_nodes r nodes)
  rewritten_split split = record {
    by_skips = λ s i n lt many at.
        let t = many_preds s many in
        let skip = split.by_skips t.0 i n t.1 (subst (λ l. 1 < length l) t.3 many) (sym (ap (λ l. slice_get l i) t.3) ∙ at) in
        old_get r nodes n (Skip t.0) skip ∙ ap (λ q. Some (Skip q)) t.2;
    once = λ s i j n lt many at at'.
        let t = many_preds s many in
        split.once t.0 i j n t.1 (subst (λ l. 1 < length l) t.3 many) (sym (ap (λ l. slice_get l i) t.3) ∙ at) (sym (ap (λ l. slice_get l j) t.3) ∙ at');
  }
