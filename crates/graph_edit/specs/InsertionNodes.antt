-- Laws of rewritten nodes: each is an old node, changed, or one of the new ones in the chain before an old node; and
-- which edges there are. For proofs only; the crates above cite them.
use Rattle.std.proofs.Common.{◌≡◌, ℕ, zero, suc, ◌+◌, ◌-◌, ◌<◌, ◌≤◌, List, [], ◌∷◌, ◌++◌, map, length, slice_get, Option, Some, None, option_map, ◌⊎◌, inl, inr, refl, sym, ap, ◌∙◌, subst, arith, length-append}
use Rattle.std.proofs.lemmas.Option.{slice_get-map, slice_get_within, same_Some}
use Rattle.std.proofs.lemmas.Bool.{cases_lt}
use Rattle.flow_graph.specs.ListLaws.{some_at, get_left, get_right_at}
pub use Rattle.flow_graph.specs.ListLaws.{some_at as some_at, get_left as front_get, get_right_at as back_get}
use Rattle.flow_graph.specs.declared.nodes.Node.{Node}
use Rattle.flow_graph.specs.declared.nodes.Node.TheVariants.{Assign}
use Rattle.flow_graph.specs.Graphs.{node_succs, succs_of, IsEdge}
use Rattle.flow_graph.specs.Retained.{redirected}
use Rattle.flow_graph.specs.NodeLaws.{mapped_from}
use Rattle.graph_edit.specs.ChangeLaws.{rewritten_succs}
use Rattle.flow_graph.specs.Paths.{HasEdge}
use Rattle.graph_edit.specs.Insertions.{Insertion, Change, Rewriting, changed, put_below, entry_among, entry, chain, chains, olds, rewritten_nodes}

-- ---- places of new nodes

module _ (inserts : ℕ → List Insertion) where
  -- the j-th new node before node n, counted from the first new node
  pub record IsNewPlace (q n j : ℕ) : Type 0 where
    pub within : j < length (inserts n)
    pub is : q ≡ put_below inserts n + j

  pub put_mono : (m n : ℕ) → m < n → put_below inserts m + length (inserts m) ≤ put_below inserts n
  put_mono m zero lt = absurd (omega (arith, lt))
  put_mono m (suc n) lt = elim (cases_lt m n) [
    | inl less ↦ omega (arith, put_mono m n less)
    | inr ge ↦
        let same : m ≡ n = omega (arith, lt, ge) in
        let e : put_below inserts m + length (inserts m) ≡ put_below inserts n + length (inserts n) = ap (λ k. put_below inserts k + length (inserts k)) same in
        omega (arith, e)
  ]

  -- each number has one place
  pub place_found : (m q : ℕ) → q < put_below inserts m → (n : ℕ) × (j : ℕ) × (n < m) × IsNewPlace q n j
  place_found zero q lt = absurd (omega (arith, lt))
  place_found (suc m) q lt = elim (cases_lt q (put_below inserts m)) [
    | inl less ↦ let r = place_found m q less in (r.0, r.1, omega (arith, r.2), r.3)
    | inr ge ↦ (m, q - put_below inserts m, omega arith, record { within = omega (arith, lt, ge); is = omega (arith, ge) })
  ]

  pub place_same : (q n j m l : ℕ) → IsNewPlace q n j → IsNewPlace q m l → (n ≡ m) × (j ≡ l)
  place_same q n j m l one other =
      elim (cases_lt n m) [
        | inl lt ↦ absurd (omega (arith, one.within, one.is, other.is, put_mono n m lt))
        | inr ge ↦ elim (cases_lt m n) [
          | inl lt ↦ absurd (omega (arith, other.within, one.is, other.is, put_mono m n lt))
          | inr le ↦
              let same : n ≡ m = omega (arith, ge, le) in
              let e : put_below inserts n ≡ put_below inserts m = ap (put_below inserts) same in
              (same, omega (arith, e, one.is, other.is))
        ]
      ]

-- ---- chains

-- where the j-th of so many new nodes before node n leads, if the first has the number k
abbrev pub Link : ℕ → ℕ → ℕ → ℕ → ℕ → Type 0
Link n k count j next = ((suc j < count) × (next ≡ k + suc j)) ⊎ ((suc j ≡ count) × (next ≡ n))

-- a chain has a node for each assignment put
chain_length : (n k : ℕ) (puts : List Insertion) → length (chain n k puts) ≡ length puts
chain_length n k [] = refl
chain_length n k (put ∷ puts) = ap suc (chain_length n (suc k) puts)

-- a node of a chain is its assignment, and leads to the next or to node n
chain_get : (n k : ℕ) (puts : List Insertion) (j : ℕ) (put : Insertion)
    → slice_get puts j ≡ Some put
    → (next : ℕ) × Link n k (length puts) j next × (slice_get (chain n k puts) j ≡ Some (Assign put.var put.rhs next))
chain_get n k [] j put at_j = cc
chain_get n k (first ∷ puts) zero put at_j = (entry_among n (suc k) puts, leads puts, ap (λ (p : Insertion). Some (Assign p.var p.rhs (entry_among n (suc k) puts))) (same_Some first put at_j))
  where
    leads : (puts : List Insertion) → Link n k (suc (length puts)) 0 (entry_among n (suc k) puts)
    leads [] = inr (omega arith, refl)
    leads (p ∷ puts) = inl (omega arith, omega arith)
chain_get n k (first ∷ puts) (suc j) put at_j =
    let r = chain_get n (suc k) puts j put at_j in
    (r.0, elim r.1 [ inl p ↦ inl (omega (arith, p.0), omega (arith, p.1)) | inr p ↦ inr (omega (arith, p.0), p.1) ], r.2)

module _ (inserts : ℕ → List Insertion) where
  -- how many there are before so many nodes from n on
  more_below : (n : ℕ) → put_below inserts (suc n) ≡ put_below inserts n + length (inserts n)
  more_below n = refl

  chains_length : (count n k : ℕ)
      → put_below inserts n + length (chains inserts count n k) ≡ put_below inserts (n + count)
  chains_length zero n k = let sum : n ≡ n + 0 = omega arith in let e = ap {B = ℕ} (put_below inserts) sum in omega (arith, e)
  chains_length (suc count) n k =
      let front = chain n k (inserts n) in
      let back = chains inserts count (suc n) (k + length (inserts n)) in
      let sum : suc n + count ≡ n + suc count = omega arith in
      let e = ap {B = ℕ} (put_below inserts) sum in
      omega (arith, length-append front back, chain_length n k (inserts n), chains_length count (suc n) (k + length (inserts n)), e)

  chains_get : (count n k d j : ℕ) → d < count → j < length (inserts (n + d))
      → slice_get (chains inserts count n k) ((put_below inserts (n + d) - put_below inserts n) + j)
      ≡ slice_get (chain (n + d) (k + (put_below inserts (n + d) - put_below inserts n)) (inserts (n + d))) j
  chains_get zero n k d j inside lt = absurd (omega (arith, inside))
  chains_get (suc count) n k zero j inside lt =
      let front = chain n k (inserts n) in
      let back = chains inserts count (suc n) (k + length (inserts n)) in
      let n_is : n ≡ n + 0 = omega arith in
      let same = ap {B = ℕ} (put_below inserts) n_is in
      let long = ap {B = ℕ} (λ m. length (inserts m)) n_is in
      let place : (put_below inserts (n + 0) - put_below inserts n) + j ≡ j = omega (arith, same) in
      let k_is : k ≡ k + (put_below inserts (n + 0) - put_below inserts n) = omega (arith, same) in
      ap (slice_get (front ++ back)) place
      ∙ get_left front back j (omega (arith, lt, long, chain_length n k (inserts n)))
      ∙ ap (λ m. slice_get (chain m k (inserts m)) j) n_is
      ∙ ap (λ q. slice_get (chain (n + 0) q (inserts (n + 0))) j) k_is
  chains_get (suc count) n k (suc d) j inside lt =
      let front = chain n k (inserts n) in
      let back = chains inserts count (suc n) (k + length (inserts n)) in
      let n_is : suc n + d ≡ n + suc d = omega arith in
      let same = ap {B = ℕ} (put_below inserts) n_is in
      let long = ap {B = ℕ} (λ m. length (inserts m)) n_is in
      let rises : put_below inserts n + length (inserts n) ≤ put_below inserts (suc n + d) = put_mono inserts n (suc n + d) (omega arith) in
      let place : (put_below inserts (n + suc d) - put_below inserts n) + j ≡ length front + ((put_below inserts (suc n + d) - put_below inserts (suc n)) + j) = omega (arith, same, rises, chain_length n k (inserts n)) in
      let k_is : (k + length (inserts n)) + (put_below inserts (suc n + d) - put_below inserts (suc n)) ≡ k + (put_below inserts (n + suc d) - put_below inserts n) = omega (arith, same, rises) in
      get_right_at front back ((put_below inserts (n + suc d) - put_below inserts n) + j) ((put_below inserts (suc n + d) - put_below inserts (suc n)) + j) place
      ∙ chains_get count (suc n) (k + length (inserts n)) d j (omega (arith, inside)) (omega (arith, lt, long))
      ∙ ap (λ q. slice_get (chain (suc n + d) q (inserts (suc n + d))) j) k_is
      ∙ ap (λ m. slice_get (chain m (k + (put_below inserts (n + suc d) - put_below inserts n)) (inserts m)) j) n_is

-- ---- old nodes

module _ (changes : ℕ → Change) (to : ℕ → ℕ) where
  pub olds_length : (k : ℕ) (nodes : List Node) → length (olds changes to k nodes) ≡ length nodes
  olds_length k [] = refl
  olds_length k (node ∷ nodes) = ap suc (olds_length (suc k) nodes)

  pub olds_get : (nodes : List Node) (k m : ℕ)
      → slice_get (olds changes to k nodes) m
      ≡ option_map (λ node. redirected to (changed (changes (k + m)) node)) (slice_get nodes m)
  olds_get [] k m = refl
  olds_get (node ∷ nodes) k zero = let sum : k ≡ k + 0 = omega arith in ap (λ q. Some (redirected to (changed (changes q) node))) sum
  olds_get (node ∷ nodes) k (suc m) =
      let sum : suc k + m ≡ k + suc m = omega arith in
      olds_get nodes (suc k) m ∙ ap (λ q. option_map (λ old. redirected to (changed (changes q) old)) (slice_get nodes m)) sum

-- ---- the whole

-- a number that has an edge has a node, and the edge is at a slot of it
pub edge_node : (nodes : List Node) (m slot s : ℕ) → IsEdge nodes m slot s
    → (node : Node) × (slice_get nodes m ≡ Some node) × (slice_get (node_succs node) slot ≡ Some s)
edge_node nodes m slot s = from (slice_get nodes m)
  where
    from : (o : Option Node) → slice_get (succs_of o) slot ≡ Some s
        → (node : Node) × (o ≡ Some node) × (slice_get (node_succs node) slot ≡ Some s)
    from None e = cc
    from (Some node) e = (node, refl, e)

module _ (r : Rewriting) (nodes : List Node) where
  abbrev to : ℕ → ℕ
  to = entry r.inserts (length nodes)

  -- node m was there before
  pub record IsOld (m : ℕ) (node : Node) : Type 0 where
    pub old : Node
    pub was : slice_get nodes m ≡ Some old
    pub is : node ≡ redirected (entry r.inserts (length nodes)) (changed (r.changes m) old)

  -- node m is the j-th new node before node n
  pub record IsNew (m : ℕ) (node : Node) : Type 0 where
    pub n : ℕ
    pub j : ℕ
    pub put : Insertion
    pub next : ℕ
    pub below : n < length nodes
    pub within : j < length (r.inserts n)
    pub at : m ≡ length nodes + (put_below r.inserts n + j)
    pub listed : slice_get (r.inserts n) j ≡ Some put
    pub link : Link n (length nodes + put_below r.inserts n) (length (r.inserts n)) j next
    pub is : node ≡ Assign put.var put.rhs next

  pub rewritten_length : length (rewritten_nodes r nodes) ≡ length nodes + put_below r.inserts (length nodes)
  rewritten_length =
      let front = olds r.changes to 0 nodes in
      let back = chains r.inserts (length nodes) 0 (length nodes) in
      let sum : 0 + length nodes ≡ length nodes = omega arith in
      let same = ap {B = ℕ} (put_below r.inserts) sum in
      omega (arith, length-append front back, olds_length r.changes to 0 nodes, chains_length r.inserts (length nodes) 0 (length nodes), same)

  pub old_get : (m : ℕ) (old : Node) → slice_get nodes m ≡ Some old
      → slice_get (rewritten_nodes r nodes) m
      ≡ Some (redirected (entry r.inserts (length nodes)) (changed (r.changes m) old))
  old_get m old was =
      let front = olds r.changes to 0 nodes in
      let lt : m < length front = omega (arith, slice_get_within nodes m old was, olds_length r.changes to 0 nodes) in
      let sum : 0 + m ≡ m = omega arith in
      get_left front (chains r.inserts (length nodes) 0 (length nodes)) m lt
      ∙ olds_get r.changes to nodes 0 m
      ∙ ap (λ q. option_map (λ node. redirected to (changed (r.changes q) node)) (slice_get nodes m)) sum
      ∙ ap (option_map (λ node. redirected to (changed (r.changes m) node))) was

  -- the new nodes before node n are its chain
  pub chain_slice : (n j : ℕ) → n < length nodes → j < length (r.inserts n)
      → slice_get (rewritten_nodes r nodes) (length nodes + (put_below r.inserts n + j))
      ≡ slice_get (chain n (length nodes + put_below r.inserts n) (r.inserts n)) j
  chain_slice n j below within =
      let front = olds r.changes to 0 nodes in
      let back = chains r.inserts (length nodes) 0 (length nodes) in
      let sum : n ≡ 0 + n = omega arith in
      let same = ap {B = ℕ} (put_below r.inserts) sum in
      let count : length nodes + (put_below r.inserts n + j) ≡ length front + ((put_below r.inserts (0 + n) - put_below r.inserts 0) + j) = omega (arith, olds_length r.changes to 0 nodes, same) in
      let first : length nodes + (put_below r.inserts (0 + n) - put_below r.inserts 0) ≡ length nodes + put_below r.inserts n = omega (arith, same) in
      get_right_at front back (length nodes + (put_below r.inserts n + j)) ((put_below r.inserts (0 + n) - put_below r.inserts 0) + j) count
      ∙ chains_get r.inserts (length nodes) 0 (length nodes) n j below (subst (λ m. j < length (r.inserts m)) sum within)
      ∙ ap (λ q. slice_get (chain (0 + n) q (r.inserts (0 + n))) j) first
      ∙ ap (λ m. slice_get (chain m (length nodes + put_below r.inserts n) (r.inserts m)) j) (sym sum)

  -- the j-th new node before node n
  pub new_get : (n j : ℕ) (put : Insertion) → n < length nodes
      → slice_get (r.inserts n) j ≡ Some put
      → (next : ℕ) × Link n (length nodes + put_below r.inserts n) (length (r.inserts n)) j next
      × (slice_get (rewritten_nodes r nodes) (length nodes + (put_below r.inserts n + j)) ≡ Some (Assign put.var put.rhs next))
  new_get n j put below listed =
      let one = chain_get n (length nodes + put_below r.inserts n) (r.inserts n) j put listed in
      (one.0, one.1, chain_slice n j below (slice_get_within (r.inserts n) j put listed) ∙ one.2)

  -- each node is an old or a new one
  pub node_at : (m : ℕ) (node : Node) → slice_get (rewritten_nodes r nodes) m ≡ Some node → IsOld m node ⊎ IsNew m node
  node_at m node there = elim (cases_lt m (length nodes)) [
    | inl lt ↦
        let old = some_at nodes m lt in
        inl (record { old = old.0; was = old.1; is = same_Some _ _ (sym there ∙ old_get m old.0 old.1) })
    | inr ge ↦
        let inside = slice_get_within (rewritten_nodes r nodes) m node there in
        let place = place_found r.inserts (length nodes) (m - length nodes) (omega (arith, inside, ge, rewritten_length)) in
        let n = place.0 in
        let j = place.1 in
        let put = some_at (r.inserts n) j place.3.within in
        let new = new_get n j put.0 place.2 put.1 in
        let at : m ≡ length nodes + (put_below r.inserts n + j) = omega (arith, ge, place.3.is) in
        inr (record { n = n; j = j; put = put.0; next = new.0; below = place.2; within = place.3.within; at = at; listed = put.1; link = new.1; is = same_Some _ _ (sym there ∙ ap (slice_get (rewritten_nodes r nodes)) at ∙ new.2) })
  ]

  -- ---- edges

  -- an edge of an old node leads to the entry of its old target
  pub record IsOldEdge (m slot s : ℕ) : Type 0 where
    pub target : ℕ
    pub edge : IsEdge nodes m slot target
    pub is : entry r.inserts (length nodes) target ≡ s

  -- the only edge of a new node
  pub record IsNewEdge (m slot s : ℕ) : Type 0 where
    pub node : Node
    pub new : IsNew m node
    pub first : slot ≡ 0
    pub is : new.next ≡ s

  pub old_edge : (m slot s : ℕ) → IsEdge nodes m slot s
      → IsEdge (rewritten_nodes r nodes) m slot (entry r.inserts (length nodes) s)
  old_edge m slot s edge =
      let node = edge_node nodes m slot s edge in
      ap (λ o. slice_get (succs_of o) slot) (old_get m node.0 node.1)
      ∙ ap (λ l. slice_get l slot) (rewritten_succs to (r.changes m) node.0)
      ∙ slice_get-map to (node_succs node.0) slot
      ∙ ap (option_map to) node.2

  -- the new nodes lead on to each other, and the last one to the node that they are put before
  pub new_edge : (n j : ℕ) → n < length nodes → j < length (r.inserts n)
      → (s : ℕ) × HasEdge (rewritten_nodes r nodes) (length nodes + (put_below r.inserts n + j)) s
      × Link n (length nodes + put_below r.inserts n) (length (r.inserts n)) j s
  new_edge n j below within =
      let put = some_at (r.inserts n) j within in
      let w = new_get n j put.0 below put.1 in
      (w.0, (0, ap (λ o. slice_get (succs_of o) 0) w.2), w.1)

  pub edge_cases : (m slot s : ℕ) → IsEdge (rewritten_nodes r nodes) m slot s → IsOldEdge m slot s ⊎ IsNewEdge m slot s
  edge_cases m slot s edge =
      let node = edge_node (rewritten_nodes r nodes) m slot s edge in
      elim (node_at m node.0 node.1) [
        | inl o ↦
            let leads : slice_get (map to (node_succs o.old)) slot ≡ Some s = sym (ap (λ x. slice_get (node_succs x) slot) o.is ∙ ap (λ l. slice_get l slot) (rewritten_succs to (r.changes m) o.old)) ∙ node.2 in
            let from = mapped_from to (slice_get (node_succs o.old) slot) s (sym (slice_get-map to (node_succs o.old) slot) ∙ leads) in
            inl (record { target = from.0; edge = ap (λ x. slice_get (succs_of x) slot) o.was ∙ from.1; is = from.2 })
        | inr w ↦
            let one = only w.next slot s (sym (ap (λ x. slice_get (node_succs x) slot) w.is) ∙ node.2) in
            inr (record { node = node.0; new = w; first = one.0; is = one.1 })
      ]
    where
      only : (next slot s : ℕ) → slice_get (next ∷ []) slot ≡ Some s → (slot ≡ 0) × (next ≡ s)
      only next zero s e = (refl, cc)
      only next (suc slot) s e = cc

-- a node is its own entry, or the first new node before it is
pub entry_is : (inserts : ℕ → List Insertion) (nodes n : ℕ)
    → ((length (inserts n) ≡ 0) × (entry inserts nodes n ≡ n))
    ⊎ ((0 < length (inserts n)) × (entry inserts nodes n ≡ nodes + put_below inserts n))
entry_is inserts nodes n = among (nodes + put_below inserts n) (inserts n)
  where
    among : (first : ℕ) (puts : List Insertion)
        → ((length puts ≡ 0) × (entry_among n first puts ≡ n))
        ⊎ ((0 < length puts) × (entry_among n first puts ≡ first))
    among first [] = inl (refl, refl)
    among first (put ∷ puts) = inr (omega arith, refl)
