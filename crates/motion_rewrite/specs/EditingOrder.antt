-- Law: the changes of a rewriting, and then its insertions, made one at a time in order of the nodes, give the
-- rewritten nodes. For proofs only.
use Rattle.std.proofs.Common.{◌≡◌, ℕ, zero, suc, ◌+◌, ◌-◌, ◌<◌, ◌≤◌, if◌then◌else◌, nat_lt, nat_eq, List, [], ◌∷◌, ◌++◌, map, length, slice_get, inl, inr, refl, sym, ap, ◌∙◌, arith, length-append, append-nil, append_assoc}
use Rattle.std.proofs.lemmas.Bool.{cases_eq, cases_lt, eq-eqb, ne_eqb, lt-ltb, le-ltb}
use Rattle.std.proofs.lemmas.List.{map-append, length-map}
use Rattle.mir_base.specs.declared.instructions.Rhs.{Rhs}
use Rattle.flow_graph.specs.declared.nodes.Node.{Node}
use Rattle.flow_graph.specs.declared.nodes.Node.TheVariants.{Assign}
use Rattle.flow_graph.specs.Graphs.{AllWithin, IsEdge}
use Rattle.flow_graph.specs.Retained.{redirected}
use Rattle.graph_edit.specs.Insertions.{Insertion, Change, Rewriting, changed, put_below, entry_among, entry, chain, chains, olds, rewritten_nodes}
use Rattle.graph_edit.specs.InsertionNodes.{rewritten_length}
use Rattle.graph_edit.specs.Editing.{past, put_before, change_at, put_all, put_each, change_each}
use Rattle.graph_edit.specs.EditingLaws.{past_same, past_other}
use Rattle.flow_graph.specs.NodeLaws.{redirected_same, redirected_twice, redirected_none}
use Rattle.graph_edit.specs.ChangeLaws.{changed_succs}

-- ---- the same insertions

-- how many are put before the nodes below n depends only on the lists of those nodes
below_same : (i i' : ℕ → List Insertion) (n : ℕ) → ((m : ℕ) → m < n → i m ≡ i' m) → put_below i n ≡ put_below i' n
below_same i i' zero same = refl
below_same i i' (suc n) same =
    let earlier = below_same i i' n (λ m lt. same m (omega (arith, lt))) in
    let last = ap {B = ℕ} length (same n (omega arith)) in
    omega (arith, earlier, last)

-- none from n on
below_none : (i : ℕ → List Insertion) (n count : ℕ) → ((m : ℕ) → n ≤ m → i m ≡ [])
    → put_below i (n + count) ≡ put_below i n
below_none i n zero none = let same : n + 0 ≡ n = omega arith in ap (put_below i) same
below_none i n (suc count) none =
    let same : n + suc count ≡ suc (n + count) = omega arith in
    let e = ap {B = ℕ} (put_below i) same in
    let last = ap {B = ℕ} length (none (n + count) (omega arith)) in
    omega (arith, e, last, below_none i n count none)

-- where nothing is put from node n on, there are no chains
chains_none : (i : ℕ → List Insertion) (count n k : ℕ) → ((m : ℕ) → n ≤ m → i m ≡ []) → chains i count n k ≡ []
chains_none i zero n k none = refl
chains_none i (suc count) n k none =
    ap (λ l. chain n k l ++ chains i count (suc n) (k + length (i n))) (none n (omega arith))
    ∙ chains_none i count (suc n) (k + length (i n)) (λ m le. none m (omega (arith, le)))

-- chains depend only on the lists of the nodes that they stand before
chains_same : (i i' : ℕ → List Insertion) (count n k : ℕ) → ((m : ℕ) → m < n + count → i m ≡ i' m)
    → chains i count n k ≡ chains i' count n k
chains_same i i' zero n k same = refl
chains_same i i' (suc count) n k same =
    ap (λ l. chain n k l ++ chains i count (suc n) (k + length l)) (same n (omega arith))
    ∙ ap (λ l. chain n k (i' n) ++ l) (chains_same i i' count (suc n) (k + length (i' n)) (λ m lt. same m (omega (arith, lt))))

-- where a node is entered depends only on the lists of the old nodes
entry_same : (i i' : ℕ → List Insertion) (old n : ℕ) → ((m : ℕ) → m < old → i m ≡ i' m) → n < old
    → entry i old n ≡ entry i' old n
entry_same i i' old n same lt =
    ap (λ l. entry_among n (old + put_below i n) l) (same n lt)
    ∙ ap (λ q. entry_among n (old + q) (i' n)) (below_same i i' n (λ m less. same m (omega (arith, less, lt))))

-- the old nodes, where their edges lead elsewhere
module _ (changes : ℕ → Change) (to to' : ℕ → ℕ) where
  olds_same : (k : ℕ) (nodes : List Node) → ((m slot s : ℕ) → IsEdge nodes m slot s → to s ≡ to' s)
      → olds changes to k nodes ≡ olds changes to' k nodes
  olds_same k [] same = refl
  olds_same k (node ∷ nodes) same =
      ap (λ q. q ∷ olds changes to (suc k) nodes) (redirected_same to to' (changed (changes k) node) (λ slot s at. same 0 slot s (ap (λ l. slice_get l slot) (sym (changed_succs (changes k) node)) ∙ at)))
      ∙ ap (λ l. redirected to' (changed (changes k) node) ∷ l) (olds_same (suc k) nodes (λ m. same (suc m)))

  olds_past : (past : ℕ → ℕ) (k : ℕ) (nodes : List Node)
      → ((m slot s : ℕ) → IsEdge nodes m slot s → past (to s) ≡ to' s)
      → map (redirected past) (olds changes to k nodes) ≡ olds changes to' k nodes
  olds_past past k [] same = refl
  olds_past past k (node ∷ nodes) same =
      ap (λ q. q ∷ map (redirected past) (olds changes to (suc k) nodes)) (redirected_twice to past (changed (changes k) node) ∙ redirected_same (λ n. past (to n)) to' (changed (changes k) node) (λ slot s at. same 0 slot s (ap (λ l. slice_get l slot) (sym (changed_succs (changes k) node)) ∙ at)))
      ∙ ap (λ l. redirected to' (changed (changes k) node) ∷ l) (olds_past past (suc k) nodes (λ m. same (suc m)))

-- the same insertions before the nodes give the same nodes
rewritten_same : (changes : ℕ → Change) (i i' : ℕ → List Insertion) (nodes : List Node)
    → AllWithin nodes → ((m : ℕ) → m < length nodes → i m ≡ i' m)
    → rewritten_nodes (record { inserts = i; changes = changes }) nodes
    ≡ rewritten_nodes (record { inserts = i'; changes = changes }) nodes
rewritten_same changes i i' nodes within same =
    ap (λ l. l ++ chains i (length nodes) 0 (length nodes)) (olds_same changes (entry i (length nodes)) (entry i' (length nodes)) 0 nodes (λ m slot s edge. entry_same i i' (length nodes) s same (within m slot s edge)))
    ∙ ap (λ l. olds changes (entry i' (length nodes)) 0 nodes ++ l) (chains_same i i' (length nodes) 0 (length nodes) (λ m lt. same m (omega (arith, lt))))

-- ---- one more

module _ (n last : ℕ) where
  -- a chain before another node
  chain_past : (m k : ℕ) (puts : List Insertion) → (m ≡ n → ⊥) → n < k
      → map (redirected (past n last)) (chain m k puts) ≡ chain m k puts
  chain_past m k [] differ lt = refl
  chain_past m k (put ∷ puts) differ lt =
      ap (λ q. Assign put.var put.rhs q ∷ map (redirected (past n last)) (chain m (suc k) puts)) (past_other n last (entry_among m (suc k) puts) (away puts))
      ∙ ap (λ l. Assign put.var put.rhs (entry_among m (suc k) puts) ∷ l) (chain_past m (suc k) puts differ (omega (arith, lt)))
    where
      away : (rest : List Insertion) → entry_among m (suc k) rest ≡ n → ⊥
      away [] e = differ e
      away (p ∷ rest) e = omega (arith, e, lt)

  -- the chain before this one
  chain_more : (k : ℕ) (puts : List Insertion) (put : Insertion) → n < k → k + length puts ≡ last
      → map (redirected (past n last)) (chain n k puts) ++ Assign put.var put.rhs n ∷ [] ≡ chain n k (puts ++ put ∷ [])
  chain_more k [] put lt e = refl
  chain_more k (p ∷ puts) put lt e =
      ap (λ q. Assign p.var p.rhs q ∷ (map (redirected (past n last)) (chain n (suc k) puts) ++ Assign put.var put.rhs n ∷ [])) (leads puts (omega (arith, e)))
      ∙ ap (λ l. Assign p.var p.rhs (entry_among n (suc k) (puts ++ put ∷ [])) ∷ l) (chain_more (suc k) puts put (omega (arith, lt)) (omega (arith, e)))
    where
      leads : (rest : List Insertion) → suc k + length rest ≡ last
          → past n last (entry_among n (suc k) rest) ≡ entry_among n (suc k) (rest ++ put ∷ [])
      leads [] sum = past_same n last ∙ sym (omega (arith, sum))
      leads (q ∷ rest) sum = past_other n last (suc k) (λ same. omega (arith, same, lt))

module _ (changes : ℕ → Change) (i i' : ℕ → List Insertion) (n : ℕ) (put : Insertion)
    (others : (m : ℕ) → (m ≡ n → ⊥) → i m ≡ i' m) (more : i' n ≡ i n ++ put ∷ [])
    (none : (m : ℕ) → n < m → i m ≡ []) where
  lower : (m : ℕ) → m ≤ n → put_below i m ≡ put_below i' m
  lower m le = below_same i i' m (λ q lt. others q (λ same. omega (arith, same, lt, le)))

  none' : (m : ℕ) → n < m → i' m ≡ []
  none' m lt = sym (others m (λ same. omega (arith, same, lt))) ∙ none m lt

  chains_more : (count m k last : ℕ) → m ≤ n → n < m + count → n < k
      → k + put_below i n + length (i n) ≡ last + put_below i m
      → map (redirected (past n last)) (chains i count m k) ++ Assign put.var put.rhs n ∷ [] ≡ chains i' count m k
  chains_more zero m k last le lt high sum = absurd (omega (arith, le, lt))
  chains_more (suc count) m k last le lt high sum = elim (cases_lt m n) [
    | inl less ↦
        let same = others m (λ e. omega (arith, e, less)) in
        let rest = chains i count (suc m) (k + length (i m)) in
        ap (λ l. l ++ Assign put.var put.rhs n ∷ []) (map-append (redirected (past n last)) (chain m k (i m)) rest)
        ∙ append_assoc (map (redirected (past n last)) (chain m k (i m))) (map (redirected (past n last)) rest) (Assign put.var put.rhs n ∷ [])
        ∙ ap (λ l. l ++ (map (redirected (past n last)) rest ++ Assign put.var put.rhs n ∷ [])) (chain_past n last m k (i m) (λ e. omega (arith, e, less)) high)
        ∙ ap (λ l. chain m k (i m) ++ l) (chains_more count (suc m) (k + length (i m)) last (omega (arith, less)) (omega (arith, lt)) (omega (arith, high)) (omega (arith, sum)))
        ∙ ap (λ l. chain m k l ++ chains i' count (suc m) (k + length l)) same
    | inr ge ↦
        let is : m ≡ n = omega (arith, le, ge) in
        let rest = chains i count (suc m) (k + length (i m)) in
        let low = ap {B = ℕ} (put_below i) is in
        let empty : rest ≡ [] = chains_none i count (suc m) (k + length (i m)) (λ q above. none q (omega (arith, above, is))) in
        let empty' : chains i' count (suc m) (k + length (i' m)) ≡ [] = chains_none i' count (suc m) (k + length (i' m)) (λ q above. none' q (omega (arith, above, is))) in
        ap (λ l. map (redirected (past n last)) (chain m k (i m) ++ l) ++ Assign put.var put.rhs n ∷ []) empty
        ∙ ap (λ l. map (redirected (past n last)) l ++ Assign put.var put.rhs n ∷ []) (append-nil (chain m k (i m)))
        ∙ ap (λ q. map (redirected (past n last)) (chain q k (i q)) ++ Assign put.var put.rhs n ∷ []) is
        ∙ chain_more n last k (i n) put high (omega (arith, sum, low))
        ∙ ap (chain n k) (sym more)
        ∙ ap (λ q. chain q k (i' q)) (sym is)
        ∙ sym (append-nil (chain m k (i' m)))
        ∙ ap (λ l. chain m k (i' m) ++ l) (sym empty')
  ]

  entry_past : (old last s : ℕ) → n < old → last ≡ old + put_below i n + length (i n) → s < old
      → past n last (entry i old s) ≡ entry i' old s
  entry_past old last s lt sum inside = elim (cases_eq s n) [
    | inl is ↦
        ap (λ q. past n last (entry i old q)) is
        ∙ own (i n) sum
        ∙ ap (entry_among n (old + put_below i n)) (sym more)
        ∙ ap (λ q. entry_among n (old + q) (i' n)) (lower n (omega arith))
        ∙ ap (entry i' old) (sym is)
    | inr differ ↦
        past_other n last (entry i old s) (away differ (i s))
        ∙ ap (entry_among s (old + put_below i s)) (others s differ)
        ∙ elim (cases_lt s n) [
          | inl less ↦ ap (λ q. entry_among s (old + q) (i' s)) (lower s (omega (arith, less)))
          | inr ge ↦
              let empty = none' s (omega (arith, ge, differ)) in
              ap (entry_among s (old + put_below i s)) empty ∙ sym (ap (entry_among s (old + put_below i' s)) empty)
        ]
  ]
    where
      own : (puts : List Insertion) → last ≡ old + put_below i n + length puts
          → past n last (entry_among n (old + put_below i n) puts)
          ≡ entry_among n (old + put_below i n) (puts ++ put ∷ [])
      own [] e = past_same n last ∙ omega (arith, e)
      own (p ∷ puts) e = past_other n last (old + put_below i n) (λ same. omega (arith, same, lt))

      away : (s ≡ n → ⊥) → (puts : List Insertion) → entry_among s (old + put_below i s) puts ≡ n → ⊥
      away differ [] e = differ e
      away differ (p ∷ puts) e = omega (arith, e, lt)

  -- one more node put before node n is one more insertion
  one_more : (nodes : List Node) → AllWithin nodes → n < length nodes
      → put_before n put.var put.rhs (rewritten_nodes (record { inserts = i; changes = changes }) nodes)
      ≡ rewritten_nodes (record { inserts = i'; changes = changes }) nodes
  one_more nodes within lt =
      let old = length nodes in
      let r : Rewriting = record { inserts = i; changes = changes } in
      let last = length (rewritten_nodes r nodes) in
      let front = olds changes (entry i old) 0 nodes in
      let back = chains i old 0 old in
      let sum : suc n + (old - suc n) ≡ old = omega (arith, lt) in
      let end = ap {B = ℕ} (put_below i) sum in
      let last_is : last ≡ old + put_below i n + length (i n) = omega (arith, rewritten_length r nodes, end, below_none i (suc n) (old - suc n) (λ m le. none m (omega (arith, le)))) in
      ap (λ l. l ++ Assign put.var put.rhs n ∷ []) (map-append (redirected (past n last)) front back)
      ∙ append_assoc (map (redirected (past n last)) front) (map (redirected (past n last)) back) (Assign put.var put.rhs n ∷ [])
      ∙ ap (λ l. l ++ (map (redirected (past n last)) back ++ Assign put.var put.rhs n ∷ [])) (olds_past changes (entry i old) (entry i' old) (past n last) 0 nodes (λ m slot s edge. entry_past old last s lt last_is (within m slot s edge)))
      ∙ ap (λ l. olds changes (entry i' old) 0 nodes ++ l) (chains_more old 0 old last (omega arith) (omega (arith, lt)) lt (omega (arith, last_is)))

-- ---- all of them

-- what has been put once all is put before the nodes below n, and these before node n
abbrev put_so_far : (ℕ → List Insertion) → ℕ → List Insertion → ℕ → List Insertion
put_so_far inserts n front m = if nat_lt m n then inserts m else (if nat_eq m n then front else [])

module _ (inserts : ℕ → List Insertion) (n : ℕ) (front : List Insertion) where
  far_below : (m : ℕ) → m < n → put_so_far inserts n front m ≡ inserts m
  far_below m lt = ap (λ b. (if b then inserts m else (if nat_eq m n then front else []))) (lt-ltb m n lt)

  far_at : put_so_far inserts n front n ≡ front
  far_at =
      ap (λ b. (if b then inserts n else (if nat_eq n n then front else []))) (le-ltb n n (omega arith))
      ∙ ap (λ b. (if b then front else [])) (eq-eqb n n refl)

  far_above : (m : ℕ) → n < m → put_so_far inserts n front m ≡ []
  far_above m lt =
      ap (λ b. (if b then inserts m else (if nat_eq m n then front else []))) (le-ltb m n (omega (arith, lt)))
      ∙ ap (λ b. (if b then front else [])) (ne_eqb m n (λ e. omega (arith, e, lt)))

module _ (changes : ℕ → Change) (inserts : ℕ → List Insertion) (nodes : List Node) (within : AllWithin nodes) where
  abbrev state : ℕ → List Insertion → List Node
  state n front = rewritten_nodes (record { inserts = put_so_far inserts n front; changes = changes }) nodes

  all_put : (n : ℕ) (front puts : List Insertion) → n < length nodes
      → put_all n puts (state n front) ≡ state n (front ++ puts)
  all_put n front [] lt = ap (state n) (sym (append-nil front))
  all_put n front (put ∷ puts) lt =
      let one = one_more changes (put_so_far inserts n front) (put_so_far inserts n (front ++ put ∷ [])) n put
      (λ m differ. elim (cases_lt m n) [
        | inl less ↦ far_below inserts n front m less ∙ sym (far_below inserts n (front ++ put ∷ []) m less)
        | inr ge ↦ far_above inserts n front m (omega (arith, ge, differ)) ∙ sym (far_above inserts n (front ++ put ∷ []) m (omega (arith, ge, differ)))
      ])
      (far_at inserts n (front ++ put ∷ []) ∙ ap (λ l. l ++ put ∷ []) (sym (far_at inserts n front)))
      (λ m above. far_above inserts n front m above)
      nodes within lt in
      ap (put_all n puts) one ∙ all_put n (front ++ put ∷ []) puts lt ∙ ap (state n) (append_assoc front (put ∷ []) puts)

  next_node : (n : ℕ) → state n (inserts n) ≡ state (suc n) []
  next_node n = rewritten_same changes (put_so_far inserts n (inserts n)) (put_so_far inserts (suc n) []) nodes within (λ m lt. elim (cases_lt m n) [
    | inl less ↦ far_below inserts n (inserts n) m less ∙ sym (far_below inserts (suc n) [] m (omega (arith, less)))
    | inr ge ↦ elim (cases_eq m n) [
      | inl is ↦ ap (put_so_far inserts n (inserts n)) is ∙ far_at inserts n (inserts n) ∙ ap inserts (sym is) ∙ sym (far_below inserts (suc n) [] m (omega (arith, is)))
      | inr differ ↦ far_above inserts n (inserts n) m (omega (arith, ge, differ)) ∙ sym (elim (cases_eq m (suc n)) [
        | inl is ↦ ap (put_so_far inserts (suc n) []) is ∙ far_at inserts (suc n) []
        | inr other ↦ far_above inserts (suc n) [] m (omega (arith, ge, differ, other))
      ])
    ]
  ])

  each_put : (count n : ℕ) → n + count ≡ length nodes
      → put_each inserts count n (state n []) ≡ rewritten_nodes (record { inserts = inserts; changes = changes }) nodes
  each_put zero n sum = rewritten_same changes (put_so_far inserts n []) inserts nodes within (λ m lt. far_below inserts n [] m (omega (arith, sum, lt)))
  each_put (suc count) n sum =
      ap (put_each inserts count (suc n)) (all_put n [] (inserts n) (omega (arith, sum)) ∙ next_node n)
      ∙ each_put count (suc n) (omega (arith, sum))

-- ---- the changes

-- a change at the first node after a prefix changes that node alone
changed_first : (changes : ℕ → Change) (to : ℕ → ℕ) (front : List Node) (node : Node) (rest : List Node) (change : Change)
    → change_at (length front) change (front ++ node ∷ rest) ≡ front ++ changed change node ∷ rest
changed_first changes to [] node rest change = refl
changed_first changes to (first ∷ front) node rest change = ap (λ l. first ∷ l) (changed_first changes to front node rest change)

-- changes made one after the other at all nodes after a prefix give the changed nodes
each_changed : (changes : ℕ → Change) (to : ℕ → ℕ) (front rest : List Node) (n : ℕ)
    → length front ≡ n → ((m slot s : ℕ) → IsEdge rest m slot s → to s ≡ s)
    → change_each changes (length rest) n (front ++ rest) ≡ front ++ olds changes to n rest
each_changed changes to front [] n long same = refl
each_changed changes to front (node ∷ rest) n long same =
    let own : redirected to (changed (changes n) node) ≡ changed (changes n) node = redirected_none to (changed (changes n) node) (λ slot s at. same 0 slot s (ap (λ l. slice_get l slot) (sym (changed_succs (changes n) node)) ∙ at)) in
    let longer : length (front ++ changed (changes n) node ∷ []) ≡ suc n = omega (arith, length-append front (changed (changes n) node ∷ []), long) in
    ap (λ k. change_each changes (length rest) (suc n) (change_at k (changes n) (front ++ node ∷ rest))) (sym long)
    ∙ ap (change_each changes (length rest) (suc n)) (changed_first changes to front node rest (changes n) ∙ sym (append_assoc front (changed (changes n) node ∷ []) rest))
    ∙ each_changed changes to (front ++ changed (changes n) node ∷ []) rest (suc n) longer (λ m. same (suc m))
    ∙ append_assoc front (changed (changes n) node ∷ []) (olds changes to (suc n) rest)
    ∙ ap (λ q. front ++ q ∷ olds changes to (suc n) rest) (sym own)

-- The changes, and then the insertions, in order of the nodes
pub edited_in_order : (r : Rewriting) (nodes : List Node) → AllWithin nodes
    → put_each r.inserts (length nodes) 0 (change_each r.changes (length nodes) 0 nodes) ≡ rewritten_nodes r nodes
edited_in_order r nodes within =
    let none = put_so_far r.inserts 0 [] in
    let empty : (m : ℕ) → none m ≡ [] = λ m. elim (cases_eq m 0) [ inl is ↦ ap none is ∙ far_at r.inserts 0 [] | inr differ ↦ far_above r.inserts 0 [] m (omega (arith, differ)) ] in
    let start : change_each r.changes (length nodes) 0 nodes ≡ rewritten_nodes (record { inserts = none; changes = r.changes }) nodes =
    each_changed r.changes (entry none (length nodes)) [] nodes 0 refl (λ m slot s edge. ap (entry_among s (length nodes + put_below none s)) (empty s))
    ∙ sym (append-nil (olds r.changes (entry none (length nodes)) 0 nodes))
    ∙ ap (λ l. olds r.changes (entry none (length nodes)) 0 nodes ++ l) (sym (chains_none none (length nodes) 0 (length nodes) (λ m le. empty m))) in
    ap (put_each r.inserts (length nodes) 0) start ∙ each_put r.changes r.inserts nodes within (length nodes) 0 (omega arith)

-- ---- lengths

-- one node more for each assignment that is put
pub put_length : (n x : ℕ) (rhs : Rhs) (nodes : List Node) → length (put_before n x rhs nodes) ≡ suc (length nodes)
put_length n x rhs nodes =
    omega (arith, length-append (map (redirected (past n (length nodes))) nodes) (Assign x rhs n ∷ []), length-map nodes (redirected (past n (length nodes))))

-- and for several of them
pub put_all_length : (n : ℕ) (puts : List Insertion) (nodes : List Node)
    → length (put_all n puts nodes) ≡ length nodes + length puts
put_all_length n [] nodes = omega arith
put_all_length n (put ∷ puts) nodes = omega (arith, put_all_length n puts (put_before n put.var put.rhs nodes), put_length n put.var put.rhs nodes)

-- ---- the same rewriting

-- equal changes give equal old nodes
olds_changed : (changes changes' : ℕ → Change) (to : ℕ → ℕ) (n : ℕ) (nodes : List Node)
    → ((m : ℕ) → changes m ≡ changes' m) → olds changes to n nodes ≡ olds changes' to n nodes
olds_changed changes changes' to n [] same = refl
olds_changed changes changes' to n (node ∷ nodes) same =
    ap (λ c. redirected to (changed c node) ∷ olds changes to (suc n) nodes) (same n) ∙ ap (λ l. redirected to (changed (changes' n) node) ∷ l) (olds_changed changes changes' to (suc n) nodes same)

-- rewritings with equal insertions and changes give equal nodes
pub rewritten_alike : (r r' : Rewriting) (nodes : List Node) → AllWithin nodes
    → ((m : ℕ) → r.inserts m ≡ r'.inserts m) → ((m : ℕ) → r.changes m ≡ r'.changes m)
    → rewritten_nodes r nodes ≡ rewritten_nodes r' nodes
rewritten_alike r r' nodes within same_inserts same_changes =
    rewritten_same r.changes r.inserts r'.inserts nodes within (λ m lt. same_inserts m)
    ∙ ap (λ l. l ++ chains r'.inserts (length nodes) 0 (length nodes)) (olds_changed r.changes r'.changes (entry r'.inserts (length nodes)) 0 nodes same_changes)
