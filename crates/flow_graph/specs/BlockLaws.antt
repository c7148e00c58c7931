-- Laws of blocks: what `Blocks::of` looks at says which nodes are glued, a node of a chain that is not its first is
-- glued to the one before, each node stands in one block, and a graph has one list of blocks. For proofs only;
-- path_laws cites them.
use Rattle.std.proofs.Common.{◌≡◌, ◌≢◌, ℕ, zero, suc, ◌<◌, ◌⊎◌, inl, inr, true, false, not, is_some, if◌then◌else◌, List, [], ◌∷◌, ◌++◌, length, get_or, slice_get, Option, Some, None, refl, sym, ap, subst, arith, ◌∙◌}
use Rattle.std.proofs.lemmas.Bool.{cases_lt}
use Rattle.std.proofs.lemmas.Option.{get_or_from_slice_get}
use Rattle.flow_graph.specs.ListLaws.{Ascends, AllAmong, ascending_same, cons_same}
pub use Rattle.flow_graph.specs.BoundLaws.{edge_within}
use Rattle.flow_graph.specs.declared.nodes.Node.{Node}
use Rattle.flow_graph.specs.Edges.{preds_of}
use Rattle.flow_graph.specs.EdgeLaws.{pred_has, pred_is}
use Rattle.flow_graph.specs.Graphs.{succs_at}
use Rattle.flow_graph.specs.PathLaws.{first_begins}
use Rattle.flow_graph.specs.Paths.{Begins, Ends, HasEdge}
use Rattle.flow_graph.specs.Blocks.{IsBlock, IsBlocks, IsChain, IsFirst, IsGlued, IsLast, StandsIn, first_from, is_first, next_from, next_of, only}

-- ---- the only item of a list

-- a list whose only item is x
pub only_is : (xs : List ℕ) (x : ℕ) → only xs ≡ Some x → xs ≡ x ∷ []
only_is [] x e = cc
only_is (y ∷ []) x e = cc
only_is (y ∷ z ∷ xs) x e = cc

-- where there is no second item, the first is the only one
pub only_first : (xs : List ℕ) → slice_get xs 1 ≡ None → slice_get xs 0 ≡ only xs
only_first [] e = refl
only_first (x ∷ []) e = refl
only_first (x ∷ y ∷ xs) e = cc

-- and where there is a second item there is no only one
pub none_only : (xs : List ℕ) (y : ℕ) → slice_get xs 1 ≡ Some y → only xs ≡ None
none_only [] y e = cc
none_only (x ∷ []) y e = cc
none_only (x ∷ z ∷ xs) y e = refl

-- a list of length 1 has one item
pub only_one : (xs : List ℕ) → length xs ≡ 1 → (x : ℕ) × (xs ≡ x ∷ [])
only_one [] e = absurd (omega (arith, e))
only_one (x ∷ []) e = (x, refl)
only_one (x ∷ y ∷ xs) e = absurd (omega (arith, e))

-- a list that has no only item
pub only_none : (xs : List ℕ) → length xs ≢ 1 → only xs ≡ None
only_none [] d = refl
only_none (x ∷ []) d = absurd (d refl)
only_none (x ∷ y ∷ xs) d = refl

-- the only node that an edge leads to, or comes from
only_succ : (xs : List ℕ) (slot n s : ℕ) → xs ≡ n ∷ [] → slice_get xs slot ≡ Some s → s ≡ n
only_succ xs slot n s is e = at slot (sym (ap (λ l. slice_get l slot) is) ∙ e)
  where
    at : (slot : ℕ) → slice_get (n ∷ []) slot ≡ Some s → s ≡ n
    at zero h = cc
    at (suc slot) h = cc

-- and it stands at slot 0
pub only_slot : (n slot s : ℕ) → slice_get (n ∷ []) slot ≡ Some s → slot ≡ 0
only_slot n zero s e = refl
only_slot n (suc slot) s e = cc

-- the node to which the only edge of m leads
pub only_to : (nodes : List Node) (m n s : ℕ) → succs_at nodes m ≡ n ∷ [] → HasEdge nodes m s → s ≡ n
only_to nodes m n s is edge = only_succ (succs_at nodes m) edge.0 n s is edge.1

-- the node from which the only edge comes to n
pub only_from : (nodes : List Node) (m n k : ℕ) → preds_of nodes n ≡ m ∷ [] → HasEdge nodes k n → k ≡ m
only_from nodes m n k is edge = let at = pred_has nodes k n edge in only_succ (preds_of nodes n) at.0 m k is at.1

-- glued nodes have an edge
pub glued_edge : (nodes : List Node) (m n : ℕ) → IsGlued nodes m n → HasEdge nodes m n
glued_edge nodes m n glued = (0, ap (λ l. slice_get l 0) glued.leaves)

-- ---- the node after

-- the node that `next_from` gives is glued to the one before, since each has one edge to the other
next_glues : (nodes : List Node) (m n : ℕ) (succs preds : Option ℕ) → only (succs_at nodes m) ≡ succs → next_from nodes succs ≡ Some n → IsGlued nodes m n
next_glues nodes m n None preds s e = cc
next_glues nodes m n (Some k) preds s e = found (only (preds_of nodes k)) refl e
  where
    leaves : succs_at nodes m ≡ k ∷ []
    leaves = only_is (succs_at nodes m) k s

    found : (o : Option ℕ) → only (preds_of nodes k) ≡ o → (if is_some o then Some k else None) ≡ Some n → IsGlued nodes m n
    found None p h = cc
    found (Some j) p h =
        let same : k ≡ n = cc in
        let enters = only_is (preds_of nodes k) j p in
        let from : m ≡ j = only_from nodes j k m enters (0, ap (λ l. slice_get l 0) leaves) in
        subst (IsGlued nodes m) same (record { leaves = leaves; enters = enters ∙ ap (λ i. i ∷ []) (sym from) })

-- what `next_of` gives is glued
pub next_glued : (nodes : List Node) (m n : ℕ) → next_of nodes m ≡ Some n → IsGlued nodes m n
next_glued nodes m n e = next_glues nodes m n (only (succs_at nodes m)) None refl e

-- and what is glued is what it gives
pub glued_next : (nodes : List Node) (m n : ℕ) → IsGlued nodes m n → next_of nodes m ≡ Some n
glued_next nodes m n glued = ap (λ l. next_from nodes (only l)) glued.leaves ∙ ap (λ l. (if is_some (only l) then Some n else None)) glued.enters

-- where it gives none, the node is the last of its block
pub next_none : (nodes : List Node) (m : ℕ) → next_of nodes m ≡ None → IsLast nodes m
next_none nodes m none n glued = let bad = sym none ∙ glued_next nodes m n glued in cc

-- ---- the node before

-- where `first_from` says no, the only predecessor is glued to the node
first_glues : (nodes : List Node) (n : ℕ) (preds : Option ℕ) → only (preds_of nodes n) ≡ preds → first_from nodes preds ≡ false → (m : ℕ) × IsGlued nodes m n
first_glues nodes n None p e = cc
first_glues nodes n (Some m) p e = found (only (succs_at nodes m)) refl e
  where
    enters : preds_of nodes n ≡ m ∷ []
    enters = only_is (preds_of nodes n) m p

    found : (o : Option ℕ) → only (succs_at nodes m) ≡ o → not (is_some o) ≡ false → (m : ℕ) × IsGlued nodes m n
    found None s h = cc
    found (Some k) s h =
        let leaves = only_is (succs_at nodes m) k s in
        let to : n ≡ k = only_to nodes m k n leaves (pred_is nodes n 0 m (ap (λ l. slice_get l 0) enters)) in
        (m, record { leaves = leaves ∙ ap (λ i. i ∷ []) (sym to); enters = enters })

-- a node that is not the first of its block has a node before it
pub not_first : (nodes : List Node) (n : ℕ) → is_first nodes n ≡ false → (m : ℕ) × IsGlued nodes m n
not_first nodes n e = first_glues nodes n (only (preds_of nodes n)) refl e

-- a node that is glued to one before it is not the first
pub glued_not_first : (nodes : List Node) (m n : ℕ) → IsGlued nodes m n → is_first nodes n ≡ false
glued_not_first nodes m n glued = ap (λ l. first_from nodes (only l)) glued.enters ∙ ap (λ l. not (is_some (only l))) glued.leaves

-- what `is_first` calls a first node is one
pub first_is : (nodes : List Node) (n : ℕ) → is_first nodes n ≡ true → IsFirst nodes n
first_is nodes n first m glued = let bad = sym first ∙ glued_not_first nodes m n glued in cc

-- ---- chains

-- one more node at the end
pub chain_more : (nodes : List Node) (chain : List ℕ) (m n : ℕ) → n < length nodes → IsChain nodes chain
    → Ends m chain → IsGlued nodes m n → IsChain nodes (chain ++ n ∷ [])
chain_more nodes [] m n h is ends glued = absurd is
chain_more nodes (k ∷ []) m n h is ends glued = (subst (λ j. IsGlued nodes j n) (sym ends) glued, h)
chain_more nodes (j ∷ k ∷ chain) m n h is ends glued = (is.0, chain_more nodes (k ∷ chain) m n h is.1 ends glued)

-- it begins as before
pub begins_more : (chain : List ℕ) (head n : ℕ) → Begins head chain → Begins head (chain ++ n ∷ [])
begins_more [] head n b = absurd b
begins_more (k ∷ chain) head n b = b

-- and ends with the new node
pub ends_more : (chain : List ℕ) (m n : ℕ) → Ends m chain → Ends n (chain ++ n ∷ [])
ends_more [] m n e = absurd e
ends_more (k ∷ []) m n e = refl
ends_more (j ∷ k ∷ chain) m n e = ends_more (k ∷ chain) m n e

-- a node after the first is glued to the one before
pub chain_inner : (nodes : List Node) (chain : List ℕ) (i n : ℕ) → IsChain nodes chain
    → slice_get chain (suc i) ≡ Some n → (m : ℕ) × (slice_get chain i ≡ Some m) × IsGlued nodes m n
chain_inner nodes [] i n is e = absurd is
chain_inner nodes (k ∷ []) i n is e = cc
chain_inner nodes (k ∷ l ∷ chain) zero n is e = let same : l ≡ n = cc in (k, refl, subst (IsGlued nodes k) same is.0)
chain_inner nodes (k ∷ l ∷ chain) (suc i) n is e = chain_inner nodes (l ∷ chain) i n is.1 e

-- so the first is the only one that nothing is glued to
pub chain_first : (nodes : List Node) (chain : List ℕ) (i head n : ℕ) → IsChain nodes chain → Begins head chain
    → slice_get chain i ≡ Some n → IsFirst nodes n → n ≡ head
chain_first nodes [] i head n is b e first = absurd is
chain_first nodes (k ∷ chain) zero head n is b e first = let same : k ≡ n = cc in sym same ∙ b
chain_first nodes (k ∷ chain) (suc i) head n is b e first = let before = chain_inner nodes (k ∷ chain) i n is e in absurd (first before.0 before.2)

-- a node that is not the last is followed in the chain
pub chain_on : (nodes : List Node) (chain : List ℕ) (i m : ℕ) → IsChain nodes chain → slice_get chain i ≡ Some m
    → Ends m chain ⊎ ((n : ℕ) × (slice_get chain (suc i) ≡ Some n) × IsGlued nodes m n)
chain_on nodes [] i m is e = absurd is
chain_on nodes (k ∷ []) zero m is e = inl (cc)
chain_on nodes (k ∷ []) (suc i) m is e = cc
chain_on nodes (k ∷ l ∷ chain) zero m is e = let same : k ≡ m = cc in inr (l, refl, subst (λ j. IsGlued nodes j l) same is.0)
chain_on nodes (k ∷ l ∷ chain) (suc i) m is e = chain_on nodes (l ∷ chain) i m is.1 e

-- the nodes of a chain are nodes of the graph
pub chain_within : (nodes : List Node) (chain : List ℕ) (i n : ℕ) → ((m k : ℕ) → HasEdge nodes m k → m < length nodes)
    → IsChain nodes chain → slice_get chain i ≡ Some n → n < length nodes
chain_within nodes [] i n within is e = absurd is
chain_within nodes (k ∷ []) zero n within is e = let same : k ≡ n = cc in subst (λ j. j < length nodes) same is
chain_within nodes (k ∷ []) (suc i) n within is e = cc
chain_within nodes (k ∷ l ∷ chain) zero n within is e = let same : k ≡ n = cc in subst (λ j. j < length nodes) same (within k l (glued_edge nodes k l is.0))
chain_within nodes (k ∷ l ∷ chain) (suc i) n within is e = chain_within nodes (l ∷ chain) i n within is.1 e

-- ---- each node stands in one block

-- a chain has a node
pub chain_some : (nodes : List Node) (chain : List ℕ) → IsChain nodes chain → 0 < length chain
chain_some nodes [] is = absurd is
chain_some nodes (n ∷ chain) is = omega arith

-- so it has a first one
pub begin_of : (nodes : List Node) (chain : List ℕ) → IsChain nodes chain → (h : ℕ) × Begins h chain × (slice_get chain 0 ≡ Some h)
begin_of nodes [] is = absurd is
begin_of nodes (k ∷ chain) is = (k, refl, refl)

-- and a last one
pub chain_ends : (nodes : List Node) (chain : List ℕ) → IsChain nodes chain → (m : ℕ) × Ends m chain
chain_ends nodes [] is = absurd is
chain_ends nodes (k ∷ []) is = (k, refl)
chain_ends nodes (j ∷ k ∷ chain) is = chain_ends nodes (k ∷ chain) is.1

-- two chains that cannot be made longer at the beginning, and share a node, begin alike
same_begin : (nodes : List Node) (xs ys : List ℕ) (i j h g n : ℕ) → IsChain nodes xs → IsChain nodes ys → Begins h xs
    → Begins g ys → IsFirst nodes h → IsFirst nodes g → slice_get xs i ≡ Some n → slice_get ys j ≡ Some n → h ≡ g
same_begin nodes [] ys i j h g n is is' b b' first first' e e' = absurd is
same_begin nodes (k ∷ xs) ys zero j h g n is is' b b' first first' e e' =
    let at : k ≡ n = cc in
    let same : h ≡ n = sym b ∙ at in
    same ∙ chain_first nodes ys j g n is' b' e' (subst (IsFirst nodes) same first)
same_begin nodes xs [] (suc i) j h g n is is' b b' first first' e e' = absurd is'
same_begin nodes xs (k ∷ ys) (suc i) zero h g n is is' b b' first first' e e' =
    let at : k ≡ n = cc in
    let before = chain_inner nodes xs i n is e in
    absurd (first' before.0 (subst (IsGlued nodes before.0) (sym at ∙ b') before.2))
same_begin nodes xs ys (suc i) (suc j) h g n is is' b b' first first' e e' =
    let before = chain_inner nodes xs i n is e in
    let before' = chain_inner nodes ys j n is' e' in
    let both : before.0 ∷ [] ≡ before'.0 ∷ [] = sym before.2.enters ∙ before'.2.enters in
    let same : before'.0 ≡ before.0 = cc in
    same_begin nodes xs ys i j h g before.0 is is' b b' first first' before.1 (before'.1 ∙ ap Some same)

-- so a node stands in one block
pub one_block : (nodes : List Node) (lists : List (List ℕ)) (b c n : ℕ) → IsBlocks nodes lists → StandsIn lists b n → StandsIn lists c n → b ≡ c
one_block nodes lists b c n are s t =
    let x = are.blocks b s.list s.listed in
    let y = are.blocks c t.list t.listed in
    let h = begin_of nodes s.list x.chain in
    let g = begin_of nodes t.list y.chain in
    let same = same_begin nodes s.list t.list s.place t.place h.0 g.0 n x.chain y.chain h.1 g.1 (x.first h.0 h.1) (y.first g.0 g.1) s.is t.is in
    elim (cases_lt b c) [
      | inl lt ↦ absurd (omega (arith, same, are.ascend b c h.0 g.0 s.list t.list lt s.listed t.listed h.1 g.1))
      | inr ge ↦ elim (cases_lt c b) [
        | inl gt ↦ absurd (omega (arith, same, are.ascend c b g.0 h.0 t.list s.list gt t.listed s.listed g.1 h.1))
        | inr le ↦ omega (arith, ge, le)
      ]
    ]

-- and at one place of it: for no node is glued to the first, and one to each other
pub one_place : (nodes : List Node) (list : List ℕ) (i j n : ℕ) → IsBlock nodes list → slice_get list i ≡ Some n → slice_get list j ≡ Some n → i ≡ j
one_place nodes list zero zero n block e e' = refl
one_place nodes list zero (suc j) n block e e' = let before = chain_inner nodes list j n block.chain e' in absurd (block.first n (first_begins list n e) before.0 before.2)
one_place nodes list (suc i) zero n block e e' = let before = chain_inner nodes list i n block.chain e in absurd (block.first n (first_begins list n e') before.0 before.2)
one_place nodes list (suc i) (suc j) n block e e' =
    let before = chain_inner nodes list i n block.chain e in
    let before' = chain_inner nodes list j n block.chain e' in
    let both : before.0 ∷ [] ≡ before'.0 ∷ [] = sym before.2.enters ∙ before'.2.enters in
    let same : before'.0 ≡ before.0 = cc in
    ap suc (one_place nodes list i j before.0 block before.1 (before'.1 ∙ ap Some same))

-- ---- a graph has one list of blocks

-- two chains that cannot be made longer at the end, and begin alike, are equal
same_chain : (nodes : List Node) (xs ys : List ℕ) (h : ℕ) → IsChain nodes xs → IsChain nodes ys
    → ((m : ℕ) → Ends m xs → IsLast nodes m) → ((m : ℕ) → Ends m ys → IsLast nodes m) → Begins h xs → Begins h ys
    → xs ≡ ys
same_chain nodes [] ys h is is' last last' b b' = absurd is
same_chain nodes (k ∷ xs) [] h is is' last last' b b' = absurd is'
same_chain nodes (k ∷ []) (j ∷ []) h is is' last last' b b' = let same : k ≡ j = b ∙ sym b' in ap (λ n. n ∷ []) same
same_chain nodes (k ∷ []) (j ∷ l ∷ ys) h is is' last last' b b' = let same : j ≡ k = b' ∙ sym b in absurd (last k refl l (subst (λ n. IsGlued nodes n l) same is'.0))
same_chain nodes (k ∷ l ∷ xs) (j ∷ []) h is is' last last' b b' = let same : k ≡ j = b ∙ sym b' in absurd (last' j refl l (subst (λ n. IsGlued nodes n l) same is.0))
same_chain nodes (k ∷ l ∷ xs) (j ∷ i ∷ ys) h is is' last last' b b' =
    let same : k ≡ j = b ∙ sym b' in
    let both : l ∷ [] ≡ i ∷ [] = sym is.0.leaves ∙ ap (succs_at nodes) same ∙ is'.0.leaves in
    let next : l ≡ i = cc in
    cons_same same (same_chain nodes (l ∷ xs) (i ∷ ys) i is.1 is'.1 last last' next refl)

-- a block of one list of blocks is a block of the other, that of its first node
blocks_among : (nodes : List Node) (lists others : List (List ℕ)) → IsBlocks nodes lists → IsBlocks nodes others → AllAmong lists others
blocks_among nodes lists others are others_are b list at =
    let block = are.blocks b list at in
    let h = begin_of nodes list block.chain in
    let s = others_are.every h.0 (chain_within nodes list 0 h.0 (λ m k edge. edge_within nodes m k edge) block.chain h.2) in
    let other = others_are.blocks s.0 s.1.list s.1.listed in
    let g = begin_of nodes s.1.list other.chain in
    let begins : h.0 ≡ g.0 = chain_first nodes s.1.list s.1.place g.0 h.0 other.chain g.1 s.1.is (block.first h.0 h.1) in
    let same = same_chain nodes list s.1.list g.0 block.chain other.chain block.last other.last (subst (λ n. Begins n list) begins h.1) g.1 in
    (s.0, s.1.listed ∙ ap Some (sym same))

-- the first nodes of the blocks ascend
blocks_ascend : (nodes : List Node) (lists : List (List ℕ)) → IsBlocks nodes lists → Ascends (λ list. get_or list 0 0) lists
blocks_ascend nodes lists are b c early late lt at at' =
    let h = begin_of nodes early (are.blocks b early at).chain in
    let g = begin_of nodes late (are.blocks c late at').chain in
    omega (arith, are.ascend b c h.0 g.0 early late lt at at' h.1 g.1, get_or_from_slice_get early 0 h.0 0 h.2, get_or_from_slice_get late 0 g.0 0 g.2)

-- any two lists of the blocks of the same nodes are equal
pub blocks_same : (nodes : List Node) (lists others : List (List ℕ)) → IsBlocks nodes lists → IsBlocks nodes others → lists ≡ others
blocks_same nodes lists others are others_are =
    ascending_same (λ list. get_or list 0 0) lists others (blocks_ascend nodes lists are) (blocks_ascend nodes others others_are)
    (blocks_among nodes lists others are others_are) (blocks_among nodes others lists others_are are)
