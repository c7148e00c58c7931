-- The edges that leave blocks are no more than those from last nodes of blocks to first ones.
use Rattle.std.proofs.Common.{◌≡◌, ℕ, zero, suc, ◌+◌, ◌<◌, ◌≤◌, ◌⊎◌, inl, inr, Bool, true, false, cond, nat_eq, List, [], ◌∷◌, length, slice_get, Some, refl, sym, ap, subst, arith, ◌∙◌}
use Rattle.std.proofs.lemmas.Bool.{cases_eq, cases_lt, eq-eqb, ne_eqb, lt-ltb, le-ltb, or_right}
use Rattle.std.proofs.lemmas.Option.{slice_get-get_or}
use Rattle.std.specs.List.{list_any}
use Rattle.flow_graph.specs.declared.edges.Edge.{Edge}
use Rattle.flow_graph.specs.declared.nodes.Node.{Node}
use Rattle.flow_graph.specs.BlockLaws.{one_block}
use Rattle.flow_graph.specs.Blocks.{IsBlock, IsBlocks, IsChain, StandsIn}
use Rattle.flow_graph.specs.EdgeLaws.{edge_is, first_entering_suc}
use Rattle.flow_graph.specs.Edges.{edges_from, entering}
use Rattle.flow_graph.specs.Graphs.{AllWithin}
use Rattle.flow_graph.specs.PathLaws.{first_begins, begins_first}
use Rattle.flow_graph.specs.Paths.{Begins, Ends, HasEdge}
use Rattle.path_laws.specs.Between.{IsAhead, ahead_of, count_at, end_at, out_below}
use Rattle.node_list.specs.Lists.{list_at}
use Rattle.path_laws.specs.Crossings.{begins_with, crosses, crossings, ends_with}
use Rattle.flow_graph.specs.FlowEdges.{first_among}
use Rattle.flow_graph.specs.BoundLaws.{slot_within}
use Rattle.path_laws.specs.Runs.{enters_first, steps_ahead}

-- ---- the edges of one node

-- the edges of a node are those between its first number and that of the next node
pub count_is : (way : Bool) (n : ℕ) (edges : List Edge) → first_among way edges n + count_at way n edges ≡ first_among way edges (suc n)
count_is true n edges = omega (arith, first_entering_suc n edges, all edges)
  where
    one : (t : Bool) (edge : Edge) (rest : List Edge) (k : ℕ) → length rest ≡ k → length (cond t (edge ∷ rest) rest) ≡ cond t 1 0 + k
    one true edge rest k e = omega (arith, e)
    one false edge rest k e = omega (arith, e)

    all : (edges : List Edge) → length (entering n edges) ≡ count_at true n edges
    all [] = refl
    all (edge ∷ edges) = one (nat_eq edge.target n) edge (entering n edges) (count_at true n edges) (all edges)
count_is false n [] = refl
count_is false n (edge ∷ edges) =
    let rest = count_is false n edges in
    elim (cases_lt edge.source n) [
      | inl lt ↦ omega (arith, rest, ap {B = ℕ} (λ b. cond b 1 0) (lt-ltb edge.source n lt), ap {B = ℕ} (λ b. cond b 1 0) (lt-ltb edge.source (suc n) (omega (arith, lt))), ap {B = ℕ} (λ b. cond b 1 0) (ne_eqb edge.source n (λ e. absurd (omega (arith, e, lt)))))
      | inr ge ↦ elim (cases_eq edge.source n) [
        | inl same ↦ omega (arith, rest, ap {B = ℕ} (λ b. cond b 1 0) (le-ltb edge.source n ge), ap {B = ℕ} (λ b. cond b 1 0) (lt-ltb edge.source (suc n) (omega (arith, same))), ap {B = ℕ} (λ b. cond b 1 0) (eq-eqb edge.source n same))
        | inr d ↦ omega (arith, rest, ap {B = ℕ} (λ b. cond b 1 0) (le-ltb edge.source n ge), ap {B = ℕ} (λ b. cond b 1 0) (le-ltb edge.source (suc n) (omega (arith, ge, d))), ap {B = ℕ} (λ b. cond b 1 0) (ne_eqb edge.source n d))
      ]
    ]

-- ---- the node from which the flow leaves

-- the node ahead as a relation and as a number
pub ahead_is : (way : Bool) (list : List ℕ) (n : ℕ) → IsAhead way n list → ahead_of way list ≡ n
ahead_is true [] n a = absurd a
ahead_is true (m ∷ list) n a = a
ahead_is false [] n a = absurd a
ahead_is false (m ∷ []) n a = a
ahead_is false (m ∷ k ∷ list) n a = ahead_is false (k ∷ list) n a

-- a chain is not empty, so there is a node at which the flow leaves it
is_ahead : (way : Bool) (nodes : List Node) (list : List ℕ) → IsChain nodes list → IsAhead way (ahead_of way list) list
is_ahead way nodes [] is = absurd is
is_ahead true nodes (m ∷ list) is = refl
is_ahead false nodes (m ∷ []) is = refl
is_ahead false nodes (m ∷ k ∷ list) is = is_ahead false nodes (k ∷ list) is.1

-- that node has a place in the list
ahead_stands : (way : Bool) (list : List ℕ) (n : ℕ) → IsAhead way n list → (i : ℕ) × (slice_get list i ≡ Some n)
ahead_stands true [] n a = absurd a
ahead_stands true (m ∷ list) n a = (0, ap Some a)
ahead_stands false [] n a = absurd a
ahead_stands false (m ∷ []) n a = (0, ap Some a)
ahead_stands false (m ∷ k ∷ list) n a = let r = ahead_stands false (k ∷ list) n a in (suc r.0, r.1)

-- ---- how often an edge is counted

-- how many of the first blocks the flow leaves at this node
hits : Bool → List (List ℕ) → ℕ → ℕ → ℕ
hits way lists k zero = 0
hits way lists k (suc b) = hits way lists k b + cond (nat_eq k (ahead_of way (list_at lists b))) 1 0

-- without edges nothing is counted
none_out : (way : Bool) (lists : List (List ℕ)) (below : ℕ) → out_below way lists [] below ≡ 0
none_out way lists zero = refl
none_out way lists (suc b) = omega (arith, none_out way lists b)

-- one more edge is counted once for each block that the flow leaves by it
one_out : (way : Bool) (lists : List (List ℕ)) (edge : Edge) (edges : List Edge) (below : ℕ) → out_below way lists (edge ∷ edges) below ≡ hits way lists (end_at way edge) below + out_below way lists edges below
unfolding hits
one_out way lists edge edges zero = refl
one_out way lists edge edges (suc b) = omega (arith, one_out way lists edge edges b)

module _ (way : Bool) (nodes : List Node) (lists : List (List ℕ)) (are : IsBlocks nodes lists) (within : AllWithin nodes) where
  abbrev ahead : ℕ → ℕ
  ahead b = ahead_of way (list_at lists b)

  listed : (b : ℕ) → b < length lists → slice_get lists b ≡ Some (list_at lists b)
  listed b h = slice_get-get_or lists b [] h

  block_is : (b : ℕ) → b < length lists → IsBlock nodes (list_at lists b)
  block_is b h = are.blocks b (list_at lists b) (listed b h)

  leaves : (b : ℕ) → b < length lists → IsAhead way (ahead b) (list_at lists b)
  leaves b h = is_ahead way nodes (list_at lists b) (block_is b h).chain

  stands : (b : ℕ) → b < length lists → StandsIn lists b (ahead b)
  stands b h = let r = ahead_stands way (list_at lists b) (ahead b) (leaves b h) in record { list = list_at lists b; listed = listed b h; place = r.0; is = r.1 }

  apart : (b c : ℕ) → b < length lists → c < length lists → ahead b ≡ ahead c → b ≡ c
  apart b c h l e = one_block nodes lists b c (ahead c) are (subst (StandsIn lists b) e (stands b h)) (stands c l)

  -- each edge is counted at most once
  hits_one : (k below : ℕ) → below ≤ length lists → (hits way lists k below ≡ 0) ⊎ ((hits way lists k below ≡ 1) × ((b : ℕ) × (b < below) × (ahead b ≡ k)))
  unfolding hits
  hits_one k zero le = inl refl
  hits_one k (suc b) le = elim (cases_eq k (ahead_of way (list_at lists b))) as (λ _. (hits way lists k (suc b) ≡ 0) ⊎ ((hits way lists k (suc b) ≡ 1) × ((c : ℕ) × (c < suc b) × (ahead c ≡ k)))) [
    | inl same ↦
        let now = ap {B = ℕ} (λ t. cond t 1 0) (eq-eqb k (ahead_of way (list_at lists b)) same) in
        elim (hits_one k b (omega (arith, le))) as (λ _. (hits way lists k (suc b) ≡ 0) ⊎ ((hits way lists k (suc b) ≡ 1) × ((c : ℕ) × (c < suc b) × (ahead c ≡ k)))) [
          | inl none ↦ inr (omega (arith, none, now), (b, omega arith, sym same))
          | inr some ↦ let e = apart some.1.0 b (omega (arith, some.1.1, le)) (omega (arith, le)) (some.1.2 ∙ same) in absurd (omega (arith, e, some.1.1))
        ]
    | inr d ↦
        let now = ap {B = ℕ} (λ t. cond t 1 0) (ne_eqb k (ahead_of way (list_at lists b)) d) in
        elim (hits_one k b (omega (arith, le))) as (λ _. (hits way lists k (suc b) ≡ 0) ⊎ ((hits way lists k (suc b) ≡ 1) × ((c : ℕ) × (c < suc b) × (ahead c ≡ k)))) [
          | inl none ↦ inl (omega (arith, none, now))
          | inr some ↦ inr (omega (arith, some.0, now), (some.1.0, omega (arith, some.1.1), some.1.2))
        ]
  ]

-- a test that holds of one list holds of some list
some_at : (test : List ℕ → Bool) (lists : List (List ℕ)) (b : ℕ) (list : List ℕ) → slice_get lists b ≡ Some list → test list ≡ true → list_any test lists ≡ true
some_at test [] b list e on = cc
some_at test (l ∷ lists) zero list e on = let same : l ≡ list = cc in rw (same, on) refl
some_at test (l ∷ lists) (suc b) list e on = or_right (test l) (list_any test lists) (some_at test lists b list e on)

-- the computed tests agree with the propositions, here that a list begins with a node
begins_true : (list : List ℕ) (n : ℕ) → Begins n list → begins_with n list ≡ true
begins_true [] n b = absurd b
begins_true (m ∷ list) n b = eq-eqb m n b

-- and that it ends with one
ends_true : (list : List ℕ) (n : ℕ) → Ends n list → ends_with n list ≡ true
ends_true [] n e = absurd e
ends_true (m ∷ []) n e = eq-eqb m n e
ends_true (m ∷ k ∷ list) n e = ends_true (k ∷ list) n e

-- an edge that leaves a block crosses
crosses_if : (way : Bool) (nodes : List Node) (lists : List (List ℕ)) → IsBlocks nodes lists → AllWithin nodes → (edge : Edge) (b : ℕ) (list : List ℕ) → HasEdge nodes edge.source edge.target → slice_get lists b ≡ Some list → IsAhead way (end_at way edge) list → crosses lists edge ≡ true
crosses_if false nodes lists are within edge b list step listed ahead =
    let t = are.every edge.target (within edge.source step.0 edge.target step.1) in
    let first = enters_first false nodes t.1.list list edge.target edge.source t.1.place (are.blocks t.0 t.1.list t.1.listed) (are.blocks b list listed) t.1.is ahead step in
    let on = some_at (ends_with edge.source) lists b list listed (ends_true list edge.source ahead) in
    let to = some_at (begins_with edge.target) lists t.0 t.1.list t.1.listed (begins_true t.1.list edge.target (first_begins t.1.list edge.target first)) in
    rw (on, to) refl
crosses_if true nodes lists are within edge b list step listed ahead =
    let s = are.every edge.source (slot_within nodes edge.source step.0 edge.target step.1) in
    let last = steps_ahead false nodes list s.1.list edge.target edge.source s.1.place (are.blocks b list listed) (are.blocks s.0 s.1.list s.1.listed) (begins_first list edge.target ahead) s.1.is step in
    let on = some_at (ends_with edge.source) lists s.0 s.1.list s.1.listed (ends_true s.1.list edge.source last) in
    let to = some_at (begins_with edge.target) lists b list listed (begins_true list edge.target ahead) in
    rw (on, to) refl

-- so no more edges are counted than lead from the last node of a block to the first of one
few_out : (way : Bool) (nodes : List Node) (lists : List (List ℕ)) → IsBlocks nodes lists → AllWithin nodes → (edges : List Edge) → ((e : ℕ) (edge : Edge) → slice_get edges e ≡ Some edge → HasEdge nodes edge.source edge.target) → out_below way lists edges (length lists) ≤ crossings lists edges
few_out way nodes lists are within [] steps = omega (arith, none_out way lists (length lists))
few_out way nodes lists are within (edge ∷ edges) steps =
    let rest = few_out way nodes lists are within edges (λ e x h. steps (suc e) x h) in
    let now = one_out way lists edge edges (length lists) in
    elim (hits_one way nodes lists are within (end_at way edge) (length lists) (omega arith)) as (λ _. out_below way lists (edge ∷ edges) (length lists) ≤ crossings lists (edge ∷ edges)) [
      | inl none ↦ omega (arith, none, now, rest)
      | inr some ↦
          let b = some.1.0 in
          let ahead = subst (λ k. IsAhead way k (list_at lists some.1.0)) some.1.2 (leaves way nodes lists are within some.1.0 some.1.1) in
          let on = crosses_if way nodes lists are within edge some.1.0 (list_at lists some.1.0) (steps zero edge refl) (slice_get-get_or lists some.1.0 [] some.1.1) ahead in
          omega (arith, some.0, now, rest, ap {B = ℕ} (λ t. cond t 1 0) on)
    ]

-- all of them
pub few_between : (way : Bool) (nodes : List Node) (lists : List (List ℕ)) → IsBlocks nodes lists → AllWithin nodes → out_below way lists (edges_from 0 nodes) (length lists) ≤ crossings lists (edges_from 0 nodes)
few_between way nodes lists are within = few_out way nodes lists are within (edges_from 0 nodes) (λ e edge h. edge_is nodes e edge h)
