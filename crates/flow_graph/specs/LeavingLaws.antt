-- Laws of the edges by source: each leads to a successor of its source and is listed once for each slot, and the edges
-- of a node stand together. For proofs only; other files find them in `EdgeLaws`.
use Rattle.std.proofs.Common.{◌≡◌, ℕ, zero, suc, ◌+◌, ◌<◌, ◌≤◌, Bool, true, false, if◌then◌else◌, nat_lt, List, [], ◌∷◌, ◌++◌, length, take, drop, slice_get, Some, ◌⊎◌, inl, inr, refl, sym, ap, ◌∙◌, arith, length-append, append_assoc}
use Rattle.std.proofs.lemmas.Bool.{lt-ltb, le-ltb, cases_lt}
use Rattle.std.proofs.lemmas.List.{take-append-drop, length-take-le}
use Rattle.flow_graph.specs.declared.edges.Edge.{Edge}
use Rattle.flow_graph.specs.declared.nodes.Node.{Node}
use Rattle.flow_graph.specs.Graphs.{node_succs, succs_at, IsEdge}
use Rattle.flow_graph.specs.Paths.{HasEdge}
use Rattle.flow_graph.specs.Edges.{leaving, edges_from, first_leaving}
use Rattle.flow_graph.specs.ListLaws.{get_right}
use Rattle.flow_graph.specs.BoundLaws.{slot_within}

-- ---- the edges of joined lists of nodes

-- the edges of joined lists of nodes are joined
pub edges_from_append : (k : ℕ) (nodes more : List Node) → edges_from k (nodes ++ more) ≡ edges_from k nodes ++ edges_from (k + length nodes) more
edges_from_append k [] more = let e : k ≡ k + 0 = omega arith in ap (λ n. edges_from n more) e
edges_from_append k (node ∷ nodes) more =
    let e : suc k + length nodes ≡ k + suc (length nodes) = omega arith in
    ap (λ l. leaving k (node_succs node) ++ l) (edges_from_append (suc k) nodes more ∙ ap (λ n. edges_from (suc k) nodes ++ edges_from n more) e) ∙ sym (append_assoc (leaving k (node_succs node)) (edges_from (suc k) nodes) (edges_from (k + suc (length nodes)) more))

-- how many edges leave nodes below n, of joined lists of edges
first_leaving_append : (n : ℕ) (xs ys : List Edge) → first_leaving n (xs ++ ys) ≡ first_leaving n xs + first_leaving n ys
first_leaving_append n [] ys = omega arith
first_leaving_append n (x ∷ xs) ys = omega (arith, first_leaving_append n xs ys)

-- all edges of a node below n, none of a later node
leaving_left : (n k : ℕ) (succs : List ℕ) → k < n → first_leaving n (leaving k succs) ≡ length (leaving k succs)
leaving_left n k [] lt = refl
leaving_left n k (s ∷ succs) lt = ap (λ b. (if b then 1 else 0) + first_leaving n (leaving k succs)) (lt-ltb k n lt) ∙ omega (arith, leaving_left n k succs lt)

-- no edge of node k stands before those of a node n that is not after k
leaving_later : (n k : ℕ) (succs : List ℕ) → n ≤ k → first_leaving n (leaving k succs) ≡ 0
leaving_later n k [] le = refl
leaving_later n k (s ∷ succs) le = ap (λ b. (if b then 1 else 0) + first_leaving n (leaving k succs)) (le-ltb k n le) ∙ omega (arith, leaving_later n k succs le)

-- nor does an edge of any node from k on
all_later : (n k : ℕ) (nodes : List Node) → n ≤ k → first_leaving n (edges_from k nodes) ≡ 0
all_later n k [] le = refl
all_later n k (node ∷ nodes) le = first_leaving_append n (leaving k (node_succs node)) (edges_from (suc k) nodes) ∙ omega (arith, leaving_later n k (node_succs node) le, all_later n (suc k) nodes (omega (arith, le)))

-- the edges of the first of two joined lists of nodes are those before the first edge of the second
left_split : (k : ℕ) (nodes more : List Node) → first_leaving (k + length nodes) (edges_from k (nodes ++ more)) ≡ length (edges_from k nodes)
left_split k [] more = all_later (k + 0) k more (omega arith)
left_split k (node ∷ nodes) more =
    let e : suc k + length nodes ≡ k + suc (length nodes) = omega arith in
    let ih : first_leaving (k + suc (length nodes)) (edges_from (suc k) (nodes ++ more)) ≡ length (edges_from (suc k) nodes) = ap (λ n. first_leaving n (edges_from (suc k) (nodes ++ more))) (sym e) ∙ left_split (suc k) nodes more in
    first_leaving_append (k + suc (length nodes)) (leaving k (node_succs node)) (edges_from (suc k) (nodes ++ more))
    ∙ omega (arith, ih, leaving_left (k + suc (length nodes)) k (node_succs node) (omega arith), length-append (leaving k (node_succs node)) (edges_from (suc k) nodes))

-- the edges of the first i nodes are those before the first edge of node i
pub left_of_prefix : (nodes : List Node) (i : ℕ) → i ≤ length nodes → first_leaving i (edges_from 0 nodes) ≡ length (edges_from 0 (take i nodes))
left_of_prefix nodes i le =
    let whole : take i nodes ++ drop i nodes ≡ nodes = take-append-drop i nodes in
    let long : 0 + length (take i nodes) ≡ i = omega (arith, length-take-le i nodes le) in
    ap (λ n. first_leaving n (edges_from 0 nodes)) (sym long) ∙ ap (λ l. first_leaving (0 + length (take i nodes)) (edges_from 0 l)) (sym whole) ∙ left_split 0 (take i nodes) (drop i nodes)

-- ---- each edge leads to a successor of its source

-- edge, of nodes that are numbered from k on, leaves the m-th of them
pub record Found (nodes : List Node) (k : ℕ) (edge : Edge) : Type 0 where
  pub m : ℕ
  pub slot : ℕ
  pub source : edge.source ≡ k + m
  pub is : IsEdge nodes m slot edge.target

-- an edge among those of a node and later ones: at a slot of the node, or later
leaving_either : (k : ℕ) (succs : List ℕ) (more : List Edge) (i : ℕ) (edge : Edge)
    → slice_get (leaving k succs ++ more) i ≡ Some edge
    → ((i < length (leaving k succs)) × (edge.source ≡ k) × (slice_get succs i ≡ Some edge.target)) ⊎ ((j : ℕ) × (i ≡ length (leaving k succs) + j) × (slice_get more j ≡ Some edge))
leaving_either k [] more i edge e = inr (i, omega arith, e)
leaving_either k (s ∷ succs) more zero edge e = inl (omega arith, cc, cc)
leaving_either k (s ∷ succs) more (suc i) edge e = elim (leaving_either k succs more i edge e) [
  | inl p ↦ inl (omega (arith, p.0), p.1, p.2)
  | inr p ↦ inr (p.0, omega (arith, p.1), p.2)
]

-- each edge is one of a node, at a slot of it
pub edge_found : (nodes : List Node) (k i : ℕ) (edge : Edge) → slice_get (edges_from k nodes) i ≡ Some edge → Found nodes k edge
edge_found [] k i edge e = cc
edge_found (node ∷ nodes) k i edge e = elim (leaving_either k (node_succs node) (edges_from (suc k) nodes) i edge e) [
  | inl p ↦ record { m = 0; slot = i; source = omega (arith, p.1); is = p.2 }
  | inr p ↦ let f = edge_found nodes (suc k) p.0 edge p.2 in record { m = suc f.m; slot = f.slot; source = omega (arith, f.source); is = f.is }
]

-- each edge leads to a successor of its source
pub edge_is : (nodes : List Node) (k : ℕ) (edge : Edge) → slice_get (edges_from 0 nodes) k ≡ Some edge → HasEdge nodes edge.source edge.target
edge_is nodes k edge e =
    let f = edge_found nodes 0 k edge e in
    let source : f.m ≡ edge.source = omega (arith, f.source) in
    (f.slot, ap (λ m. slice_get (succs_at nodes m) f.slot) (sym source) ∙ f.is)

-- ---- the number of the edge at a slot

-- the edge at a slot of a node stands at that place of a list that begins with the node's edges
leaving_at : (k : ℕ) (succs : List ℕ) (more : List Edge) (slot s : ℕ) → slice_get succs slot ≡ Some s
    → slice_get (leaving k succs ++ more) slot ≡ Some (record { source = k; target = s })
leaving_at k [] more slot s e = cc
leaving_at k (t ∷ succs) more zero s e = let same : t ≡ s = cc in ap (λ n. Some (record { source = k; target = n })) same
leaving_at k (t ∷ succs) more (suc slot) s e = leaving_at k succs more slot s e

-- the same for nodes that are numbered from k on
number_from : (k : ℕ) (nodes : List Node) (m slot s : ℕ) → slice_get (succs_at nodes m) slot ≡ Some s
    → slice_get (edges_from k nodes) (length (edges_from k (take m nodes)) + slot) ≡ Some (record { source = k + m; target = s })
number_from k [] m slot s e = cc
number_from k (node ∷ nodes) zero slot s e =
    let here : 0 + slot ≡ slot = omega arith in
    let number : k ≡ k + 0 = omega arith in
    ap (slice_get (edges_from k (node ∷ nodes))) here ∙ leaving_at k (node_succs node) (edges_from (suc k) nodes) slot s e ∙ ap (λ n. Some (record { source = n; target = s })) number
number_from k (node ∷ nodes) (suc m) slot s e =
    let first = leaving k (node_succs node) in
    let here : length (first ++ edges_from (suc k) (take m nodes)) + slot ≡ length first + (length (edges_from (suc k) (take m nodes)) + slot) = omega (arith, length-append first (edges_from (suc k) (take m nodes))) in
    let number : suc k + m ≡ k + suc m = omega arith in
    ap (slice_get (edges_from k (node ∷ nodes))) here ∙ get_right first (edges_from (suc k) nodes) (length (edges_from (suc k) (take m nodes)) + slot) ∙ number_from (suc k) nodes m slot s e ∙ ap (λ n. Some (record { source = n; target = s })) number

-- the edge at a slot of a node has this number
pub edge_number : (nodes : List Node) (m slot s : ℕ) → IsEdge nodes m slot s
    → slice_get (edges_from 0 nodes) (first_leaving m (edges_from 0 nodes) + slot) ≡ Some (record { source = m; target = s })
edge_number nodes m slot s e =
    let lt = slot_within nodes m slot s e in
    let number : 0 + m ≡ m = omega arith in
    ap (λ n. slice_get (edges_from 0 nodes) (n + slot)) (left_of_prefix nodes m (omega (arith, lt))) ∙ number_from 0 nodes m slot s e ∙ ap (λ n. Some (record { source = n; target = s })) number

-- ---- the edges that leave a node stand together

-- no more edges leave nodes below n than there are, and no fewer below a greater n
pub leaving_few : (n : ℕ) (edges : List Edge) → first_leaving n edges ≤ length edges
leaving_few n [] = omega arith
leaving_few n (edge ∷ edges) = chosen (nat_lt edge.source n) (leaving_few n edges)
  where
    chosen : (b : Bool) → first_leaving n edges ≤ length edges → (if b then 1 else 0) + first_leaving n edges ≤ suc (length edges)
    chosen true le = omega (arith, le)
    chosen false le = omega (arith, le)

-- no fewer leave nodes below a greater bound
pub leaving_mono : (m n : ℕ) (edges : List Edge) → m ≤ n → first_leaving m edges ≤ first_leaving n edges
leaving_mono m n [] le = omega arith
leaving_mono m n (edge ∷ edges) le = elim (cases_lt edge.source m) [
  | inl lt ↦ omega (arith, leaving_mono m n edges le, ap {B = ℕ} (λ b. (if b then 1 else 0)) (lt-ltb edge.source m lt), ap {B = ℕ} (λ b. (if b then 1 else 0)) (lt-ltb edge.source n (omega (arith, lt, le))))
  | inr ge ↦ omega (arith, leaving_mono m n edges le, ap {B = ℕ} (λ b. (if b then 1 else 0)) (le-ltb edge.source m ge))
]

-- an edge stands among those of its source, where the nodes are numbered from b on
between : (b : ℕ) (nodes : List Node) (k : ℕ) (edge : Edge) → slice_get (edges_from b nodes) k ≡ Some edge
    → (first_leaving edge.source (edges_from b nodes) ≤ k) × (k < first_leaving (suc edge.source) (edges_from b nodes))
between b [] k edge e = cc
between b (node ∷ nodes) k edge e =
    let first = leaving b (node_succs node) in
    let later = edges_from (suc b) nodes in
    elim (leaving_either b (node_succs node) later k edge e) [
      | inl p ↦ (
        omega (arith, first_leaving_append edge.source first later, leaving_later edge.source b (node_succs node) (omega (arith, p.1)), all_later edge.source (suc b) nodes (omega (arith, p.1))),
        omega (arith, first_leaving_append (suc edge.source) first later, leaving_left (suc edge.source) b (node_succs node) (omega (arith, p.1)), p.0),
      )
      | inr p ↦
          let f = edge_found nodes (suc b) p.0 edge p.2 in
          let r = between (suc b) nodes p.0 edge p.2 in (
            omega (arith, first_leaving_append edge.source first later, leaving_left edge.source b (node_succs node) (omega (arith, f.source)), r.0, p.1),
            omega (arith, first_leaving_append (suc edge.source) first later, leaving_left (suc edge.source) b (node_succs node) (omega (arith, f.source)), r.1, p.1),
          )
    ]

-- an edge stands among those of its source
pub leaves_within : (nodes : List Node) (k : ℕ) (edge : Edge) → slice_get (edges_from 0 nodes) k ≡ Some edge
    → (first_leaving edge.source (edges_from 0 nodes) ≤ k) × (k < first_leaving (suc edge.source) (edges_from 0 nodes))
leaves_within nodes k edge e = between 0 nodes k edge e

-- and what stands among those of a node has it for its source
pub leaves_only : (nodes : List Node) (k n : ℕ) (edge : Edge) → slice_get (edges_from 0 nodes) k ≡ Some edge
    → first_leaving n (edges_from 0 nodes) ≤ k → k < first_leaving (suc n) (edges_from 0 nodes) → edge.source ≡ n
leaves_only nodes k n edge e low high =
    let r = between 0 nodes k edge e in
    elim (cases_lt edge.source n) [
      | inl lt ↦ absurd (omega (arith, r.1, low, leaving_mono (suc edge.source) n (edges_from 0 nodes) (omega (arith, lt))))
      | inr ge ↦ elim (cases_lt n edge.source) [
        | inl gt ↦ absurd (omega (arith, r.0, high, leaving_mono (suc n) edge.source (edges_from 0 nodes) (omega (arith, gt))))
        | inr le ↦ omega (arith, ge, le)
      ]
    ]
