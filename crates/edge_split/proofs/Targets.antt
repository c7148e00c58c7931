-- The targets of the edges of a list of nodes, in the order of the edges, and how often a number is among them.
use Rattle.std.proofs.Common.{◌≡◌, ℕ, zero, suc, ◌+◌, ◌<◌, ◌≤◌, Bool, true, false, cond, eqb, List, [], ◌∷◌, ◌++◌, length, map, slice_get, Some, option_map, inl, inr, refl, sym, ap, ◌∙◌, subst, arith, take, append-nil, append_assoc, ltb, min, replicate, if◌then◌else◌, nat_eq}
use Rattle.std.specs.Prelude.{flat_map, slice_index, slice_set}
use Rattle.std.proofs.lemmas.Bool.{cases_eq, cases_lt, eq-eqb, le-ltb, lt-ltb, ne_eqb}
use Rattle.std.proofs.lemmas.List.{get_or-replicate, get_or-set_other, get_or-set_same, get_or_past, length-replicate, map-append}
use Rattle.std.proofs.lemmas.Option.{slice_get-map}
use Rattle.mir_base.specs.Shapes.{AllBelow}
use Rattle.flow_graph.specs.declared.edges.Edge.{Edge}
use Rattle.flow_graph.specs.declared.nodes.Node.{Node}
use Rattle.flow_graph.specs.NodeLaws.{mapped_from}
use Rattle.flow_graph.specs.EdgeLaws.{edge_is, edge_number}
use Rattle.flow_graph.specs.Edges.{leaving, edges_from, first_leaving, preds_among, preds_of}
use Rattle.flow_graph.specs.Graphs.{node_succs, succs_at, IsEdge}
use Rattle.flow_graph.specs.Paths.{HasEdge}
use Rattle.node_list.specs.Lists.{times_in}
use Rattle.edge_split.specs.Split.{joins_among, through_skips}

-- ---- targets

-- the target of an edge
abbrev pub edge_target : Edge → ℕ
edge_target edge = edge.target

-- the successors of all nodes, in order
abbrev pub targets : List Node → List ℕ
targets nodes = flat_map node_succs nodes

-- the edges that leave a node have its successors as targets
leaving_targets : (n : ℕ) (succs : List ℕ) → map edge_target (leaving n succs) ≡ succs
leaving_targets n [] = refl
leaving_targets n (s ∷ succs) = ap (λ l. s ∷ l) (leaving_targets n succs)

-- the edges in order have just these targets
pub edges_targets : (k : ℕ) (nodes : List Node) → map edge_target (edges_from k nodes) ≡ targets nodes
edges_targets k [] = refl
edges_targets k (node ∷ nodes) =
    map-append edge_target (leaving k (node_succs node)) (edges_from (suc k) nodes)
    ∙ ap (λ l. l ++ map edge_target (edges_from (suc k) nodes)) (leaving_targets k (node_succs node))
    ∙ ap (λ l. node_succs node ++ l) (edges_targets (suc k) nodes)

-- the target of each edge is among them, and each of them is the target of an edge
pub edge_place : (nodes : List Node) (m slot s : ℕ) → IsEdge nodes m slot s → (i : ℕ) × (slice_get (targets nodes) i ≡ Some s)
edge_place nodes m slot s e =
    let i = first_leaving m (edges_from 0 nodes) + slot in
    (i, ap (λ l. slice_get l i) (sym (edges_targets 0 nodes)) ∙ slice_get-map edge_target (edges_from 0 nodes) i ∙ ap (option_map edge_target) (edge_number nodes m slot s e))

-- and back
pub place_edge : (nodes : List Node) (i s : ℕ) → slice_get (targets nodes) i ≡ Some s → (m : ℕ) × HasEdge nodes m s
place_edge nodes i s e =
    let p = mapped_from edge_target (slice_get (edges_from 0 nodes) i) s (sym (slice_get-map edge_target (edges_from 0 nodes) i) ∙ ap (λ l. slice_get l i) (edges_targets 0 nodes) ∙ e) in
    (p.0.source, subst (HasEdge nodes p.0.source) p.2 (edge_is nodes i p.0 p.1))

-- ---- how often a number is among them

-- among any edges, each that leads to the node gives it one predecessor
among_times : (s : ℕ) (edges : List Edge) → length (preds_among s edges) ≡ times_in s (map edge_target edges)
among_times s [] = refl
among_times s (edge ∷ edges) = chosen (eqb edge.target s) (among_times s edges)
  where
    chosen : (b : Bool) → length (preds_among s edges) ≡ times_in s (map edge_target edges) → length (cond b (edge.source ∷ preds_among s edges) (preds_among s edges)) ≡ cond b 1 0 + times_in s (map edge_target edges)
    chosen true e = omega (arith, e)
    chosen false e = omega (arith, e)

-- as many edges enter s as there are targets s
pub preds_times : (nodes : List Node) (s : ℕ) → length (preds_of nodes s) ≡ times_in s (targets nodes)
preds_times nodes s = among_times s (edges_from 0 nodes) ∙ ap (times_in s) (edges_targets 0 nodes)

-- the targets of one more node
targets_next : (nodes : List Node) (n : ℕ) → n < length nodes → targets (take (suc n) nodes) ≡ targets (take n nodes) ++ succs_at nodes n
targets_next [] n lt = absurd (omega (arith, lt))
targets_next (m ∷ nodes) zero lt = append-nil (node_succs m)
targets_next (m ∷ nodes) (suc n) lt = ap (λ l. node_succs m ++ l) (targets_next nodes n (omega (arith, lt))) ∙ sym (append_assoc (node_succs m) (targets (take n nodes)) (succs_at nodes n))

-- the targets of one more node
pub targets_front : (nodes : List Node) (n : ℕ) → n < length nodes → targets (take (n + 1) nodes) ≡ targets (take n nodes) ++ succs_at nodes n
targets_front nodes n lt = let next : n + 1 ≡ suc n = omega arith in ap (λ k. targets (take k nodes)) next ∙ targets_next nodes n lt

-- one more of these numbers
times_next : (s : ℕ) (ts : List ℕ) (i : ℕ) → i < length ts → times_in s (take (suc i) ts) ≡ times_in s (take i ts) + (if nat_eq (slice_index ts i) s then 1 else 0)
times_next s [] i lt = absurd (omega (arith, lt))
times_next s (t ∷ ts) zero lt = omega arith
times_next s (t ∷ ts) (suc i) lt = omega (arith, times_next s ts i (omega (arith, lt)))

-- and one more of the numbers
pub times_front : (s : ℕ) (ts : List ℕ) (i : ℕ) → i < length ts → times_in s (take (i + 1) ts) ≡ times_in s (take i ts) + (if nat_eq (slice_index ts i) s then 1 else 0)
times_front s ts i lt = let next : i + 1 ≡ suc i = omega arith in ap (λ k. times_in s (take k ts)) next ∙ times_next s ts i lt

-- a number of the list is below the bound
pub item_below : (n : ℕ) (ts : List ℕ) (i : ℕ) → AllBelow n ts → i < length ts → slice_index ts i < n
item_below n [] i h lt = absurd (omega (arith, lt))
item_below n (t ∷ ts) zero h lt = h.0
item_below n (t ∷ ts) (suc i) h lt = item_below n ts i h.1 (omega (arith, lt))

-- ---- counts up to two

-- one more for node t
pub counted_one : (counts : List ℕ) (t v : ℕ) → t < length counts → v ≡ slice_index counts t → (s : ℕ) → slice_index counts s ≤ 2 → slice_index (slice_set counts t (min 2 (v + 1))) s ≡ min 2 (slice_index counts s + (if nat_eq t s then 1 else 0))
counted_one counts t v lt is s few = elim (cases_eq s t) as (λ _. slice_index (slice_set counts t (min 2 (v + 1))) s ≡ min 2 (slice_index counts s + (if nat_eq t s then 1 else 0))) [
  | inl e ↦ rw (e, get_or-set_same counts t (min 2 (v + 1)) 0 lt, eq-eqb t t refl) (omega (arith, is))
  | inr d ↦ rw (get_or-set_other counts t s (min 2 (v + 1)) 0 d, ne_eqb t s (λ e. d (sym e))) (omega (arith, few))
]

-- before the first edge all counts are 0
pub none_counted : (n s : ℕ) → slice_index (replicate n 0) s ≡ 0
none_counted n s = elim (cases_lt s n) as (λ _. slice_index (replicate n 0) s ≡ 0) [
  | inl within ↦ get_or-replicate {A = ℕ} n s 0 0 within
  | inr past ↦ get_or_past {X = ℕ} (replicate n 0) s 0 (rw (length-replicate {A = ℕ} n 0) past)
]

-- two is more than one
pub more_of_two : (n : ℕ) → ltb 1 (min 2 n) ≡ ltb 1 n
more_of_two n = elim (cases_lt 1 n) as (λ _. ltb 1 (min 2 n) ≡ ltb 1 n) [
  | inl more ↦ lt-ltb 1 (min 2 n) (omega (arith, more)) ∙ sym (lt-ltb 1 n more)
  | inr few ↦ le-ltb 1 (min 2 n) (omega (arith, few)) ∙ sym (le-ltb 1 n few)
]

-- ---- tests that agree everywhere

module _ (f g : ℕ → Bool) (same : (s : ℕ) → f s ≡ g s) where
  pub same_joins : (xs : List ℕ) → joins_among f xs ≡ joins_among g xs
  same_joins [] = refl
  same_joins (x ∷ xs) = ap (λ b. cond b (x ∷ joins_among f xs) (joins_among f xs)) (same x) ∙ ap (λ l. cond (g x) (x ∷ l) l) (same_joins xs)

  pub same_through : (xs : List ℕ) (k : ℕ) → through_skips f k xs ≡ through_skips g k xs
  same_through [] k = refl
  same_through (x ∷ xs) k =
      ap (λ b. cond b (k ∷ through_skips f (suc k) xs) (x ∷ through_skips f k xs)) (same x)
      ∙ ap (λ l. cond (g x) (k ∷ l) (x ∷ through_skips f k xs)) (same_through xs (suc k))
      ∙ ap (λ l. cond (g x) (k ∷ through_skips g (suc k) xs) (x ∷ l)) (same_through xs k)
