-- The sources of the edges that enter a node.
use Rattle.std.proofs.Common.{◌≡◌, ℕ, ◌+◌, ◌<◌, List, ◌++◌, length, drop, slice_get, slice_index_or, Some, ◌⊎◌, inl, inr, sym, subst}
use Rattle.flow_graph.specs.BoundLaws.{edge_within}
use Rattle.flow_graph.specs.declared.edges.Edge.{Edge}
use Rattle.flow_graph.specs.declared.nodes.Node.{Node}
use Rattle.flow_graph.specs.Graphs.{succs_of}
use Rattle.flow_graph.specs.Edges.{edges_from, preds_among}
use Rattle.flow_graph.specs.EdgeLaws.{pred_has, pred_is}
use Rattle.jump_clean.proofs.Follow.{in_rest, in_place}
use Rattle.jump_clean.proofs.Moves.{in_either, in_left, in_right}
use Rattle.flow_graph.specs.MemberLaws.{in_at, place_of_member}
use Rattle.flow_graph.specs.Numbering.{IsIn}

-- a node that leads to node s is one of the sources
pub in_preds : (nodes : List Node) (m s slot : ℕ) → slice_get (succs_of (slice_get nodes m)) slot ≡ Some s → IsIn m (preds_among s (edges_from 0 nodes))
in_preds nodes m s slot e = let r = pred_has nodes m s (slot, e) in in_at (preds_among s (edges_from 0 nodes)) r.0 m r.1

-- and each source is a node
pub pred_within : (nodes : List Node) (s m : ℕ) → IsIn m (preds_among s (edges_from 0 nodes)) → m < length nodes
pred_within nodes s m h =
    let p = place_of_member m (preds_among s (edges_from 0 nodes)) h in
    edge_within nodes m s (pred_is nodes s p.0 m p.1)

-- ---- the sources for several nodes

-- the sources for one more node
pub more_preds : (nodes : List ℕ) (edges : List Edge) (i : ℕ) (preds preds' : List ℕ) → i < length nodes → preds' ≡ preds ++ preds_among (slice_index_or nodes i 0) edges → ((n m : ℕ) → IsIn n nodes → IsIn m (preds_among n edges) → IsIn m preds ⊎ IsIn n (drop i nodes)) → (n m : ℕ) → IsIn n nodes → IsIn m (preds_among n edges) → IsIn m preds' ⊎ IsIn n (drop (i + 1) nodes)
more_preds nodes edges i preds preds' lt is all n m h h' = elim (all n m h h') [
  | inl p ↦ inl (subst (IsIn m) (sym is) (in_left m preds (preds_among (slice_index_or nodes i 0) edges) p))
  | inr p ↦ elim (in_rest nodes i n lt p) [
    | inl same ↦ inl (subst (IsIn m) (sym is) (in_right m preds (preds_among (slice_index_or nodes i 0) edges) (subst (λ k. IsIn m (preds_among k edges)) (sym same) h')))
    | inr later ↦ inr later
  ]
]

-- and no others
pub only_preds : (nodes : List ℕ) (edges : List Edge) (i : ℕ) (preds preds' : List ℕ) → i < length nodes → preds' ≡ preds ++ preds_among (slice_index_or nodes i 0) edges → ((m : ℕ) → IsIn m preds → (n : ℕ) × IsIn n nodes × IsIn m (preds_among n edges)) → (m : ℕ) → IsIn m preds' → (n : ℕ) × IsIn n nodes × IsIn m (preds_among n edges)
only_preds nodes edges i preds preds' lt is only m h = elim (in_either m preds (preds_among (slice_index_or nodes i 0) edges) (subst (IsIn m) is h)) [
  | inl p ↦ only m p
  | inr p ↦ (slice_index_or nodes i 0, in_place nodes i lt, p)
]
