-- The rows of edges that are those of their targets.
use Rattle.std.proofs.Common.{◌≡◌, ◌+◌, ℕ, zero, suc, Bool, Some, sym, ap, ◌∙◌, List, [], ◌∷◌, ◌++◌, length, map, slice_get, take}
use Rattle.std.proofs.lemmas.List.{length-map, map-append}
use Rattle.std.proofs.lemmas.Option.{same_Some}
use Rattle.bit_rows.specs.Bits.{row_of}
use Rattle.flow_graph.specs.declared.edges.Edge.{Edge}
use Rattle.flow_graph.specs.declared.nodes.Node.{Node}
use Rattle.flow_graph.specs.EdgeLaws.{edge_is}
use Rattle.flow_graph.specs.Edges.{AllEnter, edges_from, edges_of}
use Rattle.flow_graph.specs.Graphs.{AllWithin}
use Rattle.flow_graph.specs.ListLaws.{some_at, take_one}
use Rattle.path_laws.specs.Paths.{AreRows}
use Rattle.live_range.specs.Wanted.{rows_by_target}

-- one edge more
pub one_target_more : (edges : List Edge) (number : ℕ) (edge : Edge) (rows made new : List (List Bool)) → slice_get edges number ≡ Some edge → made ≡ rows_by_target (take number edges) rows → new ≡ made ++ row_of rows edge.target ∷ []
    → new ≡ rows_by_target (take (number + 1) edges) rows
one_target_more edges number edge rows made new at before put =
    let row : Edge → List Bool = λ other. row_of rows other.target in
    put ∙ ap (λ r. r ++ row edge ∷ []) before ∙ sym (ap (map row) (take_one edges number edge at) ∙ map-append row (take number edges) (edge ∷ []))

-- the row of an edge
pub target_row : (edges : List Edge) (rows : List (List Bool)) (k : ℕ) (edge : Edge) → slice_get edges k ≡ Some edge → row_of (rows_by_target edges rows) k ≡ row_of rows edge.target
target_row [] rows k edge at = cc
target_row (first ∷ edges) rows zero edge at = ap (λ (other : Edge). row_of rows other.target) (same_Some first edge at)
target_row (first ∷ edges) rows (suc k) edge at = target_row edges rows k edge at

-- the edges of a graph enter its nodes
pub edges_enter : (nodes : List Node) → AllWithin nodes → AllEnter (length nodes) (edges_from 0 nodes)
edges_enter nodes within = record { below = λ k edge at. let is = edge_is nodes k edge at in within edge.source is.0 edge.target is.1 }

-- so their rows have the shape of those of the nodes
pub target_shape : (nodes : List Node) (bits : ℕ) (rows : List (List Bool)) → AllWithin nodes → AreRows (length nodes) bits rows → AreRows (length (edges_of nodes).edges) bits (rows_by_target (edges_of nodes).edges rows)
target_shape nodes bits rows within shape = record {
  len = length-map (edges_from 0 nodes) (λ (edge : Edge). row_of rows edge.target);
  each = λ k k_in.
      let edge = some_at (edges_from 0 nodes) k k_in in
      ap length (target_row (edges_from 0 nodes) rows k edge.0 edge.1) ∙ shape.each edge.0.target ((edges_enter nodes within).below k edge.0 edge.1);
}
