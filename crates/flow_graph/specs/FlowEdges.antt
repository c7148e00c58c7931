-- The edges of a graph in the order of a flow, along them or against them, and lists of edges in order of their
-- sources. Cited by contracts.
use Rattle.std.specs.Prelude.{◌≡◌, ℕ, suc, ◌<◌, ◌≤◌, Bool, true, false, List, length, map, slice_get, slice_index_or, Some}
use Rattle.flow_graph.specs.declared.edges.Edge.{Edge}
use Rattle.flow_graph.specs.declared.nodes.Node.{Node}
pub use Rattle.flow_graph.specs.NumberTables.{number_at}
use Rattle.flow_graph.specs.Edges.{by_target, edges_from, edges_of, first_entering, first_leaving, EdgesShape}

-- an edge the other way round
abbrev pub reversed_edge : Edge → Edge
reversed_edge edge = record { source = edge.target; target = edge.source }

-- the edges in order of their sources, or, reversed, in order of their targets
abbrev pub edges_along : Bool → EdgesShape → List Edge
edges_along true edges = map reversed_edge (by_target edges.nodes edges.edges)
edges_along false edges = edges.edges

-- the edges of the flow, in order of their sources
abbrev pub flow_edges : Bool → List Node → List Edge
flow_edges against nodes = edges_along against (edges_of nodes)

-- the number of the first edge of a node
abbrev pub first_among : Bool → List Edge → ℕ → ℕ
first_among true edges n = first_entering n edges
first_among false edges n = first_leaving n edges

-- the same among the edges of a graph with these nodes
abbrev pub first_out : Bool → List Node → ℕ → ℕ
first_out against nodes n = first_among against (edges_from 0 nodes) n

-- the edge of this number, and past the last number an edge from node 0 to itself
abbrev pub edge_at : List Edge → ℕ → Edge
edge_at edges e = slice_index_or edges e (record { source = 0; target = 0 })

-- the edge of this number in the flow leads from this node to that one
abbrev pub IsFlowEdge : Bool → EdgesShape → ℕ → ℕ → ℕ → Type 0
IsFlowEdge against edges number source target = slice_get (edges_along against edges) number
    ≡ Some (record { source = source; target = target })

-- the edges of a flow lead from node to node, and those of one node stand together, from the first number of that node
-- to the first one of the next
pub record AreFlowEdges (nodes : ℕ) (edges : List Edge) (first : ℕ → ℕ) : Type 0 where
  pub ends : (e : ℕ) (edge : Edge) → slice_get edges e ≡ Some edge
      → (edge.source < nodes) × (edge.target < nodes)
  pub starts : (n : ℕ) → first n ≤ length edges
  pub stops : (n : ℕ) → first (suc n) ≤ length edges
  pub only : (e n : ℕ) (edge : Edge) → slice_get edges e ≡ Some edge → first n ≤ e
      → e < first (suc n) → edge.source ≡ n
  pub stands : (e : ℕ) (edge : Edge) → slice_get edges e ≡ Some edge
      → (first edge.source ≤ e) × (e < first (suc edge.source))

-- an edge of the list leads from node n to node m
abbrev pub StepAlong : List Edge → ℕ → ℕ → Type 0
StepAlong edges m n = (e : ℕ) × (e < length edges) × ((edge_at edges e).source ≡ n)
    × ((edge_at edges e).target ≡ m)
