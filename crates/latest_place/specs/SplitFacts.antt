-- What the proofs use of a split graph: where its edges lead, and that into each node lead edges from one node alone,
-- or from Skips alone. For proofs only.
use Rattle.std.proofs.Common.{◌≡◌, ◌<◌, ◌⊎◌, ℕ, true, false, List, length, slice_get, Some, arith}
use Rattle.std.proofs.lemmas.Option.{slice_get_within}
use Rattle.mir_base.specs.declared.instructions.Expr.{Expr}
use Rattle.flow_graph.specs.declared.nodes.Node.TheVariants.{Skip}
use Rattle.flow_graph.specs.Edges.{IsSplit}
use Rattle.flow_graph.specs.Graphs.{GraphShape, IsGraph}
use Rattle.graph_edit.specs.JoinLaws.{one_or_skips}
use Rattle.flow_graph.specs.PathLaws.{reached_trace}
use Rattle.flow_graph.specs.Paths.{HasEdge, Trace, from_start, goes_on}
use Rattle.flow_graph.specs.BoundLaws.{edge_within}
use Rattle.motion_rewrite.specs.ExpressionLaws.{start_kills, start_unused}
use Rattle.motion_rewrite.specs.Expressions.{kills, uses}

-- Start has no edge into it, uses nothing and kills all; edges join nodes that are there; each node is reached
pub record SplitFacts (graph : GraphShape) : Type 0 where
  pub start_below : 0 < length graph.nodes
  pub start_unentered : (m : ℕ) → HasEdge graph.nodes m 0 → ⊥
  pub start_kills : (e : Expr) → kills graph e 0 ≡ true
  pub start_unused : (e : Expr) → uses graph e 0 ≡ false
  pub sources_below : (m n : ℕ) → HasEdge graph.nodes m n → m < length graph.nodes
  pub targets_below : (m n : ℕ) → HasEdge graph.nodes m n → n < length graph.nodes
  pub reached : (n : ℕ) → n < length graph.nodes → (before : List ℕ) × Trace graph.nodes n before
  pub one_or_skips : (n : ℕ)
      → ((m k : ℕ) → HasEdge graph.nodes m n → HasEdge graph.nodes k n → m ≡ k)
      ⊎ ((m : ℕ) → HasEdge graph.nodes m n → slice_get graph.nodes m ≡ Some (Skip n))

-- so it is of every split graph
pub split_facts : (graph : GraphShape) → IsGraph graph.vars graph.received graph.nodes
    → IsSplit graph.nodes → SplitFacts graph
split_facts graph is_graph split = record {
  start_below = slice_get_within graph.nodes 0 _ is_graph.can.start.1;
  start_unentered = λ m edge. let above = (is_graph.can.succs m edge.0 0 edge.1).0 in absurd (omega arith);
  start_kills = λ e. start_kills graph e is_graph.can.start.0 0 is_graph.can.start.1;
  start_unused = λ e. start_unused graph e is_graph.can.start.0 0 is_graph.can.start.1;
  sources_below = λ m n edge. edge_within graph.nodes m n edge;
  targets_below = λ m n edge. (is_graph.can.succs m edge.0 n edge.1).1;
  reached = λ n below. reached_trace graph.nodes n (is_graph.reached n below);
  one_or_skips = one_or_skips graph.nodes (λ m slot s edge. (is_graph.can.succs m slot s edge).1) split;
}

-- a node that has a trace is there
pub trace_below : (graph : GraphShape) → SplitFacts graph → (n : ℕ) (before : List ℕ)
    → Trace graph.nodes n before → n < length graph.nodes
trace_below graph facts n before from_start = facts.start_below
trace_below graph facts n before (goes_on m k earlier trace edge) = facts.targets_below m n edge
