-- That no path through a graph is dearer once it is narrowed. Cited by contracts.
use Rattle.std.specs.Prelude.{◌↔◌, ◌≤◌, ℕ, List}
use Rattle.mir_base.specs.Expressions.{rhs_count}
use Rattle.flow_graph.specs.declared.nodes.Node.{Node}
use Rattle.flow_graph.specs.Graphs.{GraphShape}
use Rattle.flow_graph.specs.Paths.{IsFullPath}
use Rattle.flow_graph.specs.Sums.{sum_on}
use Rattle.graph_edit.specs.Over.{weight_at}

-- how many operators the nodes of a path evaluate
abbrev pub evaluated_on : List Node → List ℕ → ℕ
evaluated_on nodes path = sum_on (weight_at (λ x rhs. rhs_count rhs) nodes) path

-- the two graphs have the same paths from Start to a Return, and on none does the second evaluate more operators
pub record KeepsPaths (graph narrowed : GraphShape) : Type 0 where
  pub full : (path : List ℕ) → IsFullPath graph.nodes path ↔ IsFullPath narrowed.nodes path
  pub fewer : (path : List ℕ) → evaluated_on narrowed.nodes path ≤ evaluated_on graph.nodes path
