-- On the corresponding path of each full path no plain or movable assignment stands more often than before. Cited by
-- contracts.
use Rattle.std.specs.Prelude.{◌≡◌, ◌≤◌, ℕ, false, nat_lt, filter, count_by, List, length}
use Rattle.mir_base.specs.declared.instructions.Rhs.{Rhs}
use Rattle.mir_base.specs.Expressions.{divides}
use Rattle.flow_graph.specs.declared.nodes.Node.{Node}
use Rattle.flow_graph.specs.Graphs.{GraphShape}
use Rattle.graph_edit.specs.Over.{IsOver}
use Rattle.flow_graph.specs.Paths.{IsFullPath}
use Rattle.graph_edit.specs.Accesses.{occurs_at}

-- one path of the result lies over this path of the graph, and for every variable x and every plain or movable right
-- side t there are at most as many nodes x <- t on it
pub record HasNoMoreOver (graph result : GraphShape) (path : List ℕ) : Type 0 where
  pub over : List ℕ
  pub is_over : IsOver graph.nodes result.nodes path over
  pub alone : (other : List ℕ) → IsOver graph.nodes result.nodes path other → other ≡ over
  pub no_more : (x : ℕ) (t : Rhs) → divides t ≡ false
      → count_by (occurs_at x t result) over ≤ count_by (occurs_at x t graph) path

-- the nodes of a path that are numbered as these, in their order
abbrev pub old_part : List Node → List ℕ → List ℕ
old_part nodes over = filter (λ n. nat_lt n (length nodes)) over

-- so it is of each full path of the graph, and each full path of the result lies over one of these
pub record HasNoMore (graph result : GraphShape) : Type 0 where
  pub each_over : (path : List ℕ) → IsFullPath graph.nodes path → HasNoMoreOver graph result path
  pub lies_over : (over : List ℕ) → IsFullPath result.nodes over
      → IsFullPath graph.nodes (old_part graph.nodes over)
  pub no_fewer : length graph.nodes ≤ length result.nodes
