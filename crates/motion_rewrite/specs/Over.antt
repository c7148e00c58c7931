-- The path of the result over a full path of the graph, and what is evaluated on it. Cited by contracts.
use Rattle.std.specs.Prelude.{◌≡◌, ℕ, count_by, Contains, List, slice_get, Some}
use Rattle.mir_base.specs.declared.instructions.Expr.{Expr}
use Rattle.flow_graph.specs.Graphs.{GraphShape}
use Rattle.graph_edit.specs.Over.{IsOver}
use Rattle.flow_graph.specs.Paths.{IsFullPath}
use Rattle.motion_rewrite.specs.declared.placement.Placement.{Placement}
use Rattle.motion_rewrite.specs.Expressions.{uses}
use Rattle.motion_rewrite.specs.Placements.{count, places_of}

-- there is one path over this one; the nodes on it whose right side is an expression of the table are as many as the
-- placement counts, and those with any other expression as many as before
pub record HasOver (graph result : GraphShape) (table : List Expr) (p : Placement)
    (path : List ℕ) : Type 0 where
  pub over : List ℕ
  pub is_over : IsOver graph.nodes result.nodes path over
  pub alone : (other : List ℕ) → IsOver graph.nodes result.nodes path other → other ≡ over
  pub counted : (i : ℕ) (e : Expr) → slice_get table i ≡ Some e
      → count_by (uses result e) over ≡ count graph e (places_of p i) path
  pub others : (e : Expr) → (Contains table e → ⊥)
      → count_by (uses result e) over ≡ count_by (uses graph e) path

-- so it is of each full path of the graph
abbrev pub HasOverEach : GraphShape → List Expr → Placement → GraphShape → Type 0
HasOverEach graph table p result = (path : List ℕ) → IsFullPath graph.nodes path
    → HasOver graph result table p path
