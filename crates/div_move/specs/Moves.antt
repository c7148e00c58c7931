-- What moving the divisions of a graph makes of it. Cited by contracts.
use Rattle.std.specs.Prelude.{◌≡◌, ◌<◌, ℕ, true, List, length}
use Rattle.mir_base.specs.declared.instructions.Expr.{Expr}
use Rattle.graph_edit.specs.Along.{RunsFollow}
use Rattle.flow_graph.specs.Edges.{IsSplit}
use Rattle.flow_graph.specs.Graphs.{GraphShape}
use Rattle.flow_graph.specs.Passes.{GraphKeeps}
use Rattle.path_laws.specs.Paths.{has_bit}
use Rattle.motion_rewrite.specs.declared.placement.Placement.{Placement}
use Rattle.motion_rewrite.specs.Flatten.{IsFlattened}
use Rattle.motion_rewrite.specs.Over.{HasOverEach}
use Rattle.motion_rewrite.specs.Placements.{AreOptimal, InsertionsTrapAlike}
use Rattle.motion_rewrite.specs.ExprTables.{ForEachExpr, dividing_exprs}
use Rattle.latest_place.specs.Lazy.{IsLazyPlacement}
use Rattle.div_move.specs.declared.moving.DivMove.{DivMove}
use Rattle.div_move.specs.declared.moving.Placed.{Placed}
use Rattle.div_move.specs.MustCome.{MustComeTo, RunsComeTo}

-- each expression is inserted only where a run of the graph, with any arguments and values, is sure to come to a node
-- that uses it, after steps that show nothing, and the variables that it reads have their values still
abbrev pub InsertionsCome : GraphShape → List Expr → Placement → Type 0
InsertionsCome graph table p =
    ForEachExpr table
    (λ i e. (n : ℕ) → n < length graph.nodes → has_bit p.insert i n ≡ true
    → RunsComeTo graph e n)

-- the table has the expressions that divide, in order of the first node that evaluates each; the placement is their
-- lazy one, and the graph is rewritten by it
pub record IsDivMove (graph : GraphShape) (made : DivMove) : Type 0 where
  pub table_is : made.table ≡ dividing_exprs graph.nodes
  pub placed : IsLazyPlacement MustComeTo graph made.table made.placement
  pub flattened : IsFlattened graph made.table made.placement made.moved

-- the same of a table, with what `move_dividing` ensures of it
pub record PlacesDivisions (graph : GraphShape) (table : List Expr) (made : Placed) : Type 0 where
  pub placed : IsLazyPlacement MustComeTo graph table made.placement
  pub flattened : IsFlattened graph table made.placement made.moved
  pub keeps : GraphKeeps graph made.moved
  pub is_split : IsSplit made.moved.nodes
  pub comes : InsertionsCome graph table made.placement
  pub traps : InsertionsTrapAlike graph table made.placement
  pub optimal : AreOptimal graph table (MustComeTo graph) made.placement
  pub paths : HasOverEach graph table made.placement made.moved
  pub runs : RunsFollow graph made.moved
