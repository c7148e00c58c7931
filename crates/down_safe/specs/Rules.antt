-- What a down rule keeps. Cited by contracts.
use Rattle.std.specs.Prelude.{ℕ}
use Rattle.mir_base.specs.declared.instructions.Expr.{Expr}
use Rattle.flow_graph.specs.Edges.{IsSplit}
use Rattle.flow_graph.specs.Graphs.{GraphShape, IsGraph}
use Rattle.motion_rewrite.specs.Placements.{DownLaws}

-- what it says of a graph and an expression has the laws of a down rule, on every split graph
abbrev pub HasDownLaws : (GraphShape → Expr → ℕ → Type 0) → Type 0
HasDownLaws Down = (graph : GraphShape) → IsGraph graph.vars graph.received graph.nodes
    → IsSplit graph.nodes → (e : Expr) → DownLaws graph e (Down graph e)
