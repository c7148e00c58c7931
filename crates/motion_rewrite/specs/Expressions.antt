-- What a node does with an expression: it uses it where its right side is exactly this expression, and kills it where
-- it assigns a variable that the expression reads, or is Start. A node that does both uses before it kills. Cited by
-- contracts.
use Rattle.std.specs.Prelude.{ℕ, Bool, false, ◌||◌, slice_get, Option, Some, None}
use Rattle.std.specs.List.{list_any}
use Rattle.mir_base.specs.declared.instructions.Expr.{Expr}
use Rattle.mir_base.specs.ExpressionVars.{expr_vars}
use Rattle.mir_base.specs.SameExpressions.{is_expr}
use Rattle.flow_graph.specs.declared.nodes.Node.{Node}
use Rattle.flow_graph.specs.Graphs.{GraphShape, assigns, is_start, rhs_at}

-- ---- uses

-- the node, where there is one, has e as its right side
abbrev pub node_uses : Expr → Option Node → Bool
node_uses e node = is_expr e (rhs_at node)

-- node n uses e
abbrev pub uses : GraphShape → Expr → ℕ → Bool
uses graph e n = node_uses e (slice_get graph.nodes n)

-- ---- kills

-- the node, where there is one, assigns a variable that e reads, or is Start, which kills every expression
abbrev pub node_kills : GraphShape → Expr → Option Node → Bool
node_kills graph e None = false
node_kills graph e (Some node) = is_start node || list_any (λ x. assigns graph x node) (expr_vars e)

-- node n kills e
abbrev pub kills : GraphShape → Expr → ℕ → Bool
kills graph e n = node_kills graph e (slice_get graph.nodes n)
