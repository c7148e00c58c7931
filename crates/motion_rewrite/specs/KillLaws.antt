-- What does not kill an expression assigns none of its variables. For proofs only, here and above.
use Rattle.std.proofs.Common.{◌≡◌, false, Some}
use Rattle.std.specs.List.{list_any}
use Rattle.std.proofs.lemmas.Bool.{or_parts}
use Rattle.mir_base.specs.declared.instructions.Expr.{Expr}
use Rattle.mir_base.specs.ExpressionVars.{expr_vars}
use Rattle.flow_graph.specs.declared.nodes.Node.{Node}
use Rattle.flow_graph.specs.Graphs.{GraphShape, assigns, is_start}
use Rattle.graph_edit.specs.VarLaws.{NoneAssigned, none_assigned}
use Rattle.motion_rewrite.specs.Expressions.{node_kills}

-- what does not kill e assigns none of the variables that e reads
pub kills_none : (graph : GraphShape) (e : Expr) (node : Node)
    → node_kills graph e (Some node) ≡ false → NoneAssigned graph node (expr_vars e)
kills_none graph e node kept = none_assigned graph node (expr_vars e) (or_parts (is_start node) (list_any (λ x. assigns graph x node) (expr_vars e)) kept).1
