use Rattle.std.proofs.Common.{◌≡◌, true, ap, length, ◌∙◌}
use Rattle.mir_base.specs.declared.instructions.Expr.{Expr}
use Rattle.mir_base.specs.Expressions.{is_movable}
use Rattle.mir_base.specs.ExpressionVars.{expr_vars, rhs_of}
use Rattle.mir_base.specs.Shapes.{AllBelow}
use Rattle.motion_rewrite.specs.ExprTables.{expr_at, movable_exprs}
use Rattle.motion_rewrite.proofs.Inserts.{IsTableOf, node_movable, table_taken}
use Rattle.motion_rewrite.proofs.table.exprs.Goals as goal
use Rattle.motion_rewrite.proofs.table.exprs.Goals.{In_ok-exprs}

-- movable, with variables below this number
abbrev IsMovableExpr : In_ok-exprs → Expr → Type 0
IsMovableExpr c e = (is_movable (rhs_of e) ≡ true) × AllBelow (length c.args.graph.now.vars) (expr_vars e)

-- the keys that were taken are the movable expressions of the nodes
table : (c : In_ok-exprs) → IsTableOf (length c.args.graph.now.vars) expr_at (IsMovableExpr c) (node_movable (length c.args.graph.now.vars)) c.nodes-nodes.result.now c.in_ok-exprs.exprs
table c = table_taken (length c.args.graph.now.vars) expr_at (IsMovableExpr c) (node_movable (length c.args.graph.now.vars)) c.nodes-nodes.result.now c.in_ok-exprs.exprs c.nodes-nodes.ensures.graph.can.below c.in_ok-exprs.ensures.keys

pub returns-clause-exprs : goal.returns-clause-exprs
returns-clause-exprs c = (table (goal.at.returns-clause-exprs c).In_ok-exprs).are ∙ ap movable_exprs c.nodes-nodes.ensures.value

pub returns-clause-movable : goal.returns-clause-movable
returns-clause-movable c = let each = (table (goal.at.returns-clause-movable c).In_ok-exprs).good in record { movable = λ i e at. (each i e at).0; below = λ i e at. (each i e at).1 }
