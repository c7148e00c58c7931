use Rattle.std.proofs.Common.{◌≡◌, true, ap, length, ◌∙◌}
use Rattle.mir_base.specs.declared.instructions.Expr.{Expr}
use Rattle.mir_base.specs.Expressions.{divides}
use Rattle.mir_base.specs.ExpressionVars.{expr_vars, rhs_of}
use Rattle.mir_base.specs.Shapes.{AllBelow}
use Rattle.motion_rewrite.specs.ExprTables.{dividing_at, dividing_exprs}
use Rattle.motion_rewrite.proofs.Inserts.{IsTableOf, node_divides, table_taken}
use Rattle.motion_rewrite.proofs.table.dividing_exprs.Goals as goal
use Rattle.motion_rewrite.proofs.table.dividing_exprs.Goals.{In_ok-exprs}

-- dividing, with variables below this number
abbrev IsDividingExpr : In_ok-exprs → Expr → Type 0
IsDividingExpr c e = (divides (rhs_of e) ≡ true) × AllBelow (length c.args.graph.now.vars) (expr_vars e)

-- the keys that were taken are the dividing expressions of the nodes
table : (c : In_ok-exprs) → IsTableOf (length c.args.graph.now.vars) dividing_at (IsDividingExpr c) (node_divides (length c.args.graph.now.vars)) c.nodes-nodes.result.now c.in_ok-exprs.exprs
table c = table_taken (length c.args.graph.now.vars) dividing_at (IsDividingExpr c) (node_divides (length c.args.graph.now.vars)) c.nodes-nodes.result.now c.in_ok-exprs.exprs c.nodes-nodes.ensures.graph.can.below c.in_ok-exprs.ensures.keys

pub returns-clause-exprs : goal.returns-clause-exprs
returns-clause-exprs c = (table (goal.at.returns-clause-exprs c).In_ok-exprs).are ∙ ap dividing_exprs c.nodes-nodes.ensures.value

pub returns-clause-dividing : goal.returns-clause-dividing
returns-clause-dividing c = λ i e at. ((table (goal.at.returns-clause-dividing c).In_ok-exprs).good i e at).0

pub returns-clause-over : goal.returns-clause-over
returns-clause-over c = λ i e at. ((table (goal.at.returns-clause-over c).In_ok-exprs).good i e at).1
