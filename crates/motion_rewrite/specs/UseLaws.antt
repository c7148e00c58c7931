-- Which node uses an expression: one that assigns it; and a node uses one expression at most. For proofs only, here and
-- above.
use Rattle.std.proofs.Common.{◌≡◌, ℕ, true, slice_get, Option, Some, None, sym, ap, ◌∙◌}
use Rattle.std.proofs.lemmas.Bool.{false≢true}
use Rattle.mir_base.specs.declared.instructions.Expr.{Expr}
use Rattle.mir_base.specs.ExpressionVars.{rhs_of}
use Rattle.mir_base.specs.SameExpressions.{expr_is, expr_itself, is_expr, of_rhs, rhs_is}
use Rattle.flow_graph.specs.declared.nodes.Node.{Node}
use Rattle.flow_graph.specs.declared.nodes.Node.TheVariants.{Start, Skip, Assign, Print, Guard, Call, Test, Return}
use Rattle.flow_graph.specs.Graphs.{GraphShape, rhs_at}
use Rattle.motion_rewrite.specs.Expressions.{uses}

-- a node uses e exactly where it assigns e
pub assign_uses : (graph : GraphShape) (e : Expr) (n x next : ℕ)
    → slice_get graph.nodes n ≡ Some (Assign x (rhs_of e) next) → uses graph e n ≡ true
assign_uses graph e n x next here = ap (λ o. is_expr e (rhs_at o)) here ∙ of_rhs e e ∙ expr_itself e

-- what has e as its right side assigns e
node_assigns : (e : Expr) (o : Option Node) → is_expr e (rhs_at o) ≡ true
    → (x : ℕ) × (next : ℕ) × (o ≡ Some (Assign x (rhs_of e) next))
node_assigns e None is = absurd (false≢true is)
node_assigns e (Some (Start next)) is = absurd (false≢true is)
node_assigns e (Some (Skip next)) is = absurd (false≢true is)
node_assigns e (Some (Assign x rhs next)) is = (x, next, ap (λ r. Some (Assign x r next)) (rhs_is e rhs is))
node_assigns e (Some (Print a next)) is = absurd (false≢true is)
node_assigns e (Some (Guard test number next)) is = absurd (false≢true is)
node_assigns e (Some (Call into unit operands next)) is = absurd (false≢true is)
node_assigns e (Some (Test test taken other)) is = absurd (false≢true is)
node_assigns e (Some (Return a)) is = absurd (false≢true is)

-- so a node that uses e assigns e
pub uses_assign : (graph : GraphShape) (e : Expr) (n : ℕ) → uses graph e n ≡ true
    → (x : ℕ) × (next : ℕ) × (slice_get graph.nodes n ≡ Some (Assign x (rhs_of e) next))
uses_assign graph e n is = node_assigns e (slice_get graph.nodes n) is

-- two expressions that one node uses are one
pub used_once : (graph : GraphShape) (e e' : Expr) (n : ℕ) → uses graph e n ≡ true → uses graph e' n ≡ true → e ≡ e'
used_once graph e e' n is is' =
    let here = (uses_assign graph e n is).2 in
    sym (expr_is e' e (sym (of_rhs e' e) ∙ ap (λ o. is_expr e' (rhs_at o)) (sym here) ∙ is'))
