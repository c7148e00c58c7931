-- The bits of the rows of uses and kills, at one node.
use Rattle.std.proofs.Common.{◌≡◌, ◌↔◌, ℕ, Bool, true, nat_eq, nat_lt, ◌||◌, [], ◌∷◌, ap, ◌∙◌, List, slice_get, Option, None, Some, refl, sym}
use Rattle.std.specs.List.{list_any}
use Rattle.mir_base.specs.declared.instructions.Expr.{Expr}
use Rattle.mir_base.specs.ExpressionVars.{expr_vars, written_expr}
use Rattle.mir_base.specs.SameExpressions.{is_expr, is_written}
use Rattle.flow_graph.specs.declared.nodes.Node.{Node}
use Rattle.flow_graph.specs.declared.nodes.Node.TheVariants.{Start, Skip, Assign, Print, Guard, Call, Test, Return}
use Rattle.flow_graph.specs.Graphs.{GraphShape, node_rhs, rhs_at}
use Rattle.flow_graph.specs.Numbering.{is_in}
use Rattle.flow_graph.specs.NumberingLaws.{in_any}
use Rattle.graph_edit.specs.VarLaws.{assigns_none}
use Rattle.key_rows.specs.BelowLaws.{any_in, or_swap}
use Rattle.key_rows.specs.KeyRows.{HasKey, any_assigned, key_in}
use Rattle.motion_rewrite.specs.Expressions.{node_kills, node_uses}

-- the expression that the right side of a node is
abbrev pub written_at : Node → Option Expr
written_at node = written_expr (node_rhs node)

-- a node uses the expression that its right side is
pub uses_written : (nodes : List Node) (n : ℕ) (e : Expr) → (node_uses e (slice_get nodes n) ≡ true) ↔ HasKey written_at nodes e n
uses_written nodes n e = by (slice_get nodes n)
  where
    by : (o : Option Node) → (is_expr e (rhs_at o) ≡ true) ↔ (key_in written_at o ≡ Some e)
    by None = (λ on. cc, λ has. cc)
    by (Some node) = is_written e (node_rhs node)

-- where one of two tests holds of one of a list, one of them does so
any_or : (f g : ℕ → Bool) (xs : List ℕ) → list_any (λ x. f x || g x) xs ≡ (list_any f xs || list_any g xs)
any_or f g [] = refl
any_or f g (x ∷ xs) = ap (λ b. (f x || g x) || b) (any_or f g xs) ∙ or_swap (f x) (g x) (list_any f xs) (list_any g xs)

-- a node kills an expression where it is Start or assigns one of its variables
pub kills_assigned : (graph : GraphShape) (e : Expr) (node : Option Node) → any_assigned true graph.shared (λ x. is_in x (expr_vars e)) node ≡ node_kills graph e node
kills_assigned graph e None = refl
kills_assigned graph e (Some (Start next)) = refl
kills_assigned graph e (Some (Skip next)) = sym (assigns_none (expr_vars e))
kills_assigned graph e (Some (Assign x rhs next)) = in_any x (expr_vars e)
kills_assigned graph e (Some (Print a next)) = sym (assigns_none (expr_vars e))
kills_assigned graph e (Some (Guard test number next)) = sym (assigns_none (expr_vars e))
kills_assigned graph e (Some (Call None unit arguments next)) = any_in graph.shared (expr_vars e)
kills_assigned graph e (Some (Call (Some x) unit arguments next)) =
    ap (λ b. b || is_in x (expr_vars e)) (any_in graph.shared (expr_vars e)) ∙ ap (λ b. list_any (λ y. nat_lt y graph.shared) (expr_vars e) || b) (in_any x (expr_vars e)) ∙ sym (any_or (λ y. nat_lt y graph.shared) (λ y. nat_eq y x) (expr_vars e))
kills_assigned graph e (Some (Test test taken other)) = sym (assigns_none (expr_vars e))
kills_assigned graph e (Some (Return a)) = sym (assigns_none (expr_vars e))
