-- Laws of uses and kills: of Start, which uses nothing and kills all, and of Skips, which do neither. For proofs only.
use Rattle.std.proofs.Common.{◌≡◌, ℕ, true, false, slice_get, Some, ap, ◌∙◌}
use Rattle.mir_base.specs.declared.instructions.Expr.{Expr}
use Rattle.mir_base.specs.ExpressionVars.{expr_vars}
use Rattle.flow_graph.specs.declared.nodes.Node.TheVariants.{Start, Skip}
use Rattle.flow_graph.specs.Graphs.{GraphShape}
use Rattle.graph_edit.specs.VarLaws.{assigns_none}
use Rattle.motion_rewrite.specs.Expressions.{kills, node_kills, node_uses, uses}

module _ (graph : GraphShape) (e : Expr) where
  -- Start kills every expression and uses none
  pub start_kills : (s n : ℕ) → slice_get graph.nodes n ≡ Some (Start s) → kills graph e n ≡ true
  start_kills s n here = ap (node_kills graph e) here

  pub start_unused : (s n : ℕ) → slice_get graph.nodes n ≡ Some (Start s) → uses graph e n ≡ false
  start_unused s n here = ap (node_uses e) here

  -- a Skip does neither
  pub skip_keeps : (n s : ℕ) → slice_get graph.nodes n ≡ Some (Skip s) → kills graph e n ≡ false
  skip_keeps n s here = ap (node_kills graph e) here ∙ assigns_none (expr_vars e)

  pub skip_unused : (n s : ℕ) → slice_get graph.nodes n ≡ Some (Skip s) → uses graph e n ≡ false
  skip_unused n s here = ap (node_uses e) here
