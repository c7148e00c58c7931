use Rattle.std.proofs.Common.{◌≡◌, ℕ, ◌<◌, ◌≤◌, length, slice_get, Some, false}
use Rattle.mir_base.specs.declared.instructions.Expr.{Expr}
use Rattle.mir_base.specs.ExpressionVars.{expr_vars}
use Rattle.flow_graph.specs.Numbering.{is_in}
use Rattle.path_laws.specs.Paths.{AreRows, has_bit}
use Rattle.motion_rewrite.proofs.rows.operand_rows.Given as goal

abbrev pub invariant-loop-number : goal.invariant-loop-number
invariant-loop-number l = record {
  shape : AreRows l.vars (length l.table) l.rows;
  done : (x i : ℕ) (e : Expr) → x < l.vars → i < l.number → slice_get l.table i ≡ Some e → has_bit l.rows i x ≡ is_in x (expr_vars e);
  later : (x i : ℕ) → x < l.vars → l.number ≤ i → has_bit l.rows i x ≡ false;
}
