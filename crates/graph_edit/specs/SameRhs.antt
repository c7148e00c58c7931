-- Laws: right sides that are equal as written are equal. For proofs only; the crates above cite them.
use Rattle.std.proofs.Common.{◌≡◌, true, ap}
use Rattle.std.proofs.lemmas.Bool.{false≢true}
use Rattle.mir_base.specs.declared.instructions.Operand.{Operand}
use Rattle.mir_base.specs.declared.instructions.Rhs.{Rhs}
use Rattle.mir_base.specs.declared.instructions.Rhs.TheVariants.{Plain, Unary, Binary}
use Rattle.mir_base.specs.declared.instructions.Expr.TheVariants.{Un, Bin}
use Rattle.mir_base.specs.declared.operators.UnOp.TheVariants.{Neg}
use Rattle.mir_base.specs.SameExpressions.{expr_is, expr_itself}
use Rattle.graph_edit.specs.Accesses.{same_rhs}

-- operands of one operator that give one expression
one_operand : (a b : Operand) → Un Neg a ≡ Un Neg b → a ≡ b
one_operand a b e = cc

-- right sides that pass the test are equal
pub same_rhs_is : (t u : Rhs) → same_rhs t u ≡ true → t ≡ u
same_rhs_is (Plain a) (Plain b) is = ap Plain (one_operand a b (expr_is (Un Neg a) (Un Neg b) is))
same_rhs_is (Plain a) (Unary op b) is = absurd (false≢true is)
same_rhs_is (Plain a) (Binary op b c) is = absurd (false≢true is)
same_rhs_is (Unary op a) (Plain b) is = absurd (false≢true is)
same_rhs_is (Unary op a) (Unary other b) is = let e = expr_is (Un op a) (Un other b) is in cc
same_rhs_is (Unary op a) (Binary other b c) is = absurd (false≢true is)
same_rhs_is (Binary op a b) (Plain c) is = absurd (false≢true is)
same_rhs_is (Binary op a b) (Unary other c) is = absurd (false≢true is)
same_rhs_is (Binary op a b) (Binary other c d) is = let e = expr_is (Bin op a b) (Bin other c d) is in cc

-- each right side passes it with itself
pub same_rhs_itself : (t : Rhs) → same_rhs t t ≡ true
same_rhs_itself (Plain a) = expr_itself (Un Neg a)
same_rhs_itself (Unary op a) = expr_itself (Un op a)
same_rhs_itself (Binary op a b) = expr_itself (Bin op a b)
