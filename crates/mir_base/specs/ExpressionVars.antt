-- The variables that an expression reads, the right side that is this expression, and the expression that a right side
-- is. Cited by contracts.
use Rattle.std.specs.Prelude.{◌≡◌, ℕ, List, ◌++◌, Option, None, Some}
use Rattle.std.proofs.Common.{refl}
use Rattle.mir_base.specs.declared.instructions.Rhs.{Rhs}
use Rattle.mir_base.specs.declared.instructions.Rhs.TheVariants.{Plain, Unary, Binary}
use Rattle.mir_base.specs.declared.instructions.Expr.{Expr}
use Rattle.mir_base.specs.declared.instructions.Expr.TheVariants.{Un, Bin}
use Rattle.mir_base.specs.Shapes.{operand_vars, rhs_vars}

-- the variables among the operands
abbrev pub expr_vars : Expr → List ℕ
expr_vars (Un op a) = operand_vars a
expr_vars (Bin op a b) = operand_vars a ++ operand_vars b

-- the right side that is this expression
abbrev pub rhs_of : Expr → Rhs
rhs_of (Un op a) = Unary op a
rhs_of (Bin op a b) = Binary op a b

-- the right side as an expression, movable or not
abbrev pub written_expr : Option Rhs → Option Expr
written_expr None = None
written_expr (Some (Plain a)) = None
written_expr (Some (Unary op a)) = Some (Un op a)
written_expr (Some (Binary op a b)) = Some (Bin op a b)

-- the right side of an expression has its variables
pub rhs_of_vars : (e : Expr) → rhs_vars (rhs_of e) ≡ expr_vars e
rhs_of_vars (Un op a) = refl
rhs_of_vars (Bin op a b) = refl
