-- Which right sides divide, which are movable, the expression of a movable one, and what the evaluation of one gives.
-- Cited by contracts.
use Rattle.std.specs.Prelude.{ℕ, Bool, true, false, ◌&&◌, not, ℤ, pos, Option, Some, None, if◌then◌else◌}
use Rattle.std.specs.Ordering.{int_eq}
use Rattle.mir_base.specs.declared.instructions.Operand.{Operand}
use Rattle.mir_base.specs.declared.instructions.Operand.TheVariants.{Var, Const}
use Rattle.mir_base.specs.declared.instructions.Rhs.{Rhs}
use Rattle.mir_base.specs.declared.instructions.Rhs.TheVariants.{Plain, Unary, Binary}
use Rattle.mir_base.specs.declared.instructions.Expr.{Expr}
use Rattle.mir_base.specs.declared.instructions.Expr.TheVariants.{Un, Bin}
use Rattle.mir_base.specs.Numbers.{is_dividing, wrapped, traps, value_of_op, value_of_un_op}
use Rattle.mir_base.specs.Frames.{Values}
use Rattle.mir_base.specs.Units.{operand_value}

-- the value may be 0: a variable, or the constant 0
abbrev pub may_be_zero : Operand → Bool
may_be_zero (Var x) = true
may_be_zero (Const c) = int_eq (wrapped c) (pos 0)

-- the operator is a division, and its divisor may be 0
abbrev pub divides : Rhs → Bool
divides (Plain a) = false
divides (Unary op a) = false
divides (Binary op a b) = is_dividing op && may_be_zero b

-- the expression of a right side that is unary or binary and does not divide. Its evaluation never traps
abbrev pub expr_of : Rhs → Option Expr
expr_of (Plain a) = None
expr_of (Unary op a) = Some (Un op a)
expr_of (Binary op a b) = if divides (Binary op a b) then None else Some (Bin op a b)

-- the right side is unary or binary, and does not divide
abbrev pub is_movable : Rhs → Bool
is_movable (Plain a) = false
is_movable (Unary op a) = true
is_movable (Binary op a b) = not (divides (Binary op a b))

-- the evaluation of a right side traps at these values of the variables
abbrev pub rhs_traps : Values → Rhs → Bool
rhs_traps values (Plain a) = false
rhs_traps values (Unary op a) = false
rhs_traps values (Binary op a b) = traps op (operand_value values b)

-- the value of a right side, where it does not trap
abbrev pub rhs_value : Values → Rhs → ℤ
rhs_value values (Plain a) = operand_value values a
rhs_value values (Unary op a) = value_of_un_op op (operand_value values a)
rhs_value values (Binary op a b) = value_of_op op (operand_value values a) (operand_value values b)

-- how many evaluations a right side counts, also where it traps
abbrev pub rhs_count : Rhs → ℕ
rhs_count (Plain a) = 0
rhs_count (Unary op a) = 1
rhs_count (Binary op a b) = 1
