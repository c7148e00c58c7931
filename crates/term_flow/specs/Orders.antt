-- Operands in one order, where the order makes no difference. Cited by contracts.
use Rattle.std.specs.Prelude.{Bool, true, false, nat_lt, ◌&&◌, if◌then◌else◌}
use Rattle.mir_base.specs.declared.operators.Op.{Op}
use Rattle.mir_base.specs.declared.operators.Op.TheVariants.{Add, Mul, Min, Max, Eq, Ne, And, Or, Xor}
use Rattle.mir_base.specs.declared.instructions.Operand.{Operand}
use Rattle.mir_base.specs.declared.instructions.Operand.TheVariants.{Var, Const}
use Rattle.mir_base.specs.declared.instructions.Rhs.{Rhs}
use Rattle.mir_base.specs.declared.instructions.Rhs.TheVariants.{Plain, Unary, Binary}

-- the operator gives the same with its operands turned
abbrev pub commutes : Op → Bool
commutes Add = true
commutes Mul = true
commutes Min = true
commutes Max = true
commutes Eq = true
commutes Ne = true
commutes And = true
commutes Or = true
commutes Xor = true
commutes _ = false

-- the second stands before the first in the order: of two variables the one of the lower number, and any variable before
-- a constant
abbrev pub is_turned : Operand → Operand → Bool
is_turned (Var x) (Var y) = nat_lt y x
is_turned (Var x) (Const d) = false
is_turned (Const c) (Var y) = true
is_turned (Const c) (Const d) = false

-- a right side with its operands in that order, where its operator gives the same so
abbrev pub in_order : Rhs → Rhs
in_order (Plain a) = Plain a
in_order (Unary op a) = Unary op a
in_order (Binary op a b) =
    if commutes op && is_turned a b then Binary op b a else Binary op a b
