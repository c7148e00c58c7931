-- Copies: after `v <- w` the two variables have one value as long as neither is assigned, so w can be read in the place
-- of v. Cited by contracts.
use Rattle.std.specs.Prelude.{ℕ, Bool, true, false, nat_eq, Option, Some, None}
use Rattle.mir_base.specs.declared.instructions.Operand.TheVariants.{Var, Const}
use Rattle.mir_base.specs.declared.instructions.Rhs.{Rhs}
use Rattle.mir_base.specs.declared.instructions.Rhs.TheVariants.{Plain, Unary, Binary}

-- the assignment `v <- rhs` is a copy: its right side is a variable alone. That this is another one than v, `can_hold`
-- asks
abbrev pub is_copy : ℕ → Rhs → Bool
is_copy v (Plain (Var x)) = true
is_copy v (Plain (Const c)) = false
is_copy v (Unary op a) = false
is_copy v (Binary op a b) = false

-- the right side is the variable w alone
abbrev pub is_var : ℕ → Rhs → Bool
is_var w (Plain (Var x)) = nat_eq w x
is_var w (Plain (Const c)) = false
is_var w (Unary op a) = false
is_var w (Binary op a b) = false

-- the variable that is read for v where this right side holds for it: the one that it is, or v itself where it is none
abbrev pub read_for : ℕ → Option Rhs → ℕ
read_for v None = v
read_for v (Some (Plain (Var w))) = w
read_for v (Some (Plain (Const c))) = v
read_for v (Some (Unary op a)) = v
read_for v (Some (Binary op a b)) = v
