-- What an operator with a constant makes of a variable that holds another right side. Cited by contracts.
use Rattle.std.specs.Prelude.{ℕ, ◌+◌, min, nat_le, Bool, true, ℤ, pos, neg_ℤ, Option, Some, None, option_map, if◌then◌else◌}
use Rattle.std.specs.Option.{is_some}
use Rattle.std.specs.Ordering.{int_eq}
use Rattle.mir_base.specs.declared.operators.Op.{Op}
use Rattle.mir_base.specs.declared.operators.Op.TheVariants.{Add, Sub, Mul, Min, Max, Eq, Ne, Lt, Le, Gt, Ge, Shl, Shr, Shra, And, Or, Xor}
use Rattle.mir_base.specs.declared.operators.UnOp.TheVariants.{Neg, Not}
use Rattle.mir_base.specs.declared.instructions.Operand.{Operand}
use Rattle.mir_base.specs.declared.instructions.Operand.TheVariants.{Var, Const}
use Rattle.mir_base.specs.declared.instructions.Rhs.{Rhs}
use Rattle.mir_base.specs.declared.instructions.Rhs.TheVariants.{Plain, Unary, Binary}
use Rattle.mir_base.specs.contracts.operators.OpPartialEq.TheImpl.{ghosts as ops}
use Rattle.mir_base.specs.Numbers.{distance, value_of_op, wrapped}
use Rattle.term_flow.specs.declared.reading.ByConstant.{ByConstant}

-- ---- a variable and a constant under an operator

-- the variable, the operator and the constant; `Sub` takes the variable from the constant
abbrev pub with_constant : Op → ℕ → ℤ → ByConstant
with_constant op x c = record { op = op; var = x; constant = c }

-- what it gives, where the variable has this value
abbrev pub value_by : Op → ℤ → ℤ → ℤ
value_by Sub v c = value_of_op Sub c v
value_by op v c = value_of_op op v c

-- the variable and then the constant; a difference is the sum with the negative
abbrev pub right_read : Op → ℕ → ℤ → Option ByConstant
right_read Add x c = Some (with_constant Add x c)
right_read Sub x c = Some (with_constant Add x (wrapped (neg_ℤ c)))
right_read Mul x c = Some (with_constant Mul x c)
right_read Min x c = Some (with_constant Min x c)
right_read Max x c = Some (with_constant Max x c)
right_read Eq x c = Some (with_constant Eq x c)
right_read Ne x c = Some (with_constant Ne x c)
right_read Shl x c = Some (with_constant Shl x c)
right_read Shr x c = Some (with_constant Shr x c)
right_read Shra x c = Some (with_constant Shra x c)
right_read And x c = Some (with_constant And x c)
right_read Or x c = Some (with_constant Or x c)
right_read Xor x c = Some (with_constant Xor x c)
right_read _ x c = None

-- the constant and then the variable
abbrev pub left_read : Op → ℤ → ℕ → Option ByConstant
left_read Add c x = Some (with_constant Add x c)
left_read Sub c x = Some (with_constant Sub x c)
left_read Mul c x = Some (with_constant Mul x c)
left_read Min c x = Some (with_constant Min x c)
left_read Max c x = Some (with_constant Max x c)
left_read Eq c x = Some (with_constant Eq x c)
left_read Ne c x = Some (with_constant Ne x c)
left_read And c x = Some (with_constant And x c)
left_read Or c x = Some (with_constant Or x c)
left_read Xor c x = Some (with_constant Xor x c)
left_read _ c x = None

-- an operator on two operands
abbrev pub read_binary : Op → Operand → Operand → Option ByConstant
read_binary op (Var x) (Var y) = None
read_binary op (Var x) (Const c) = right_read op x (wrapped c)
read_binary op (Const c) (Var x) = left_read op (wrapped c) x
read_binary op (Const c) (Const d) = None

-- a right side: `-a` is `0 - a`, and `!a` is `a = 0`
abbrev pub read_rhs : Rhs → Option ByConstant
read_rhs (Plain a) = None
read_rhs (Unary Neg a) = read_binary Sub (Const (pos 0)) a
read_rhs (Unary Not a) = read_binary Eq a (Const (pos 0))
read_rhs (Binary op a b) = read_binary op a b

-- the right side of it: where it changes nothing, the variable alone
abbrev pub rhs_by : Op → ℕ → ℤ → Rhs
rhs_by Add x c =
    if int_eq c (pos 0) then Plain (Var x) else Binary Add (Var x) (Const c)
rhs_by Xor x c =
    if int_eq c (pos 0) then Plain (Var x) else Binary Xor (Var x) (Const c)
rhs_by Sub x c = Binary Sub (Const c) (Var x)
rhs_by op x c = Binary op (Var x) (Const c)

-- ---- an operator with a constant c on what an operator q with a constant k makes of x

-- the sum: (x + k) + c and (k - x) + c
abbrev pub sum_with : ℤ → Op → ℕ → ℤ → Option ByConstant
sum_with c Add x k = Some (with_constant Add x (value_of_op Add k c))
sum_with c Sub x k = Some (with_constant Sub x (value_of_op Add k c))
sum_with c _ x k = None

-- the difference: c - (x + k) and c - (k - x)
abbrev pub difference_from : ℤ → Op → ℕ → ℤ → Option ByConstant
difference_from c Add x k = Some (with_constant Sub x (value_of_op Sub c k))
difference_from c Sub x k = Some (with_constant Add x (value_of_op Sub c k))
difference_from c _ x k = None

-- the number of which the operator with the constant k makes c: v + k = c, k - v = c, v xor k = c
abbrev pub solution : ℤ → Op → ℤ → Option ℤ
solution c Add k = Some (value_of_op Sub c k)
solution c Sub k = Some (value_of_op Sub k c)
solution c Xor k = Some (value_of_op Xor k c)
solution c _ k = None

-- the constant of a shift that goes so far; none where that is 64 or more, since shifts go modulo 64
abbrev pub shift_within : ℕ → Option ℤ
shift_within far = if nat_le far 63 then Some (pos far) else None

-- how far two shifts go
abbrev pub joint_distance : ℤ → ℤ → ℕ
joint_distance k c = distance k + distance c

-- the constant with which the operator does once what it does with k and then with c
abbrev pub joint_constant : Op → ℤ → ℤ → Option ℤ
joint_constant Mul k c = Some (value_of_op Mul k c)
joint_constant Min k c = Some (value_of_op Min k c)
joint_constant Max k c = Some (value_of_op Max k c)
joint_constant And k c = Some (value_of_op And k c)
joint_constant Or k c = Some (value_of_op Or k c)
joint_constant Xor k c = Some (value_of_op Xor k c)
joint_constant Shl k c = shift_within (joint_distance k c)
joint_constant Shr k c = shift_within (joint_distance k c)
joint_constant Shra k c = Some (pos (min (joint_distance k c) 63))
joint_constant _ k c = None

-- the operator with c on what the same operator with k makes of x, as (x + k) + c; none where the two differ
abbrev pub same_again : Op → ℤ → Op → ℕ → ℤ → Option ByConstant
same_again op c q x k =
    if ops.eq op q then option_map (with_constant op x) (joint_constant op k c) else None

-- each operator
abbrev pub over_by : Op → ℤ → Op → ℕ → ℤ → Option ByConstant
over_by Add c q x k = sum_with c q x k
over_by Sub c q x k = difference_from c q x k
over_by Eq c q x k = option_map (with_constant Eq x) (solution c q k)
over_by Ne c q x k = option_map (with_constant Ne x) (solution c q k)
over_by op c q x k = same_again op c q x k

-- the first on the variable that the second is, where it is one
abbrev pub over_read : ByConstant → Option ByConstant → Option ByConstant
over_read t None = None
over_read t (Some inner) = over_by t.op t.constant inner.op inner.var inner.constant

-- ---- comparisons

-- the operator that gives 1 where a comparison gives 0
abbrev pub denied_op : Op → Option Op
denied_op Eq = Some Ne
denied_op Ne = Some Eq
denied_op Lt = Some Ge
denied_op Le = Some Gt
denied_op Gt = Some Le
denied_op Ge = Some Lt
denied_op _ = None

-- the right side that gives 1 where a comparison, a relation or `!`, gives 0; none of any other right side
abbrev pub denied_rhs : Rhs → Option Rhs
denied_rhs (Plain a) = None
denied_rhs (Unary Neg a) = None
denied_rhs (Unary Not a) = Some (Binary Ne a (Const (pos 0)))
denied_rhs (Binary op a b) = option_map (λ denied. Binary denied a b) (denied_op op)

-- the right side, where it is a comparison
abbrev pub comparison : Rhs → Option Rhs
comparison rhs = option_map (λ denied. rhs) (denied_rhs rhs)

-- a comparison that is compared with 0
abbrev pub of_zero : Op → Rhs → Option Rhs
of_zero Eq held = denied_rhs held
of_zero Ne held = comparison held
of_zero _ held = None

-- a comparison that is compared with 1
abbrev pub of_one : Op → Rhs → Option Rhs
of_one Eq held = comparison held
of_one Ne held = denied_rhs held
of_one _ held = None

-- the constant, where the right side is a comparison
abbrev pub settled : ℤ → Rhs → Option Rhs
settled c rhs = option_map (λ denied. Plain (Const c)) (denied_rhs rhs)

-- a comparison that is compared with a number that it never gives
abbrev pub of_other : Op → Rhs → Option Rhs
of_other Eq held = settled (pos 0) held
of_other Ne held = settled (pos 1) held
of_other _ held = None

-- the operator with the constant on what a comparison gives, which is 0 or 1
abbrev pub of_truth : Op → ℤ → Rhs → Option Rhs
of_truth op c held =
    if int_eq c (pos 0) then of_zero op held
    else (if int_eq c (pos 1) then of_one op held else of_other op held)

-- ---- right sides

-- the right side is one of a variable and a constant, or a comparison
abbrev pub is_term : Rhs → Bool
is_term rhs = if is_some (read_rhs rhs) then true else is_some (denied_rhs rhs)

-- an operator with a variable and a constant, as a right side
abbrev pub rhs_from : Option ByConstant → Option Rhs
rhs_from None = None
rhs_from (Some t) = Some (rhs_by t.op t.var t.constant)

-- the one of a comparison, and else of a variable and a constant
abbrev pub first_of_both : Option Rhs → Option Rhs → Option Rhs
first_of_both (Some rhs) other = Some rhs
first_of_both None other = other

-- the operator with the constant on what this right side gives
abbrev pub joined_to : ByConstant → Option Rhs → Option Rhs
joined_to t None = None
joined_to t (Some held) =
    first_of_both (of_truth t.op t.constant held) (rhs_from (over_read t (read_rhs held)))

-- the same, where `held` tells for each variable the right side that it holds
abbrev pub joined_of : (ℕ → Option Rhs) → Option ByConstant → Option Rhs
joined_of held None = None
joined_of held (Some t) = joined_to t (held t.var)
