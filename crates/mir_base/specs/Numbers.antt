-- The values of the operators: each number is a signed 64-bit number. Cited by contracts.
use Rattle.std.specs.Prelude.{ℕ, ◌^◌, ◌/◌, Bool, true, false, if◌then◌else◌, not, ◌&&◌, ℤ, pos, ◌+ℤ◌, ◌-ℤ◌, ◌*ℤ◌, neg_ℤ, int_lt, int_le, int_div, int_rem, unsigned_abs, bit_and, bit_or, bit_xor, Result, Ok, Err}
use Rattle.std.specs.Int.{int_wrap, int_rem_euclid, int_div_euclid, int_min, int_max}
use Rattle.std.specs.Ordering.{int_eq}
use Rattle.mir_base.specs.declared.operators.Op.{Op}
use Rattle.mir_base.specs.declared.operators.Op.TheVariants.{Add, Sub, Mul, Div, Mod, Min, Max, Eq, Ne, Lt, Le, Gt, Ge, Shl, Shr, Shra, And, Or, Xor}
use Rattle.mir_base.specs.declared.operators.UnOp.{UnOp}
use Rattle.mir_base.specs.declared.operators.UnOp.TheVariants.{Neg, Not}
use Rattle.mir_base.specs.declared.operators.RelOp.{RelOp}
use Rattle.mir_base.specs.declared.operators.RelOp.TheVariants.{Eq as Equal, Ne as Differ, Lt as Below, Le as AtMost, Gt as Above, Ge as AtLeast}
use Rattle.mir_base.specs.declared.operators.Trap.{Trap}
use Rattle.mir_base.specs.declared.operators.Trap.TheVariants.{ZeroDivisor}
use mir.Syntax.{w64}

-- the signed 64-bit number that is equal to z modulo 2^64
abbrev pub wrapped : ℤ → ℤ
wrapped z = int_wrap w64 z

-- z read without a sign: its remainder modulo 2^64
abbrev pub unsigned : ℤ → ℕ
unsigned z = unsigned_abs (int_rem_euclid z (pos (2 ^ 64)))

-- 1 where the test holds, else 0
abbrev pub truth : Bool → ℤ
truth b = if b then pos 1 else pos 0

-- the shift's distance: the remainder of b modulo 64, from 0 to 63
abbrev pub distance : ℤ → ℕ
distance b = unsigned_abs (int_rem_euclid b (pos 64))

-- the operators that a divisor of 0 traps
abbrev pub is_dividing : Op → Bool
is_dividing Div = true
is_dividing Mod = true
is_dividing _ = false

-- the relation holds between the two
abbrev pub relation_holds : RelOp → ℤ → ℤ → Bool
relation_holds Equal a b = int_eq a b
relation_holds Differ a b = not (int_eq a b)
relation_holds Below a b = int_lt a b
relation_holds AtMost a b = int_le a b
relation_holds Above a b = int_lt b a
relation_holds AtLeast a b = int_le b a

-- the value of an operator, where it does not trap
abbrev pub value_of_op : Op → ℤ → ℤ → ℤ
value_of_op Add a b = wrapped (a +ℤ b)
value_of_op Sub a b = wrapped (a -ℤ b)
value_of_op Mul a b = wrapped (a *ℤ b)
-- truncated toward zero; only the least number by -1 wraps, to the least number
value_of_op Div a b = wrapped (int_div a b)
-- the remainder of that division, with the sign of a
value_of_op Mod a b = int_rem a b
value_of_op Min a b = int_min a b
value_of_op Max a b = int_max a b
value_of_op Eq a b = truth (relation_holds Equal a b)
value_of_op Ne a b = truth (relation_holds Differ a b)
value_of_op Lt a b = truth (relation_holds Below a b)
value_of_op Le a b = truth (relation_holds AtMost a b)
value_of_op Gt a b = truth (relation_holds Above a b)
value_of_op Ge a b = truth (relation_holds AtLeast a b)
-- with k the distance: a times 2^k
value_of_op Shl a b = wrapped (a *ℤ pos (2 ^ distance b))
-- a read without a sign, divided by 2^k, rounding down
value_of_op Shr a b = wrapped (pos (unsigned a / 2 ^ distance b))
-- a divided by 2^k, rounding down: the remainder is not negative
value_of_op Shra a b = int_div_euclid a (pos (2 ^ distance b))
-- bit by bit
value_of_op And a b = wrapped (pos (bit_and (unsigned a) (unsigned b)))
value_of_op Or a b = wrapped (pos (bit_or (unsigned a) (unsigned b)))
value_of_op Xor a b = wrapped (pos (bit_xor (unsigned a) (unsigned b)))

-- the value of an operator on one number
abbrev pub value_of_un_op : UnOp → ℤ → ℤ
value_of_un_op Neg a = wrapped (neg_ℤ a)
value_of_un_op Not a = truth (int_eq a (pos 0))

-- the operator divides, and the divisor is 0
abbrev pub traps : Op → ℤ → Bool
traps op b = is_dividing op && int_eq b (pos 0)

-- the evaluation of an operator, or its trap
abbrev pub evaluation : Op → ℤ → ℤ → Result ℤ Trap
evaluation op a b = if traps op b then Err ZeroDivisor else Ok (value_of_op op a b)
