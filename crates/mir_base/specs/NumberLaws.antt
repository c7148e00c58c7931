-- The value of an operator on signed 64-bit numbers is a signed 64-bit number. For proofs only.
use Rattle.std.proofs.Common.{ℕ, ◌^◌, Bool, true, false, if◌then◌else◌, ℤ, pos, negsuc, arith, FitsSigned, w64, pow_pos, div-le_self, int_lt}
use Rattle.std.proofs.lemmas.Int.{SFits-int_wrap}
use Rattle.std.specs.Int.{int_div_euclid}
use Rattle.std.specs.Int.Signed.{mag_rem}
use Rattle.mir_base.specs.declared.operators.Op.{Op}
use Rattle.mir_base.specs.declared.operators.Op.TheVariants.{Add, Sub, Mul, Div, Mod, Min, Max, Eq, Ne, Lt, Le, Gt, Ge, Shl, Shr, Shra, And, Or, Xor}
use Rattle.mir_base.specs.declared.operators.UnOp.{UnOp}
use Rattle.mir_base.specs.declared.operators.UnOp.TheVariants.{Neg, Not}
use Rattle.mir_base.specs.Numbers.{wrapped, truth, distance, value_of_op, value_of_un_op}

-- the value of a comparison that holds is in range
one_fits : FitsSigned w64 (pos 1)
one_fits = record { sfits = omega arith }

-- 0 is a signed 64-bit number
pub zero_fits : FitsSigned w64 (pos 0)
zero_fits = record { sfits = pow_pos 63 }

-- a wrapped number is one
pub wrapped_fits : (z : ℤ) → FitsSigned w64 (wrapped z)
wrapped_fits z = SFits-int_wrap w64 z

-- a truth value is one
pub truth_fits : (b : Bool) → FitsSigned w64 (truth b)
truth_fits true = one_fits
truth_fits false = zero_fits

-- either of two values in range is in range
chosen_fits : (b : Bool) (x y : ℤ) → FitsSigned w64 x → FitsSigned w64 y → FitsSigned w64 (if b then x else y)
chosen_fits true x y p q = p
chosen_fits false x y p q = q

-- a quotient is no further from 0 than its dividend
divided_fits : (a : ℤ) (d : ℕ) → FitsSigned w64 a → FitsSigned w64 (int_div_euclid a (pos d))
divided_fits (pos a) d p = record { sfits = omega (arith, p.sfits, div-le_self a d) }
divided_fits (negsuc a) d p = record { sfits = omega (arith, p.sfits, div-le_self a d) }

-- the value of an operator on two numbers is one
pub value_fits : (op : Op) (a b : ℤ) → FitsSigned w64 a → FitsSigned w64 b → FitsSigned w64 (value_of_op op a b)
value_fits Add a b p q = wrapped_fits _
value_fits Sub a b p q = wrapped_fits _
value_fits Mul a b p q = wrapped_fits _
value_fits Div a b p q = wrapped_fits _
value_fits Mod a b p q = record { sfits = omega (arith, p.sfits, mag_rem a b) }
value_fits Min a b p q = chosen_fits (int_lt b a) b a q p
value_fits Max a b p q = chosen_fits (int_lt b a) a b p q
value_fits Eq a b p q = truth_fits _
value_fits Ne a b p q = truth_fits _
value_fits Lt a b p q = truth_fits _
value_fits Le a b p q = truth_fits _
value_fits Gt a b p q = truth_fits _
value_fits Ge a b p q = truth_fits _
value_fits Shl a b p q = wrapped_fits _
value_fits Shr a b p q = wrapped_fits _
value_fits Shra a b p q = divided_fits a (2 ^ distance b) p
value_fits And a b p q = wrapped_fits _
value_fits Or a b p q = wrapped_fits _
value_fits Xor a b p q = wrapped_fits _

-- and so is that of an operator on one
pub un_value_fits : (op : UnOp) (a : ℤ) → FitsSigned w64 (value_of_un_op op a)
un_value_fits Neg a = wrapped_fits _
un_value_fits Not a = truth_fits _
