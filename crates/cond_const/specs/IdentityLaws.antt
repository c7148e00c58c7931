-- Each identity holds for all signed 64-bit numbers. For proofs only.
use Rattle.std.proofs.Common.{◌≡◌, ℕ, zero, suc, ◌-◌, ◌/◌, ◌^◌, ◌<◌, Bool, true, false, if◌then◌else◌, nat_eq, eqb-true, not, mod-eq_of_lt, div-one, ℤ, pos, negsuc, ◌+ℤ◌, ◌-ℤ◌, ◌*ℤ◌, refl, sym, ap, ◌∙◌, subst, arith, FitsSigned, w64, to_z, of_z, pow_pos, to_z-of_z, int_lt, int_rem, int_div, unsigned_abs, bit_and, bit_or}
use Rattle.std.specs.Ordering.{int_eq}
use Rattle.std.specs.Int.Bits.{and_zero_r, or_zero_r, xor_zero_r, and_self, or_self, xor_self, or_lt}
use Rattle.std.proofs.lemmas.Nat.{and_mask, and_comm, or_comm, xor_comm, le_or_l}
use Rattle.std.proofs.Math.IntN.{+ℤ_comm, *ℤ_comm}
use Rattle.std.specs.Int.{int_wrap, int_div_euclid}
use Rattle.std.proofs.lemmas.Int.{int_wrap_fits, ints, quot-rem, rem_below}
use Rattle.std.proofs.Math.Facts.{Fits-of_z}
use Rattle.std.proofs.Math.Nat.{zero-div}
use Rattle.mir_base.specs.declared.operators.Op.{Op}
use Rattle.mir_base.specs.declared.operators.Op.TheVariants.{Add, Sub, Mul, Div, Mod, Min, Max, Eq, Ne, Lt, Le, Gt, Ge, Shl, Shr, Shra, And, Or, Xor}
use Rattle.mir_base.specs.Numbers.{wrapped, unsigned, traps, truth, value_of_op, distance}
use Rattle.mir_base.specs.NumberLaws.{zero_fits}
use Rattle.mir_base.specs.WordLaws.{shr_is, and_is, or_is, xor_is}
use Rattle.cond_const.specs.declared.identities.Identity.{Identity}
use Rattle.cond_const.specs.declared.identities.Identity.TheVariants.{Absent, Itself, Always}
use Rattle.cond_const.specs.Identities.{where_equal, identity_same, identity_left, identity_right, IsIdentity}
use Rattle.cond_const.specs.RelationLaws.{int_eq_is, int_eq_same, int_lt_same, int_le_same}

-- a rule that holds at d, and only there
at_number : (c d : ℤ) (rule other : Identity) (P : Identity → ℤ → Type 0) → P rule d → P other c
    → P (where_equal c d rule other) c
at_number c d rule other P here there = cases (int_eq c d) refl
  where
    cases : (b : Bool) → int_eq c d ≡ b → P (if b then rule else other) c
    cases true is = subst (P rule) (sym (int_eq_is c d is)) here
    cases false is = there

-- a number whose absolute value is below 1 is 0
none_left : (z : ℤ) → unsigned_abs z < 1 → z ≡ pos 0
none_left (pos zero) h = refl
none_left (pos (suc n)) h = absurd (omega (arith, h))
none_left (negsuc n) h = absurd (omega (arith, h))

-- a remainder by 1 is 0
rem_one : (a : ℤ) → int_rem a (pos 1) ≡ pos 0
rem_one a = none_left (int_rem a (pos 1)) (rem_below a (pos 1) (omega arith))

-- and by -1
rem_minus_one : (a : ℤ) → int_rem a (negsuc 0) ≡ pos 0
rem_minus_one a = none_left (int_rem a (negsuc 0)) (rem_below a (negsuc 0) (omega arith))

-- a quotient by 1 is the number
div_one : (a : ℤ) → int_div a (pos 1) ≡ a
div_one a =
    let split : int_div a (pos 1) *ℤ pos 1 +ℤ int_rem a (pos 1) ≡ a = quot-rem a (pos 1) in
    let none : int_rem a (pos 1) ≡ pos 0 = rem_one a in
    omega (arith, ints)

-- both ways are one
either : {A : Type 0} (b : Bool) (x : A) → (if b then x else x) ≡ x
either true x = refl
either false x = refl

-- what a signed 64-bit number is equal to wraps to it
wraps_to : (z a : ℤ) → z ≡ a → FitsSigned w64 a → int_wrap w64 z ≡ a
wraps_to z a is fits = ap (int_wrap w64) is ∙ int_wrap_fits w64 a fits

-- the bits of a number, read back
back : (a : ℤ) (n : ℕ) → FitsSigned w64 a → n ≡ of_z w64 a → to_z w64 n ≡ a
back a n fits is = ap (to_z w64) is ∙ to_z-of_z fits

-- the bits are a number of 64 bits
below_two_to_64 : (a : ℤ) → FitsSigned w64 a → of_z w64 a < 2 ^ 64
below_two_to_64 a fits = (Fits-of_z fits).fits

-- all bits set
ones_fit : FitsSigned w64 (negsuc 0)
ones_fit = record { sfits = pow_pos 63 }

-- with all bits set, `and` gives the number
and_ones : (a : ℤ) → FitsSigned w64 a → bit_and (of_z w64 a) (of_z w64 (negsuc 0)) ≡ of_z w64 a
and_ones a fits = and_mask (of_z w64 a) 64 ∙ mod-eq_of_lt (below_two_to_64 a fits)

-- and `or` all bits: a disjunction with -1 is -1
or_ones : (a : ℤ) → FitsSigned w64 a → bit_or (of_z w64 a) (of_z w64 (negsuc 0)) ≡ 2 ^ 64 - 1
or_ones a fits =
    let ones : of_z w64 (negsuc 0) < 2 ^ 64 = omega arith in
    or_comm (of_z w64 a) (of_z w64 (negsuc 0)) ∙ omega (
      arith,
      le_or_l (of_z w64 (negsuc 0)) (of_z w64 a),
      or_lt 64 (of_z w64 (negsuc 0)) (of_z w64 a) ones
          (below_two_to_64 a fits),
    )

-- ---- shifts by nothing, and of 0

-- a shift by 0 is the number, to the left
shl_none : (a : ℤ) → FitsSigned w64 a → wrapped (a *ℤ pos (2 ^ 0)) ≡ a
shl_none a fits = wraps_to (a *ℤ pos 1) a (omega (arith, ints)) fits

-- 0 shifted to the right is 0
shr_none : (a : ℤ) → FitsSigned w64 a → wrapped (pos (unsigned a / 2 ^ 0)) ≡ a
shr_none a fits = sym (shr_is a 0 fits) ∙ back a (of_z w64 a / 2 ^ 0) fits (div-one (of_z w64 a))

-- 0 shifted to the right with its sign is 0
shra_none : (a : ℤ) → int_div_euclid a (pos (2 ^ 0)) ≡ a
shra_none (pos n) = ap pos (div-one n)
shra_none (negsuc n) = ap negsuc (div-one n)

-- a shift of 0 is 0, to the left
shl_zero : (k : ℕ) → wrapped (pos 0 *ℤ pos (2 ^ k)) ≡ pos 0
shl_zero k = wraps_to (pos 0 *ℤ pos (2 ^ k)) (pos 0) (omega (arith, ints)) zero_fits

-- to the right
shr_zero : (k : ℕ) → wrapped (pos (unsigned (pos 0) / 2 ^ k)) ≡ pos 0
shr_zero k = ap (λ n. wrapped (pos n)) (zero-div (2 ^ k)) ∙ int_wrap_fits w64 (pos 0) zero_fits

-- and to the right with the sign
shra_zero : (k : ℕ) → int_div_euclid (pos 0) (pos (2 ^ k)) ≡ pos 0
shra_zero k = ap pos (zero-div (2 ^ k))

-- each row of `identity_same`, operator by operator: `a op a` is what the row says, and does not trap
pub same_keeps : (op : Op) (a : ℤ) → FitsSigned w64 a → IsIdentity (identity_same op) a op a a
same_keeps Sub a fits = (refl, wraps_to (a -ℤ a) (pos 0) (omega (arith, ints)) zero_fits)
same_keeps Min a fits = (refl, either (int_lt a a) a)
same_keeps Max a fits = (refl, either (int_lt a a) a)
same_keeps Eq a fits = (refl, ap truth (int_eq_same a))
same_keeps Ne a fits = (refl, ap (λ b. truth (not b)) (int_eq_same a))
same_keeps Lt a fits = (refl, ap truth (int_lt_same a))
same_keeps Le a fits = (refl, ap truth (int_le_same a))
same_keeps Gt a fits = (refl, ap truth (int_lt_same a))
same_keeps Ge a fits = (refl, ap truth (int_le_same a))
same_keeps And a fits = (refl, sym (and_is a a fits fits) ∙ back a _ fits (and_self (of_z w64 a)))
same_keeps Or a fits = (refl, sym (or_is a a fits fits) ∙ back a _ fits (or_self (of_z w64 a)))
same_keeps Xor a fits = (refl, sym (xor_is a a fits fits) ∙ ap (to_z w64) (xor_self (of_z w64 a)))
same_keeps _ a fits = tt

-- a shift by a multiple of 64
no_distance : (op : Op) (a c : ℤ) → traps op c ≡ false → ((k : ℕ) → k ≡ distance c → k ≡ 0 → value_of_op op a c ≡ a)
    → (b : Bool) → nat_eq (distance c) 0 ≡ b → IsIdentity (if b then Itself else Absent) a op a c
no_distance op a c no_trap is true e = (no_trap, is (distance c) refl (eqb-true (distance c) 0 e))
no_distance op a c no_trap is false e = tt

-- an identity of a variable and a constant that holds at one number, and there is none elsewhere
right_at : (op : Op) (a c d : ℤ) (rule : Identity) → IsIdentity rule a op a d
    → IsIdentity (where_equal c d rule Absent) a op a c
right_at op a c d rule here = at_number c d rule Absent (λ r e. IsIdentity r a op a e) here tt

-- two that hold at two numbers
right_at_two : (op : Op) (a c d e : ℤ) (rule other : Identity) → IsIdentity rule a op a d → IsIdentity other a op a e
    → IsIdentity (where_equal c d rule (where_equal c e other Absent)) a op a c
right_at_two op a c d e rule other first second =
    at_number c d rule (where_equal c e other Absent) (λ r n. IsIdentity r a op a n) first
    (right_at op a c e other second)

-- each row of `identity_right`: `a op c`, with the constant c on the right, is what the row says, and does not trap
pub right_keeps : (op : Op) (a c : ℤ) → FitsSigned w64 a → FitsSigned w64 c → IsIdentity (identity_right op c) a op a c
right_keeps Add a c fits fits' =
    right_at Add a c (pos 0) Itself (refl, wraps_to (a +ℤ pos 0) a (omega (arith, ints)) fits)
right_keeps Sub a c fits fits' =
    right_at Sub a c (pos 0) Itself (refl, wraps_to (a -ℤ pos 0) a (omega (arith, ints)) fits)
right_keeps Mul a c fits fits' =
    right_at_two Mul a c (pos 0) (pos 1) (Always (pos 0)) Itself
    (refl, wraps_to (a *ℤ pos 0) (pos 0) (omega (arith, ints)) zero_fits)
    (refl, wraps_to (a *ℤ pos 1) a (omega (arith, ints)) fits)
right_keeps Div a c fits fits' =
    right_at Div a c (pos 1) Itself (refl, ap wrapped (div_one a) ∙ int_wrap_fits w64 a fits)
right_keeps Mod a c fits fits' =
    right_at_two Mod a c (pos 1) (negsuc 0) (Always (pos 0)) (Always (pos 0)) (refl, rem_one a) (refl, rem_minus_one a)
right_keeps Shl a c fits fits' =
    no_distance Shl a c refl (λ k is none. ap (λ j. wrapped (a *ℤ pos (2 ^ j))) (sym is ∙ none) ∙ shl_none a fits)
    (nat_eq (distance c) 0) refl
right_keeps Shr a c fits fits' =
    no_distance Shr a c refl
    (λ k is none. ap (λ j. wrapped (pos (unsigned a / 2 ^ j))) (sym is ∙ none) ∙ shr_none a fits)
    (nat_eq (distance c) 0) refl
right_keeps Shra a c fits fits' =
    no_distance Shra a c refl (λ k is none. ap (λ j. int_div_euclid a (pos (2 ^ j))) (sym is ∙ none) ∙ shra_none a)
    (nat_eq (distance c) 0) refl
right_keeps And a c fits fits' =
    right_at_two And a c (pos 0) (negsuc 0) (Always (pos 0)) Itself
    (refl, sym (and_is a (pos 0) fits zero_fits) ∙ ap (to_z w64) (and_zero_r (of_z w64 a)))
    (refl, sym (and_is a (negsuc 0) fits ones_fit) ∙ back a _ fits (and_ones a fits))
right_keeps Or a c fits fits' =
    right_at_two Or a c (pos 0) (negsuc 0) Itself (Always (negsuc 0))
    (refl, sym (or_is a (pos 0) fits zero_fits) ∙ back a _ fits (or_zero_r (of_z w64 a)))
    (refl, sym (or_is a (negsuc 0) fits ones_fit) ∙ ap (to_z w64) (or_ones a fits))
right_keeps Xor a c fits fits' =
    right_at Xor a c (pos 0) Itself
    (refl, sym (xor_is a (pos 0) fits zero_fits) ∙ back a _ fits (xor_zero_r (of_z w64 a)))
right_keeps _ a c fits fits' = tt

-- an identity of an operator that does not trap, and gives the same in the other order
flipped : (op : Op) (a c : ℤ) (rule : Identity) → traps op a ≡ false → value_of_op op c a ≡ value_of_op op a c
    → IsIdentity rule a op a c → IsIdentity rule a op c a
flipped op a c Absent no_trap same is = tt
flipped op a c Itself no_trap same is = (no_trap, same ∙ is.1)
flipped op a c (Always d) no_trap same is = (no_trap, same ∙ is.1)

-- a shift of 0 is 0
zero_shifted : (op : Op) (a c : ℤ) → traps op a ≡ false → value_of_op op (pos 0) a ≡ pos 0
    → IsIdentity (where_equal c (pos 0) (Always (pos 0)) Absent) a op c a
zero_shifted op a c no_trap is =
    at_number c (pos 0) (Always (pos 0)) Absent (λ r d. IsIdentity r a op d a) (no_trap, is) tt

-- the table of a constant and a variable: where the operands may change places, it is the one before
pub left_keeps : (op : Op) (a c : ℤ) → FitsSigned w64 a → FitsSigned w64 c → IsIdentity (identity_left op c) a op c a
left_keeps Add a c fits fits' =
    flipped Add a c (identity_left Add c) refl (ap wrapped (+ℤ_comm c a)) (right_keeps Add a c fits fits')
left_keeps Mul a c fits fits' =
    flipped Mul a c (identity_left Mul c) refl (ap wrapped (*ℤ_comm c a)) (right_keeps Mul a c fits fits')
left_keeps And a c fits fits' =
    flipped And a c (identity_left And c) refl (ap (λ n. wrapped (pos n)) (and_comm (unsigned c) (unsigned a)))
    (right_keeps And a c fits fits')
left_keeps Or a c fits fits' =
    flipped Or a c (identity_left Or c) refl (ap (λ n. wrapped (pos n)) (or_comm (unsigned c) (unsigned a)))
    (right_keeps Or a c fits fits')
left_keeps Xor a c fits fits' =
    flipped Xor a c (identity_left Xor c) refl (ap (λ n. wrapped (pos n)) (xor_comm (unsigned c) (unsigned a)))
    (right_keeps Xor a c fits fits')
left_keeps Shl a c fits fits' = zero_shifted Shl a c refl (shl_zero (distance a))
left_keeps Shr a c fits fits' = zero_shifted Shr a c refl (shr_zero (distance a))
left_keeps Shra a c fits fits' = zero_shifted Shra a c refl (shra_zero (distance a))
left_keeps _ a c fits fits' = tt
