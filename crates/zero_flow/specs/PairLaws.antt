-- The facts of results hold and rise, and so does whether a relation may hold. For proofs only.
use Rattle.std.proofs.Common.{◌≡◌, suc, ◌<◌, ◌^◌, Bool, true, false, not, ◌&&◌, ◌||◌, if◌then◌else◌, ℤ, pos, negsuc, neg_ℤ, ◌+ℤ◌, ◌-ℤ◌, ◌*ℤ◌, refl, sym, ap, ◌∙◌, arith, FitsSigned, w64, to_z, of_z, to_z-of_z, int_lt, int_le, int_rem, int_div, bit_or}
use Rattle.std.specs.Ordering.{int_eq}
use Rattle.std.specs.Int.Bits.{and_zero_r, or_zero_r, xor_zero_r, or_lt}
use Rattle.std.proofs.lemmas.Int.{ints, int_wrap_fits, int_wrap-add_same}
use Rattle.std.proofs.lemmas.Nat.{and_comm, le_or_l, le_or_r, xor_comm}
use Rattle.std.proofs.Math.Facts.{Fits-lt-pow, Fits-of_lt, Fits-of_z, of_z-to_z}
use Rattle.std.proofs.Math.Nat.{zero-div}
use Rattle.mir_base.specs.declared.operators.Op.{Op}
use Rattle.mir_base.specs.declared.operators.Op.TheVariants.{Add, Sub, Mul, Div, Mod, Min, Max, Eq, Ne, Lt, Le, Gt, Ge, Shl, Shr, Shra, And, Or, Xor}
use Rattle.mir_base.specs.declared.operators.UnOp.{UnOp}
use Rattle.mir_base.specs.declared.operators.UnOp.TheVariants.{Neg, Not}
use Rattle.mir_base.specs.declared.operators.RelOp.{RelOp}
use Rattle.mir_base.specs.declared.operators.RelOp.TheVariants.{Eq as Equal, Ne as Differ, Lt as Below, Le as AtMost, Gt as Above, Ge as AtLeast}
use Rattle.mir_base.specs.Numbers.{distance, relation_holds, traps, truth, unsigned, value_of_op, value_of_un_op, wrapped}
use Rattle.mir_base.specs.NumberLaws.{zero_fits}
use Rattle.mir_base.specs.WordLaws.{or_is, xor_is}
use Rattle.zero_flow.specs.declared.facts.ZeroFact.{ZeroFact}
use Rattle.zero_flow.specs.declared.facts.ZeroFact.TheVariants.{Zero, NotZero, Any}
use Rattle.zero_flow.specs.ZeroFacts.{BelowZeroFact, ZeroFactHolds, allows, is_zero}
use Rattle.zero_flow.specs.Pairs.{any_of, by_zeros, divided, left_fact, may_left, may_relate, may_right, not_both, op_pair, over, relation_pair, right_fact, same_zeros, shifted, un_pair, where_allowed, zeros_of, zeros_of_un}
use Rattle.zero_flow.specs.FactLaws.{allows_joined, allows_where, fact_refl, or_cases, or_left, or_right}

-- ---- whether a number is 0

-- a number that is found to be 0 is 0
pub zero_is : (z : ℤ) → is_zero z ≡ true → z ≡ pos 0
zero_is z h = grind (arith, ints)

-- 0 is found to be 0
is_nought : (z : ℤ) → z ≡ pos 0 → is_zero z ≡ true
is_nought z e = ap is_zero e

-- and another number is not
is_other : (z : ℤ) → (z ≡ pos 0 → ⊥) → not (is_zero z) ≡ true
is_other z apart = by (is_zero z) refl
  where
    by : (b : Bool) → is_zero z ≡ b → not b ≡ true
    by true e = absurd (apart (zero_is z e))
    by false e = refl

-- a number that is not found to be 0 is not 0
other_is : (z : ℤ) → is_zero z ≡ false → z ≡ pos 0 → ⊥
other_is z h e = let bad : false ≡ true = sym h ∙ is_nought z e in cc

-- ---- numbers

-- 0 wraps to 0
zero_wraps : wrapped (pos 0) ≡ pos 0
zero_wraps = int_wrap_fits w64 (pos 0) zero_fits

-- what is equal to a signed 64-bit number wraps to it
wraps_to : (z a : ℤ) → z ≡ a → FitsSigned w64 a → wrapped z ≡ a
wraps_to z a is fits = ap wrapped is ∙ int_wrap_fits w64 a fits

-- a number whose difference from 0 wraps to 0 is 0
negated_zero : (z b : ℤ) → z +ℤ b ≡ pos 0 → FitsSigned w64 b → wrapped z ≡ pos 0 → b ≡ pos 0
negated_zero z b sum fits e =
    let both : wrapped (z +ℤ b) ≡ wrapped (pos 0 +ℤ b) = int_wrap-add_same w64 z (pos 0) b (e ∙ sym zero_wraps) in
    sym (wraps_to (pos 0 +ℤ b) b (omega (arith, ints)) fits) ∙ sym both ∙ ap wrapped sum ∙ zero_wraps

-- the bits of a number are none only where it is 0
none_set : (a : ℤ) → FitsSigned w64 a → of_z w64 a ≡ 0 → a ≡ pos 0
none_set a fits e = sym (to_z-of_z fits) ∙ ap (to_z w64) e

-- where an `or` is 0 it sets no bit
or_none : (a b : ℤ) → FitsSigned w64 a → FitsSigned w64 b → value_of_op Or a b ≡ pos 0
    → bit_or (of_z w64 a) (of_z w64 b) ≡ 0
or_none a b fits fits' e =
    let low : bit_or (of_z w64 a) (of_z w64 b) < 2 ^ 64 =
    or_lt 64 (of_z w64 a) (of_z w64 b) (Fits-lt-pow (Fits-of_z fits)) (Fits-lt-pow (Fits-of_z fits')) in
    let word : to_z w64 (bit_or (of_z w64 a) (of_z w64 b)) ≡ pos 0 = or_is a b fits fits' ∙ e in
    sym (of_z-to_z {w = w64} (Fits-of_lt low)) ∙ ap (of_z w64) word

-- so the first number is 0
or_zero : (a b : ℤ) → FitsSigned w64 a → FitsSigned w64 b → value_of_op Or a b ≡ pos 0 → a ≡ pos 0
or_zero a b fits fits' e =
    none_set a fits (omega (arith, or_none a b fits fits' e, le_or_l (of_z w64 a) (of_z w64 b)))

-- and so is the second
or_zero_right : (a b : ℤ) → FitsSigned w64 a → FitsSigned w64 b → value_of_op Or a b ≡ pos 0 → b ≡ pos 0
or_zero_right a b fits fits' e =
    none_set b fits' (omega (arith, or_none a b fits fits' e, le_or_r (of_z w64 a) (of_z w64 b)))

-- exclusive or with 0 is the number
xor_none : (a : ℤ) → FitsSigned w64 a → value_of_op Xor a (pos 0) ≡ a
xor_none a fits = sym (xor_is a (pos 0) fits zero_fits) ∙ ap (to_z w64) (xor_zero_r (of_z w64 a)) ∙ to_z-of_z fits

-- `and` with 0 is 0
and_none : (a : ℤ) → value_of_op And a (pos 0) ≡ pos 0
and_none a = ap (λ n. wrapped (pos n)) (and_zero_r (unsigned a)) ∙ zero_wraps

-- a quotient of 0 is 0
div_zero : (b : ℤ) → int_div (pos 0) b ≡ pos 0
div_zero (pos n) = ap pos (zero-div n)
div_zero (negsuc n) = ap (λ k. neg_ℤ (pos k)) (zero-div (suc n))

-- and so is a remainder
rem_zero : (b : ℤ) → int_rem (pos 0) b ≡ pos 0
rem_zero (pos n) = omega (arith, ints)
rem_zero (negsuc n) = omega (arith, ints)

-- ---- pairs of numbers: what operators give

-- one of three facts holds, where each holds in its case
by_zeros_holds : (both one neither : ZeroFact) (a b v : ℤ)
    → (a ≡ pos 0 → b ≡ pos 0 → ZeroFactHolds both v)
    → (a ≡ pos 0 → (b ≡ pos 0 → ⊥) → ZeroFactHolds one v)
    → ((a ≡ pos 0 → ⊥) → b ≡ pos 0 → ZeroFactHolds one v)
    → ((a ≡ pos 0 → ⊥) → (b ≡ pos 0 → ⊥) → ZeroFactHolds neither v)
    → ZeroFactHolds (by_zeros both one neither (is_zero a) (is_zero b)) v
by_zeros_holds both one neither a b v p q r s = by (is_zero a) (is_zero b) refl refl
  where
    by : (i j : Bool) → is_zero a ≡ i → is_zero b ≡ j → ZeroFactHolds (by_zeros both one neither i j) v
    by true true e f = p (zero_is a e) (zero_is b f)
    by true false e f = q (zero_is a e) (other_is b f)
    by false true e f = r (other_is a e) (zero_is b f)
    by false false e f = s (other_is a e) (other_is b f)

-- either of two numbers that are 0 is 0
chosen_zero : (t : Bool) (x y : ℤ) → x ≡ pos 0 → y ≡ pos 0 → (if t then x else y) ≡ pos 0
chosen_zero true x y p q = p
chosen_zero false x y p q = q

-- and of two that are not is not
chosen_other : (t : Bool) (x y : ℤ) → (x ≡ pos 0 → ⊥) → (y ≡ pos 0 → ⊥) → (if t then x else y) ≡ pos 0 → ⊥
chosen_other true x y p q e = p e
chosen_other false x y p q e = q e

-- what holds is 1
truth_other : (t : Bool) → t ≡ true → not (is_zero (truth t)) ≡ true
truth_other true e = refl
truth_other false e = cc

-- and what does not is 0
truth_nought : (t : Bool) → t ≡ false → is_zero (truth t) ≡ true
truth_nought true e = cc
truth_nought false e = refl

-- numbers that are found equal are
eq_is : (a b : ℤ) → int_eq a b ≡ true → a ≡ b
eq_is a b h = grind (arith, ints)

-- both 0 are equal
eq_zeros : (a b : ℤ) → a ≡ pos 0 → b ≡ pos 0 → int_eq a b ≡ true
eq_zeros a b p q = ap (λ z. int_eq z b) p ∙ ap (int_eq (pos 0)) q

-- of which none is below the other
lt_zeros : (a b : ℤ) → a ≡ pos 0 → b ≡ pos 0 → int_lt a b ≡ false
lt_zeros a b p q = ap (λ z. int_lt z b) p ∙ ap (int_lt (pos 0)) q

-- and each is at most the other
le_zeros : (a b : ℤ) → a ≡ pos 0 → b ≡ pos 0 → int_le a b ≡ true
le_zeros a b p q = ap (λ z. int_le z b) p ∙ ap (int_le (pos 0)) q

-- numbers that differ are not found equal
eq_apart : (a b : ℤ) → (a ≡ b → ⊥) → int_eq a b ≡ false
eq_apart a b apart = by (int_eq a b) refl
  where
    by : (t : Bool) → int_eq a b ≡ t → t ≡ false
    by true e = absurd (apart (eq_is a b e))
    by false e = refl

-- 0 times a number is 0
nought_times : (a b : ℤ) → a ≡ pos 0 → wrapped (a *ℤ b) ≡ pos 0
nought_times a b p = ap (λ z. wrapped (z *ℤ b)) p ∙ wraps_to (pos 0 *ℤ b) (pos 0) (omega (arith, ints)) zero_fits

-- and so is a number times 0
times_nought : (a b : ℤ) → b ≡ pos 0 → wrapped (a *ℤ b) ≡ pos 0
times_nought a b p = ap (λ z. wrapped (a *ℤ z)) p ∙ wraps_to (a *ℤ pos 0) (pos 0) (omega (arith, ints)) zero_fits

-- a quotient or a remainder, where that of 0 is 0
divided_holds : (a b v : ℤ) → is_zero b ≡ false → (a ≡ pos 0 → v ≡ pos 0)
    → ZeroFactHolds (divided (is_zero a) (is_zero b)) v
divided_holds a b v safe is = by (is_zero a) (is_zero b) refl refl
  where
    by : (i j : Bool) → is_zero a ≡ i → is_zero b ≡ j → ZeroFactHolds (divided i j) v
    by i true e f = absurd (let bad : false ≡ true = sym safe ∙ f in cc)
    by true false e f = is_nought v (is (zero_is a e))
    by false false e f = refl

-- what is shifted, where 0 shifted is 0
shifted_holds : (a v : ℤ) → (a ≡ pos 0 → v ≡ pos 0) → ZeroFactHolds (shifted (is_zero a)) v
shifted_holds a v is = by (is_zero a) refl
  where
    by : (i : Bool) → is_zero a ≡ i → ZeroFactHolds (shifted i) v
    by true e = is_nought v (is (zero_is a e))
    by false e = refl

-- 0 in the second place of an `and`, of an `or` and of an exclusive or
and_left : (a b : ℤ) → a ≡ pos 0 → value_of_op And a b ≡ pos 0
and_left a b p =
    ap (λ z. value_of_op And z b) p ∙ ap (λ n. wrapped (pos n)) (and_comm (unsigned (pos 0)) (unsigned b)) ∙ and_none b

-- exclusive or with 0 on the left
xor_left : (a b : ℤ) → a ≡ pos 0 → FitsSigned w64 b → value_of_op Xor a b ≡ b
xor_left a b p fits =
    ap (λ z. value_of_op Xor z b) p ∙ ap (λ n. wrapped (pos n)) (xor_comm (unsigned (pos 0)) (unsigned b))
    ∙ xor_none b fits

-- and on the right
xor_right : (a b : ℤ) → b ≡ pos 0 → FitsSigned w64 a → value_of_op Xor a b ≡ a
xor_right a b q fits = ap (value_of_op Xor a) q ∙ xor_none a fits

-- the fact of an operator's value holds, where it is known of each operand whether it is 0
op_pair_holds : (op : Op) (a b : ℤ) → FitsSigned w64 a → FitsSigned w64 b → traps op b ≡ false
    → ZeroFactHolds (op_pair op (is_zero a) (is_zero b)) (value_of_op op a b)
op_pair_holds Add a b fits fits' safe =
    by_zeros_holds Zero NotZero Any a b (wrapped (a +ℤ b))
    (λ p q. is_nought _ (wraps_to (a +ℤ b) (pos 0) (omega (arith, ints, p, q)) zero_fits))
    (λ p q. is_other _ (λ e. q (sym (wraps_to (a +ℤ b) b (omega (arith, ints, p)) fits') ∙ e)))
    (λ p q. is_other _ (λ e. p (sym (wraps_to (a +ℤ b) a (omega (arith, ints, q)) fits) ∙ e)))
    (λ p q. refl)
op_pair_holds Sub a b fits fits' safe =
    by_zeros_holds Zero NotZero Any a b (wrapped (a -ℤ b))
    (λ p q. is_nought _ (wraps_to (a -ℤ b) (pos 0) (omega (arith, ints, p, q)) zero_fits))
    (λ p q. is_other _ (λ e. q (negated_zero (a -ℤ b) b (omega (arith, ints, p)) fits' e)))
    (λ p q. is_other _ (λ e. p (sym (wraps_to (a -ℤ b) a (omega (arith, ints, q)) fits) ∙ e)))
    (λ p q. refl)
op_pair_holds Mul a b fits fits' safe =
    by_zeros_holds Zero Zero Any a b (wrapped (a *ℤ b))
    (λ p q. is_nought _ (nought_times a b p)) (λ p q. is_nought _ (nought_times a b p))
    (λ p q. is_nought _ (times_nought a b q)) (λ p q. refl)
op_pair_holds Div a b fits fits' safe =
    divided_holds a b (wrapped (int_div a b)) safe
    (λ p. ap (λ z. wrapped (int_div z b)) p ∙ ap wrapped (div_zero b) ∙ zero_wraps)
op_pair_holds Mod a b fits fits' safe =
    divided_holds a b (int_rem a b) safe (λ p. ap (λ z. int_rem z b) p ∙ rem_zero b)
op_pair_holds Min a b fits fits' safe =
    by_zeros_holds Zero Any NotZero a b (value_of_op Min a b)
    (λ p q. is_nought _ (chosen_zero (int_lt b a) b a q p)) (λ p q. refl) (λ p q. refl)
    (λ p q. is_other _ (chosen_other (int_lt b a) b a q p))
op_pair_holds Max a b fits fits' safe =
    by_zeros_holds Zero Any NotZero a b (value_of_op Max a b)
    (λ p q. is_nought _ (chosen_zero (int_lt b a) a b p q)) (λ p q. refl) (λ p q. refl)
    (λ p q. is_other _ (chosen_other (int_lt b a) a b p q))
op_pair_holds Eq a b fits fits' safe =
    by_zeros_holds NotZero Zero Any a b (truth (int_eq a b))
    (λ p q. truth_other (int_eq a b) (eq_zeros a b p q))
    (λ p q. truth_nought (int_eq a b) (eq_apart a b (λ e. q (sym e ∙ p))))
    (λ p q. truth_nought (int_eq a b) (eq_apart a b (λ e. p (e ∙ q))))
    (λ p q. refl)
op_pair_holds Ne a b fits fits' safe =
    by_zeros_holds Zero NotZero Any a b (truth (not (int_eq a b)))
    (λ p q. truth_nought (not (int_eq a b)) (ap not (eq_zeros a b p q)))
    (λ p q. truth_other (not (int_eq a b)) (ap not (eq_apart a b (λ e. q (sym e ∙ p)))))
    (λ p q. truth_other (not (int_eq a b)) (ap not (eq_apart a b (λ e. p (e ∙ q)))))
    (λ p q. refl)
op_pair_holds Lt a b fits fits' safe =
    by_zeros_holds Zero Any Any a b (truth (int_lt a b))
    (λ p q. truth_nought (int_lt a b) (lt_zeros a b p q)) (λ p q. refl) (λ p q. refl) (λ p q. refl)
op_pair_holds Le a b fits fits' safe =
    by_zeros_holds NotZero Any Any a b (truth (int_le a b))
    (λ p q. truth_other (int_le a b) (le_zeros a b p q)) (λ p q. refl) (λ p q. refl) (λ p q. refl)
op_pair_holds Gt a b fits fits' safe =
    by_zeros_holds Zero Any Any a b (truth (int_lt b a))
    (λ p q. truth_nought (int_lt b a) (lt_zeros b a q p)) (λ p q. refl) (λ p q. refl) (λ p q. refl)
op_pair_holds Ge a b fits fits' safe =
    by_zeros_holds NotZero Any Any a b (truth (int_le b a))
    (λ p q. truth_other (int_le b a) (le_zeros b a q p)) (λ p q. refl) (λ p q. refl) (λ p q. refl)
op_pair_holds Shl a b fits fits' safe =
    shifted_holds a (value_of_op Shl a b) (λ p. nought_times a (pos (2 ^ distance b)) p)
op_pair_holds Shr a b fits fits' safe =
    shifted_holds a (value_of_op Shr a b)
    (λ p. ap (λ z. value_of_op Shr z b) p ∙ ap (λ n. wrapped (pos n)) (zero-div (2 ^ distance b)) ∙ zero_wraps)
op_pair_holds Shra a b fits fits' safe =
    shifted_holds a (value_of_op Shra a b) (λ p. ap (λ z. value_of_op Shra z b) p ∙ ap pos (zero-div (2 ^ distance b)))
op_pair_holds And a b fits fits' safe =
    by_zeros_holds Zero Zero Any a b (value_of_op And a b)
    (λ p q. is_nought _ (and_left a b p)) (λ p q. is_nought _ (and_left a b p))
    (λ p q. is_nought _ (ap (value_of_op And a) q ∙ and_none a)) (λ p q. refl)
op_pair_holds Or a b fits fits' safe =
    by_zeros_holds Zero NotZero NotZero a b (value_of_op Or a b)
    (λ p q. is_nought _ (ap (λ z. value_of_op Or z b) p ∙ ap (value_of_op Or (pos 0)) q ∙ or_noughts))
    (λ p q. is_other _ (λ e. q (or_zero_right a b fits fits' e)))
    (λ p q. is_other _ (λ e. p (or_zero a b fits fits' e)))
    (λ p q. is_other _ (λ e. p (or_zero a b fits fits' e)))
  where
    or_noughts : value_of_op Or (pos 0) (pos 0) ≡ pos 0
    or_noughts = ap (λ n. wrapped (pos n)) (or_zero_r (unsigned (pos 0))) ∙ zero_wraps
op_pair_holds Xor a b fits fits' safe =
    by_zeros_holds Zero NotZero Any a b (value_of_op Xor a b)
    (λ p q. is_nought _ (xor_right a b q fits ∙ p))
    (λ p q. is_other _ (λ e. q (sym (xor_left a b p fits') ∙ e)))
    (λ p q. is_other _ (λ e. p (sym (xor_right a b q fits) ∙ e)))
    (λ p q. refl)

-- the same of an operator on one number
un_pair_holds : (op : UnOp) (a : ℤ) → FitsSigned w64 a
    → ZeroFactHolds (un_pair op (is_zero a)) (value_of_un_op op a)
un_pair_holds Neg a fits = by (is_zero a) refl
  where
    by : (i : Bool) → is_zero a ≡ i → ZeroFactHolds (un_pair Neg i) (wrapped (neg_ℤ a))
    by true e = is_nought _ (ap (λ z. wrapped (neg_ℤ z)) (zero_is a e) ∙ zero_wraps)
    by false e = is_other _ (λ f. other_is a e (negated_zero (neg_ℤ a) a (omega (arith, ints)) fits f))
un_pair_holds Not a fits = by (is_zero a) refl
  where
    by : (i : Bool) → is_zero a ≡ i → ZeroFactHolds (un_pair Not i) (truth (is_zero a))
    by true e = truth_other (is_zero a) e
    by false e = truth_nought (is_zero a) e

-- ---- pairs of numbers: relations

-- equal numbers are both 0, or neither is
same_holds : (a b : ℤ) → a ≡ b → same_zeros (is_zero a) (is_zero b) ≡ true
same_holds a b e = ap (λ z. same_zeros (is_zero z) (is_zero b)) e ∙ by (is_zero b)
  where
    by : (i : Bool) → same_zeros i i ≡ true
    by true = refl
    by false = refl

-- where they cannot both be 0
not_both_holds : (a b : ℤ) → (a ≡ pos 0 → b ≡ pos 0 → ⊥) → not_both (is_zero a) (is_zero b) ≡ true
not_both_holds a b apart = by (is_zero a) (is_zero b) refl refl
  where
    by : (i j : Bool) → is_zero a ≡ i → is_zero b ≡ j → not_both i j ≡ true
    by true true e f = absurd (apart (zero_is a e) (zero_is b f))
    by true false e f = refl
    by false j e f = refl

-- a test that has one truth value has not the other
differ : {C : Type 0} (t : Bool) → t ≡ true → t ≡ false → C
differ t p q = let bad : true ≡ false = sym p ∙ q in cc

-- a relation may have the truth value that it has
relation_pair_holds : (op : RelOp) (t : Bool) (a b : ℤ) → relation_holds op a b ≡ t
    → relation_pair op t (is_zero a) (is_zero b) ≡ true
relation_pair_holds Equal true a b e = same_holds a b (eq_is a b e)
relation_pair_holds Equal false a b e = not_both_holds a b (λ p q. differ (int_eq a b) (eq_zeros a b p q) e)
relation_pair_holds Differ true a b e =
    not_both_holds a b (λ p q. differ (not (int_eq a b)) e (ap not (eq_zeros a b p q)))
relation_pair_holds Differ false a b e = same_holds a b (eq_is a b (twice (int_eq a b) e))
  where
    twice : (t : Bool) → not t ≡ false → t ≡ true
    twice true f = refl
    twice false f = cc
relation_pair_holds Below true a b e = not_both_holds a b (λ p q. differ (int_lt a b) e (lt_zeros a b p q))
relation_pair_holds Below false a b e = refl
relation_pair_holds AtMost true a b e = refl
relation_pair_holds AtMost false a b e = not_both_holds a b (λ p q. differ (int_le a b) (le_zeros a b p q) e)
relation_pair_holds Above true a b e = not_both_holds a b (λ p q. differ (int_lt b a) e (lt_zeros b a q p))
relation_pair_holds Above false a b e = refl
relation_pair_holds AtLeast true a b e = refl
relation_pair_holds AtLeast false a b e = not_both_holds a b (λ p q. differ (int_le b a) (le_zeros b a q p) e)

-- ---- facts

-- both are so
and_both : (a b : Bool) → a ≡ true → b ≡ true → (a && b) ≡ true
and_both true b p q = q
and_both false b p q = cc

-- the first of two that are so
and_first : (a b : Bool) → (a && b) ≡ true → a ≡ true
and_first true b h = refl
and_first false b h = cc

-- and the second
and_second : (a b : Bool) → (a && b) ≡ true → b ≡ true
and_second true b h = h
and_second false b h = cc

-- something is so where a number is 0, or where it is not, of those that the fact allows
any_holds : (x : ZeroFact) (a b i : Bool) → allows x i ≡ true → (if i then a else b) ≡ true → any_of x a b ≡ true
any_holds x a b true p q = or_left _ _ (and_both (allows x true) a p q)
any_holds x a b false p q = or_right (allows x true && a) _ (and_both (allows x false) b p q)

-- the more the fact allows
any_rises : (x x' : ZeroFact) (a a' b b' : Bool) → BelowZeroFact x x' → (a ≡ true → a' ≡ true)
    → (b ≡ true → b' ≡ true)
    → any_of x a b ≡ true → any_of x' a' b' ≡ true
any_rises x x' a a' b b' p q r h =
    or_cases (allows x true && a) (allows x false && b) h
    (λ k. any_holds x' a' b' true (p true (and_first (allows x true) a k)) (q (and_second (allows x true) a k)))
    (λ k. any_holds x' a' b' false (p false (and_first (allows x false) b k)) (r (and_second (allows x false) b k)))

-- what is allowed at all is allowed by the fact
allows_allowed : (a : Bool) (x : ZeroFact) (nought : Bool)
    → allows (where_allowed a x) nought ≡ (a && allows x nought)
allows_allowed true x nought = refl
allows_allowed false x nought = refl

-- a fact over what another allows
allows_over : (x s t : ZeroFact) (nought : Bool)
    → allows (over x s t) nought ≡ any_of x (allows s nought) (allows t nought)
allows_over x s t nought =
    allows_joined (where_allowed (allows x true) s) (where_allowed (allows x false) t) nought
    ∙ ap (λ a. a || allows (where_allowed (allows x false) t) nought) (allows_allowed (allows x true) s nought)
    ∙ ap (λ a. (allows x true && allows s nought) || a) (allows_allowed (allows x false) t nought)

-- it allows what is allowed in one case
over_holds : (x s t : ZeroFact) (i nought : Bool) → allows x i ≡ true → allows (if i then s else t) nought ≡ true
    → allows (over x s t) nought ≡ true
over_holds x s t true nought p q =
    allows_over x s t nought ∙ any_holds x (allows s nought) (allows t nought) true p q
over_holds x s t false nought p q =
    allows_over x s t nought ∙ any_holds x (allows s nought) (allows t nought) false p q

-- and rises
over_rises : (x x' s s' t t' : ZeroFact) → BelowZeroFact x x' → BelowZeroFact s s' → BelowZeroFact t t'
    → BelowZeroFact (over x s t) (over x' s' t')
over_rises x x' s s' t t' p q r nought h =
    allows_over x' s' t' nought
    ∙ any_rises x x' (allows s nought) (allows s' nought) (allows t nought) (allows t' nought) p (q nought) (r nought)
    (sym (allows_over x s t nought) ∙ h)

-- ---- results

-- what one pair allows the facts allow
zeros_case : (op : Op) (x y : ZeroFact) (i j nought : Bool) → allows x i ≡ true → allows y j ≡ true
    → allows (op_pair op i j) nought ≡ true → allows (zeros_of op x y) nought ≡ true
zeros_case op x y true true nought p q h = over_holds x _ _ true nought p (over_holds y _ _ true nought q h)
zeros_case op x y true false nought p q h = over_holds x _ _ true nought p (over_holds y _ _ false nought q h)
zeros_case op x y false true nought p q h = over_holds x _ _ false nought p (over_holds y _ _ true nought q h)
zeros_case op x y false false nought p q h = over_holds x _ _ false nought p (over_holds y _ _ false nought q h)

-- the fact of an operator's value holds
pub zeros_hold : (op : Op) (x y : ZeroFact) (a b : ℤ) → FitsSigned w64 a → FitsSigned w64 b → ZeroFactHolds x a
    → ZeroFactHolds y b
    → traps op b ≡ false → ZeroFactHolds (zeros_of op x y) (value_of_op op a b)
zeros_hold op x y a b fits fits' p q safe =
    zeros_case op x y (is_zero a) (is_zero b) (is_zero (value_of_op op a b)) p q (op_pair_holds op a b fits fits' safe)

-- and that of an operator on one number
pub zeros_un_hold : (op : UnOp) (x : ZeroFact) (a : ℤ) → FitsSigned w64 a → ZeroFactHolds x a
    → ZeroFactHolds (zeros_of_un op x) (value_of_un_op op a)
zeros_un_hold op x a fits p = by (is_zero a) refl p (un_pair_holds op a fits)
  where
    by : (i : Bool) → is_zero a ≡ i → allows x i ≡ true → ZeroFactHolds (un_pair op i) (value_of_un_op op a)
        → ZeroFactHolds (zeros_of_un op x) (value_of_un_op op a)
    by true e p h = over_holds x _ _ true _ p h
    by false e p h = over_holds x _ _ false _ p h

-- the surer the operands, the surer the result
pub zeros_rise : (op : Op) (x x' y y' : ZeroFact) → BelowZeroFact x x' → BelowZeroFact y y'
    → BelowZeroFact (zeros_of op x y) (zeros_of op x' y')
zeros_rise op x x' y y' p q =
    over_rises x x' _ _ _ _ p
    (over_rises y y' _ _ _ _ q (fact_refl (op_pair op true true)) (fact_refl (op_pair op true false)))
    (over_rises y y' _ _ _ _ q (fact_refl (op_pair op false true)) (fact_refl (op_pair op false false)))

-- of one operand
pub zeros_un_rise : (op : UnOp) (x x' : ZeroFact) → BelowZeroFact x x'
    → BelowZeroFact (zeros_of_un op x) (zeros_of_un op x')
zeros_un_rise op x x' p = over_rises x x' _ _ _ _ p (fact_refl (un_pair op true)) (fact_refl (un_pair op false))

-- ---- relations

module _ (op : RelOp) (t : Bool) where
  -- where one pair may have the truth value, the first number may be so
  left_case : (y : ZeroFact) (i j : Bool) → allows y j ≡ true → relation_pair op t i j ≡ true
      → may_left op t y i ≡ true
  left_case y i true q h = any_holds y (relation_pair op t i true) (relation_pair op t i false) true q h
  left_case y i false q h = any_holds y (relation_pair op t i true) (relation_pair op t i false) false q h

  -- and so may the second
  right_case : (x : ZeroFact) (i j : Bool) → allows x i ≡ true → relation_pair op t i j ≡ true
      → may_right op t x j ≡ true
  right_case x true j p h = any_holds x (relation_pair op t true j) (relation_pair op t false j) true p h
  right_case x false j p h = any_holds x (relation_pair op t true j) (relation_pair op t false j) false p h

  -- more where more is allowed
  left_more : (y y' : ZeroFact) (i : Bool) → BelowZeroFact y y' → may_left op t y i ≡ true
      → may_left op t y' i ≡ true
  left_more y y' i q h =
      any_rises y y' (relation_pair op t i true) _ (relation_pair op t i false) _ q (λ k. k) (λ k. k) h

  -- of the other side
  right_more : (x x' : ZeroFact) (j : Bool) → BelowZeroFact x x' → may_right op t x j ≡ true
      → may_right op t x' j ≡ true
  right_more x x' j p h =
      any_rises x x' (relation_pair op t true j) _ (relation_pair op t false j) _ p (λ k. k) (λ k. k) h

  -- what the first may be
  allows_left : (x y : ZeroFact) (nought : Bool)
      → allows (left_fact op t x y) nought ≡ (allows x nought && may_left op t y nought)
  allows_left x y true =
      allows_where (allows x true && may_left op t y true) (allows x false && may_left op t y false) true
  allows_left x y false =
      allows_where (allows x true && may_left op t y true) (allows x false && may_left op t y false) false

  -- and what the second may be
  allows_right : (x y : ZeroFact) (nought : Bool)
      → allows (right_fact op t x y) nought ≡ (allows y nought && may_right op t x nought)
  allows_right x y true =
      allows_where (allows y true && may_right op t x true) (allows y false && may_right op t x false) true
  allows_right x y false =
      allows_where (allows y true && may_right op t x true) (allows y false && may_right op t x false) false

  module _ (x y : ZeroFact) (a b : ℤ) (p : ZeroFactHolds x a) (q : ZeroFactHolds y b)
      (is : relation_holds op a b ≡ t) where
    pair : relation_pair op t (is_zero a) (is_zero b) ≡ true
    pair = relation_pair_holds op t a b is

    -- the narrowed facts hold
    pub left_holds : ZeroFactHolds (left_fact op t x y) a
    left_holds = allows_left x y (is_zero a) ∙ and_both _ _ p (left_case y (is_zero a) (is_zero b) q pair)

    pub right_holds : ZeroFactHolds (right_fact op t x y) b
    right_holds = allows_right x y (is_zero b) ∙ and_both _ _ q (right_case x (is_zero a) (is_zero b) p pair)

    -- and the relation may have the truth value that it has
    pub may_holds : may_relate op t x y ≡ true
    may_holds = by (is_zero a) p (left_case y (is_zero a) (is_zero b) q pair)
      where
        by : (i : Bool) → allows x i ≡ true → may_left op t y i ≡ true → may_relate op t x y ≡ true
        by true p h = any_holds x (may_left op t y true) (may_left op t y false) true p h
        by false p h = any_holds x (may_left op t y true) (may_left op t y false) false p h

  module _ (x x' y y' : ZeroFact) (p : BelowZeroFact x x') (q : BelowZeroFact y y') where
    -- the surer the facts, the surer the narrowed facts
    pub left_rises : BelowZeroFact (left_fact op t x y) (left_fact op t x' y')
    left_rises nought h =
        let both = sym (allows_left x y nought) ∙ h in
        allows_left x' y' nought
        ∙ and_both _ _ (p nought (and_first (allows x nought) (may_left op t y nought) both))
        (left_more y y' nought q (and_second (allows x nought) (may_left op t y nought) both))

    pub right_rises : BelowZeroFact (right_fact op t x y) (right_fact op t x' y')
    right_rises nought h =
        let both = sym (allows_right x y nought) ∙ h in
        allows_right x' y' nought
        ∙ and_both _ _ (q nought (and_first (allows y nought) (may_right op t x nought) both))
        (right_more x x' nought p (and_second (allows y nought) (may_right op t x nought) both))

    -- and what may be by surer facts may be by less sure ones
    pub may_rises : may_relate op t x y ≡ true → may_relate op t x' y' ≡ true
    may_rises h = any_rises x x' _ _ _ _ p (left_more y y' true q) (left_more y y' false q) h
