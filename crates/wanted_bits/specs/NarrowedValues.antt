-- Right sides over values that agree on the bits that are wanted of them: their values agree on the bits that are
-- wanted of those, and they trap alike.
use Rattle.std.proofs.Common.{◌≡◌, ℕ, ◌+◌, ◌-◌, ◌/◌, ◌^◌, ◌<◌, ◌≤◌, min, max, Bool, true, false, if◌then◌else◌, nat_eq, nat_lt, not, ℤ, pos, negsuc, ◌*ℤ◌, Option, Some, None, inl, inr, refl, sym, ap, ◌∙◌, subst, arith, FitsSigned, w64, eqb-true, eq-eqb, true≢false, le_refl, ◌%◌}
use Rattle.std.specs.Int.{int_div_euclid}
use Rattle.std.specs.Ordering.{int_eq}
use Rattle.std.proofs.Math.Nat.{zero-mod, mod-le}
use Rattle.std.proofs.Math.Pow.{pow-lt}
use Rattle.std.proofs.lemmas.Bool.{cases_lt, ltb-false}
use Rattle.std.proofs.Math.IntN.{+ℤ_comm}
use Rattle.std.proofs.lemmas.Nat.{leading_length, and_comm, or_comm, xor_comm}
use Rattle.mir_base.specs.declared.operators.Op.{Op}
use Rattle.mir_base.specs.declared.operators.Op.TheVariants.{Add, Sub, Mul, Div, Mod, Min, Max, Eq, Ne, Lt, Le, Gt, Ge, Shl, Shr, Shra, And, Or, Xor}
use Rattle.mir_base.specs.declared.operators.UnOp.TheVariants.{Neg, Not}
use Rattle.mir_base.specs.declared.instructions.Operand.{Operand}
use Rattle.mir_base.specs.declared.instructions.Operand.TheVariants.{Var, Const}
use Rattle.mir_base.specs.declared.instructions.Rhs.{Rhs}
use Rattle.mir_base.specs.declared.instructions.Rhs.TheVariants.{Plain, Unary, Binary}
use Rattle.mir_base.specs.Numbers.{wrapped, unsigned, distance, traps, value_of_op, value_of_un_op}
use Rattle.mir_base.specs.NumberLaws.{wrapped_fits}
use Rattle.mir_base.specs.Frames.{Values}
use Rattle.mir_base.specs.Units.{operand_value}
use Rattle.mir_base.specs.Expressions.{rhs_traps, rhs_value, rhs_count}
use Rattle.mir_base.specs.FrameLaws.{ValuesFit, operand_fits}
use Rattle.wanted_bits.specs.Agreement.{low_bits, AgreeBelow, bit_length}
use Rattle.wanted_bits.specs.AgreementLaws.{agree_add, agree_sub, agree_mul, agree_neg, agree_lower, agree_equal, agree_wrapped, agree_and, agree_or, agree_xor, agree_mask, agree_shl, agree_shr, agree_shra, extended_agrees, extended_low, add_nothing, sub_nothing, or_nothing, xor_nothing, and_nothing, low_below, low_of_low}
use Rattle.wanted_bits.specs.declared.picking.Shift.{Shift}
use Rattle.wanted_bits.specs.Wanted.{if_any, length_of, shift_by, shifted_back, is_right_shift, wanted_by, wanted_left, wanted_of, wanted_past, wanted_rhs, wanted_right, wanted_shl, wanted_shr}
use Rattle.wanted_bits.specs.Narrowed.{has_ones, has_zeros, is_neutral, is_neutral_left, narrowed_past, narrowed_rhs, without_neutral}

-- no bits agree always
pub agree_none : (a b : ℤ) → AgreeBelow 0 a b
agree_none a b = omega (arith, low_below 0 a, low_below 0 b)

-- what is wanted where any bit is: of no bit nothing is owed
by_any : (k bits : ℕ) (a b a' b' : ℤ) → AgreeBelow (if_any k bits) a b → (AgreeBelow bits a b → AgreeBelow k a' b') → AgreeBelow k a' b'
by_any k bits a b a' b' p from = go (nat_eq k 0) refl p
  where
    go : (t : Bool) → nat_eq k 0 ≡ t → AgreeBelow (if t then 0 else bits) a b → AgreeBelow k a' b'
    go true none q = subst (λ n. AgreeBelow n a' b') (sym (eqb-true k 0 none)) (agree_none a' b')
    go false some q = from q

-- ---- operators

module _ (k : ℕ) (le : k ≤ 64) (a a' b b' : ℤ) (fits_a : FitsSigned w64 a) (fits_a' : FitsSigned w64 a') (fits_b : FitsSigned w64 b) (fits_b' : FitsSigned w64 b') where
  -- all bits of both
  by_all : (f : ℤ → ℤ → ℤ) → AgreeBelow (if_any k 64) a a' → AgreeBelow (if_any k 64) b b' → AgreeBelow k (f a b) (f a' b')
  by_all f p q = by_any k 64 a a' (f a b) (f a' b') p
      (λ r. by_any k 64 b b' (f a b) (f a' b') q (λ s. ap (low_bits k) (ap (λ x. f x b) (agree_equal a a' fits_a fits_a' r) ∙ ap (f a') (agree_equal b b' fits_b fits_b' s))))

  -- all bits of a divisor
  by_division : (f : ℤ → ℤ → ℤ) → AgreeBelow (if_any k 64) a a' → AgreeBelow 64 b b' → AgreeBelow k (f a b) (f a' b')
  by_division f p s = by_any k 64 a a' (f a b) (f a' b') p
      (λ r. ap (low_bits k) (ap (λ x. f x b) (agree_equal a a' fits_a fits_a' r) ∙ ap (f a') (agree_equal b b' fits_b fits_b' s)))

-- a shift to the right of numbers that agree on all bits, or on those that come down
module _ (k s : ℕ) (le : k ≤ 64) (a a' : ℤ) (fits : FitsSigned w64 a) (fits' : FitsSigned w64 a') (p : AgreeBelow (min 64 (k + s)) a a') where
  shr_by : AgreeBelow k (wrapped (pos (unsigned a / 2 ^ s))) (wrapped (pos (unsigned a' / 2 ^ s)))
  shr_by = agree_wrapped k (pos (unsigned a / 2 ^ s)) (pos (unsigned a' / 2 ^ s)) le (elim (cases_lt 64 (k + s)) [
    | inl more ↦
        let all : AgreeBelow 64 a a' = agree_lower 64 (min 64 (k + s)) a a' (omega arith) p in
        ap (λ n. low_bits k (pos (n / 2 ^ s))) all
    | inr within ↦ agree_shr k s a a' within (agree_lower (k + s) (min 64 (k + s)) a a' (omega arith) p)
  ])

  shra_by : AgreeBelow k (int_div_euclid a (pos (2 ^ s))) (int_div_euclid a' (pos (2 ^ s)))
  shra_by = elim (cases_lt 64 (k + s)) [
    | inl more ↦
        let all : AgreeBelow 64 a a' = agree_lower 64 (min 64 (k + s)) a a' (omega arith) p in
        ap (λ z. low_bits k (int_div_euclid z (pos (2 ^ s)))) (agree_equal a a' fits fits' all)
    | inr within ↦ agree_shra k s a a' (subst (λ n. AgreeBelow n a a') (omega arith) p)
  ]

-- the length of a constant bounds it
length_bounds : (z : ℤ) → FitsSigned w64 z → (unsigned z < 2 ^ bit_length z) × (bit_length z ≤ 64)
length_bounds z fits =
    let m = leading_length 64 (unsigned z) (low_below 64 z) in
    let is : bit_length z ≡ m.0 = omega (arith, m.1) in
    (subst (λ n. unsigned z < 2 ^ n) (sym is) m.2, omega arith)

-- ---- operands

module _ (v w : Values) (fits_v : ValuesFit v) (fits_w : ValuesFit w) where
  -- an operand
  pub operand_agrees : (a : Operand) (bits : ℕ) → ((x : ℕ) → AgreeBelow (wanted_of a bits x) (v x) (w x)) → AgreeBelow bits (operand_value v a) (operand_value w a)
  operand_agrees (Var y) bits each = subst (λ b. AgreeBelow (if b then bits else 0) (v y) (w y)) (eq-eqb y y refl) (each y)
  operand_agrees (Const c) bits each = refl

  -- it is the same constant on both sides
  same_const : (b : Operand) (c : ℤ) → b ≡ Const c → operand_value v b ≡ operand_value w b
  same_const b c is = ap (operand_value v) is ∙ sym (ap (operand_value w) is)

  -- a conjunction, of which one side may be a constant with few bits
  and_agrees : (a b : Operand) (k : ℕ) → k ≤ 64 → AgreeBelow (min k (length_of b)) (operand_value v a) (operand_value w a) → AgreeBelow (min k (length_of a)) (operand_value v b) (operand_value w b)
      → AgreeBelow k (value_of_op And (operand_value v a) (operand_value v b)) (value_of_op And (operand_value w a) (operand_value w b))
  and_agrees (Var x) (Var y) k le p q = agree_and k (v x) (w x) (v y) (w y) le (agree_lower k (min k 64) (v x) (w x) (omega arith) p) (agree_lower k (min k 64) (v y) (w y) (omega arith) q)
  and_agrees (Const c) (Const d) k le p q = refl
  and_agrees (Var x) (Const c) k le p q =
      let bounds = length_bounds (wrapped c) (wrapped_fits c) in
      elim (cases_lt (bit_length (wrapped c)) k) [
        | inl short ↦ ap (λ n. low_bits k (wrapped (pos n))) (agree_mask (bit_length (wrapped c)) (v x) (w x) (wrapped c) bounds.1 bounds.0 (agree_lower (bit_length (wrapped c)) (min k (bit_length (wrapped c))) (v x) (w x) (omega arith) p))
        | inr long ↦ agree_and k (v x) (w x) (wrapped c) (wrapped c) le (agree_lower k (min k (bit_length (wrapped c))) (v x) (w x) (omega arith) p) refl
      ]
  and_agrees (Const c) (Var y) k le p q =
      let bounds = length_bounds (wrapped c) (wrapped_fits c) in
      elim (cases_lt (bit_length (wrapped c)) k) [
        | inl short ↦ ap (λ n. low_bits k (wrapped (pos n)))
            (and_comm (unsigned (wrapped c)) (unsigned (v y)) ∙ agree_mask (bit_length (wrapped c)) (v y) (w y) (wrapped c) bounds.1 bounds.0 (agree_lower (bit_length (wrapped c)) (min k (bit_length (wrapped c))) (v y) (w y) (omega arith) q) ∙ and_comm (unsigned (w y)) (unsigned (wrapped c)))
        | inr long ↦ agree_and k (wrapped c) (wrapped c) (v y) (w y) le refl (agree_lower k (min k (bit_length (wrapped c))) (v y) (w y) (omega arith) q)
      ]

  -- shifts, by a constant or by a variable of which 6 bits agree
  shl_agrees : (a b : Operand) (k : ℕ) → k ≤ 64 → AgreeBelow (wanted_shl b k) (operand_value v a) (operand_value w a) → AgreeBelow (if_any k 6) (operand_value v b) (operand_value w b)
      → AgreeBelow k (value_of_op Shl (operand_value v a) (operand_value v b)) (value_of_op Shl (operand_value w a) (operand_value w b))
  shl_agrees a (Const c) k le p q =
      let s = distance (wrapped c) in
      agree_wrapped k (operand_value v a *ℤ pos (2 ^ s)) (operand_value w a *ℤ pos (2 ^ s)) le (agree_shl k s (operand_value v a) (operand_value w a) p)
  shl_agrees a (Var y) k le p q =
      let s = distance (v y) in
      by_any k 6 (v y) (w y) (value_of_op Shl (operand_value v a) (v y)) (value_of_op Shl (operand_value w a) (w y)) q
      (λ same. agree_wrapped k (operand_value v a *ℤ pos (2 ^ s)) (operand_value w a *ℤ pos (2 ^ s)) le
      (agree_shl k s (operand_value v a) (operand_value w a) (agree_lower (k - s) k (operand_value v a) (operand_value w a) (omega arith) p))
      ∙ ap (λ d. low_bits k (wrapped (operand_value w a *ℤ pos (2 ^ d)))) same)

  shr_agrees : (a b : Operand) (k : ℕ) → k ≤ 64 → AgreeBelow (wanted_shr b k) (operand_value v a) (operand_value w a) → AgreeBelow (if_any k 6) (operand_value v b) (operand_value w b)
      → AgreeBelow k (value_of_op Shr (operand_value v a) (operand_value v b)) (value_of_op Shr (operand_value w a) (operand_value w b))
  shr_agrees a (Const c) k le p q =
      let s = distance (wrapped c) in
      by_any k (min 64 (k + s)) (operand_value v a) (operand_value w a) (value_of_op Shr (operand_value v a) (wrapped c)) (value_of_op Shr (operand_value w a) (wrapped c)) p
      (λ r. shr_by k s le (operand_value v a) (operand_value w a) (operand_fits v a fits_v) (operand_fits w a fits_w) r)
  shr_agrees a (Var y) k le p q =
      by_any k 64 (operand_value v a) (operand_value w a) (value_of_op Shr (operand_value v a) (v y)) (value_of_op Shr (operand_value w a) (w y)) p
      (λ r. by_any k 6 (v y) (w y) (value_of_op Shr (operand_value v a) (v y)) (value_of_op Shr (operand_value w a) (w y)) q
      (λ same. ap (λ z. low_bits k (value_of_op Shr z (v y))) (agree_equal (operand_value v a) (operand_value w a) (operand_fits v a fits_v) (operand_fits w a fits_w) r)
      ∙ ap (λ d. low_bits k (wrapped (pos (unsigned (operand_value w a) / 2 ^ d)))) same))

  shra_agrees : (a b : Operand) (k : ℕ) → k ≤ 64 → AgreeBelow (wanted_shr b k) (operand_value v a) (operand_value w a) → AgreeBelow (if_any k 6) (operand_value v b) (operand_value w b)
      → AgreeBelow k (value_of_op Shra (operand_value v a) (operand_value v b)) (value_of_op Shra (operand_value w a) (operand_value w b))
  shra_agrees a (Const c) k le p q =
      let s = distance (wrapped c) in
      by_any k (min 64 (k + s)) (operand_value v a) (operand_value w a) (value_of_op Shra (operand_value v a) (wrapped c)) (value_of_op Shra (operand_value w a) (wrapped c)) p
      (λ r. shra_by k s le (operand_value v a) (operand_value w a) (operand_fits v a fits_v) (operand_fits w a fits_w) r)
  shra_agrees a (Var y) k le p q =
      by_any k 64 (operand_value v a) (operand_value w a) (value_of_op Shra (operand_value v a) (v y)) (value_of_op Shra (operand_value w a) (w y)) p
      (λ r. by_any k 6 (v y) (w y) (value_of_op Shra (operand_value v a) (v y)) (value_of_op Shra (operand_value w a) (w y)) q
      (λ same. ap (λ z. low_bits k (value_of_op Shra z (v y))) (agree_equal (operand_value v a) (operand_value w a) (operand_fits v a fits_v) (operand_fits w a fits_w) r)
      ∙ ap (λ d. low_bits k (int_div_euclid (operand_value w a) (pos (2 ^ d)))) same))

  -- ---- right sides

  -- an operator on two operands
  op_agrees : (op : Op) (a b : Operand) (k : ℕ) → k ≤ 64 → AgreeBelow (wanted_left op b k) (operand_value v a) (operand_value w a) → AgreeBelow (wanted_right op a k) (operand_value v b) (operand_value w b)
      → AgreeBelow k (value_of_op op (operand_value v a) (operand_value v b)) (value_of_op op (operand_value w a) (operand_value w b))
  op_agrees Add a b k le p q = agree_wrapped k _ _ le (agree_add k (operand_value v a) (operand_value w a) (operand_value v b) (operand_value w b) p q)
  op_agrees Sub a b k le p q = agree_wrapped k _ _ le (agree_sub k (operand_value v a) (operand_value w a) (operand_value v b) (operand_value w b) p q)
  op_agrees Mul a b k le p q = agree_wrapped k _ _ le (agree_mul k (operand_value v a) (operand_value w a) (operand_value v b) (operand_value w b) p q)
  op_agrees And a b k le p q = and_agrees a b k le p q
  op_agrees Or a b k le p q = agree_or k (operand_value v a) (operand_value w a) (operand_value v b) (operand_value w b) le p q
  op_agrees Xor a b k le p q = agree_xor k (operand_value v a) (operand_value w a) (operand_value v b) (operand_value w b) le p q
  op_agrees Shl a b k le p q = shl_agrees a b k le p q
  op_agrees Shr a b k le p q = shr_agrees a b k le p q
  op_agrees Shra a b k le p q = shra_agrees a b k le p q
  op_agrees Div a b k le p q = by_division k le _ _ _ _ (operand_fits v a fits_v) (operand_fits w a fits_w) (operand_fits v b fits_v) (operand_fits w b fits_w) (value_of_op Div) p q
  op_agrees Mod a b k le p q = by_division k le _ _ _ _ (operand_fits v a fits_v) (operand_fits w a fits_w) (operand_fits v b fits_v) (operand_fits w b fits_w) (value_of_op Mod) p q
  op_agrees Min a b k le p q = by_all k le _ _ _ _ (operand_fits v a fits_v) (operand_fits w a fits_w) (operand_fits v b fits_v) (operand_fits w b fits_w) (value_of_op Min) p q
  op_agrees Max a b k le p q = by_all k le _ _ _ _ (operand_fits v a fits_v) (operand_fits w a fits_w) (operand_fits v b fits_v) (operand_fits w b fits_w) (value_of_op Max) p q
  op_agrees Eq a b k le p q = by_all k le _ _ _ _ (operand_fits v a fits_v) (operand_fits w a fits_w) (operand_fits v b fits_v) (operand_fits w b fits_w) (value_of_op Eq) p q
  op_agrees Ne a b k le p q = by_all k le _ _ _ _ (operand_fits v a fits_v) (operand_fits w a fits_w) (operand_fits v b fits_v) (operand_fits w b fits_w) (value_of_op Ne) p q
  op_agrees Lt a b k le p q = by_all k le _ _ _ _ (operand_fits v a fits_v) (operand_fits w a fits_w) (operand_fits v b fits_v) (operand_fits w b fits_w) (value_of_op Lt) p q
  op_agrees Le a b k le p q = by_all k le _ _ _ _ (operand_fits v a fits_v) (operand_fits w a fits_w) (operand_fits v b fits_v) (operand_fits w b fits_w) (value_of_op Le) p q
  op_agrees Gt a b k le p q = by_all k le _ _ _ _ (operand_fits v a fits_v) (operand_fits w a fits_w) (operand_fits v b fits_v) (operand_fits w b fits_w) (value_of_op Gt) p q
  op_agrees Ge a b k le p q = by_all k le _ _ _ _ (operand_fits v a fits_v) (operand_fits w a fits_w) (operand_fits v b fits_v) (operand_fits w b fits_w) (value_of_op Ge) p q

  -- a right side
  pub rhs_agrees : (rhs : Rhs) (k : ℕ) → k ≤ 64 → ((x : ℕ) → AgreeBelow (wanted_by rhs k x) (v x) (w x)) → AgreeBelow k (rhs_value v rhs) (rhs_value w rhs)
  rhs_agrees (Plain a) k le each = operand_agrees a k each
  rhs_agrees (Unary Neg a) k le each = agree_wrapped k _ _ le (agree_neg k (operand_value v a) (operand_value w a) (operand_agrees a k each))
  rhs_agrees (Unary Not a) k le each =
      by_any k 64 (operand_value v a) (operand_value w a) (value_of_un_op Not (operand_value v a)) (value_of_un_op Not (operand_value w a)) (operand_agrees a (if_any k 64) each)
      (λ same. ap (λ z. low_bits k (value_of_un_op Not z)) (agree_equal (operand_value v a) (operand_value w a) (operand_fits v a fits_v) (operand_fits w a fits_w) same))
  rhs_agrees (Binary op a b) k le each =
      op_agrees op a b k le
      (operand_agrees a (wanted_left op b k) (λ x. agree_lower (wanted_of a (wanted_left op b k) x) (wanted_by (Binary op a b) k x) (v x) (w x) (omega arith) (each x)))
      (operand_agrees b (wanted_right op a k) (λ x. agree_lower (wanted_of b (wanted_right op a k) x) (wanted_by (Binary op a b) k x) (v x) (w x) (omega arith) (each x)))

  -- ---- traps

  -- an operator traps by a divisor, of which all bits agree
  op_traps : (op : Op) (a b : Operand) (k : ℕ) → AgreeBelow (wanted_right op a k) (operand_value v b) (operand_value w b) → traps op (operand_value w b) ≡ traps op (operand_value v b)
  op_traps Div a b k q = ap (λ z. int_eq z (pos 0)) (sym (agree_equal (operand_value v b) (operand_value w b) (operand_fits v b fits_v) (operand_fits w b fits_w) q))
  op_traps Mod a b k q = ap (λ z. int_eq z (pos 0)) (sym (agree_equal (operand_value v b) (operand_value w b) (operand_fits v b fits_v) (operand_fits w b fits_w) q))
  op_traps _ a b k q = refl

  pub traps_agree : (rhs : Rhs) (k : ℕ) → ((x : ℕ) → AgreeBelow (wanted_by rhs k x) (v x) (w x)) → rhs_traps w rhs ≡ rhs_traps v rhs
  traps_agree (Plain a) k each = refl
  traps_agree (Unary op a) k each = refl
  traps_agree (Binary op a b) k each =
      op_traps op a b k (operand_agrees b (wanted_right op a k) (λ x. agree_lower (wanted_of b (wanted_right op a k) x) (wanted_by (Binary op a b) k x) (v x) (w x) (omega arith) (each x)))

-- ---- neutral operands

-- a constant with zeros
zeros_agree : (k : ℕ) (values : Values) (b : Operand) → has_zeros k b ≡ true → AgreeBelow k (operand_value values b) (pos 0)
zeros_agree k values (Var y) is = absurd (true≢false (sym is))
zeros_agree k values (Const c) is = eqb-true (low_bits k (wrapped c)) 0 is ∙ sym (zero-mod (2 ^ k))

-- with ones
ones_agree : (k : ℕ) (values : Values) (b : Operand) → has_ones k b ≡ true → AgreeBelow k (operand_value values b) (negsuc 0)
ones_agree k values (Var y) is = absurd (true≢false (sym is))
ones_agree k values (Const c) is =
    let none : 2 ^ k - 1 ≡ 2 ^ k - 1 - 0 % 2 ^ k = omega (arith, zero-mod (2 ^ k)) in
    eqb-true (low_bits k (wrapped c)) (2 ^ k - 1) is ∙ none

-- it has at least so many bits
ones_long : (k : ℕ) (b : Operand) → k ≤ 64 → has_ones k b ≡ true → k ≤ length_of b
ones_long k (Var y) le is = le
ones_long k (Const c) le is = elim (cases_lt (bit_length (wrapped c)) k) [
  | inl short ↦
      let bounds = length_bounds (wrapped c) (wrapped_fits c) in
      let ones = eqb-true (low_bits k (wrapped c)) (2 ^ k - 1) is in
      let less : 2 ^ bit_length (wrapped c) < 2 ^ k = pow-lt short in
      let low : unsigned (wrapped c) % 2 ^ k ≡ low_bits k (wrapped c) = low_of_low k 64 (wrapped c) le in
      absurd (omega (arith, ones, less, low, bounds.0, mod-le (unsigned (wrapped c)) (2 ^ k)))
  | inr long ↦ long
]

-- what an operator gives with a neutral operand
neutral_value : (op : Op) (k : ℕ) (values : Values) (a : ℤ) (b : Operand) → k ≤ 64 → is_neutral op k b ≡ true → AgreeBelow k (value_of_op op a (operand_value values b)) a
neutral_value Add k values a b le is = add_nothing k a (operand_value values b) le (zeros_agree k values b is)
neutral_value Sub k values a b le is = sub_nothing k a (operand_value values b) le (zeros_agree k values b is)
neutral_value Or k values a b le is = or_nothing k a (operand_value values b) le (zeros_agree k values b is)
neutral_value Xor k values a b le is = xor_nothing k a (operand_value values b) le (zeros_agree k values b is)
neutral_value And k values a b le is = and_nothing k a (operand_value values b) le (ones_agree k values b is)
neutral_value _ k values a b le is = absurd (true≢false (sym is))

-- and with one on the left
left_value : (op : Op) (k : ℕ) (values : Values) (a : Operand) (b : ℤ) → k ≤ 64 → is_neutral_left op k a ≡ true → AgreeBelow k (value_of_op op (operand_value values a) b) b
left_value Add k values a b le is = ap (λ z. low_bits k (wrapped z)) (+ℤ_comm (operand_value values a) b) ∙ add_nothing k b (operand_value values a) le (zeros_agree k values a is)
left_value Or k values a b le is = ap (λ n. low_bits k (wrapped (pos n))) (or_comm (unsigned (operand_value values a)) (unsigned b)) ∙ or_nothing k b (operand_value values a) le (zeros_agree k values a is)
left_value Xor k values a b le is = ap (λ n. low_bits k (wrapped (pos n))) (xor_comm (unsigned (operand_value values a)) (unsigned b)) ∙ xor_nothing k b (operand_value values a) le (zeros_agree k values a is)
left_value And k values a b le is = ap (λ n. low_bits k (wrapped (pos n))) (and_comm (unsigned (operand_value values a)) (unsigned b)) ∙ and_nothing k b (operand_value values a) le (ones_agree k values a is)
left_value _ k values a b le is = absurd (true≢false (sym is))

-- of the other operand all k bits are wanted
neutral_left : (op : Op) (k : ℕ) (b : Operand) → k ≤ 64 → is_neutral op k b ≡ true → k ≤ wanted_left op b k
neutral_left Add k b le is = le_refl k
neutral_left Sub k b le is = le_refl k
neutral_left Or k b le is = le_refl k
neutral_left Xor k b le is = le_refl k
neutral_left And k b le is = omega (arith, ones_long k b le is)
neutral_left _ k b le is = absurd (true≢false (sym is))

-- also where it is the right one
neutral_right : (op : Op) (k : ℕ) (a : Operand) → k ≤ 64 → is_neutral_left op k a ≡ true → k ≤ wanted_right op a k
neutral_right Add k a le is = le_refl k
neutral_right Or k a le is = le_refl k
neutral_right Xor k a le is = le_refl k
neutral_right And k a le is = omega (arith, ones_long k a le is)
neutral_right _ k a le is = absurd (true≢false (sym is))

-- and the operator does not trap, with the constant on the left
left_traps : (op : Op) (k : ℕ) (a : Operand) (z : ℤ) → is_neutral_left op k a ≡ true → traps op z ≡ false
left_traps Div k a z is = absurd (true≢false (sym is))
left_traps Mod k a z is = absurd (true≢false (sym is))
left_traps _ k a z is = refl

-- and on the right
neutral_traps : (op : Op) (k : ℕ) (b : Operand) (z : ℤ) → is_neutral op k b ≡ true → traps op z ≡ false
neutral_traps Div k b z is = absurd (true≢false (sym is))
neutral_traps Mod k b z is = absurd (true≢false (sym is))
neutral_traps _ k b z is = refl

-- ---- what is shifted back

-- a shift that is by the distance of this operand
record IsBack (shifts : ℕ → Option Shift) (shift : Shift) (t : ℕ) (b : Operand) : Type 0 where
  by : ℤ
  const : b ≡ Const by
  is : shifts t ≡ Some shift
  far : shift.distance ≡ distance (wrapped by)

-- it is found where a shift to the right is by the same distance
back_by : (shifts : ℕ → Option Shift) (shift : Shift) (t : ℕ) (b : Operand) → shift_by (shifts t) b ≡ Some shift → IsBack shifts shift t b
back_by shifts shift t b e = go (shifts t) refl b refl e
  where
    go : (o : Option Shift) → shifts t ≡ o → (b' : Operand) → b ≡ b' → shift_by o b' ≡ Some shift → IsBack shifts shift t b
    go None is b' const e = absurd (cc)
    go (Some s) is (Var y) const e = absurd (cc)
    go (Some s) is (Const c) const e = far (nat_eq s.distance (distance (wrapped c))) refl e
      where
        far : (x : Bool) → nat_eq s.distance (distance (wrapped c)) ≡ x → (if x then Some s else None) ≡ Some shift → IsBack shifts shift t b
        far true d e = let same : s ≡ shift = cc in record { by = c; const = const; is = is ∙ e; far = ap (λ (z : Shift). z.distance) (sym same) ∙ eqb-true s.distance (distance (wrapped c)) d }
        far false d e = absurd (cc)

-- shifts that hold of these values
abbrev pub ShiftsHold : (ℕ → Option Shift) → Values → Type 0
ShiftsHold shifts v = (t : ℕ) (shift : Shift) → shifts t ≡ Some shift
    → v t ≡ wrapped (v shift.source *ℤ pos (2 ^ shift.distance))

module _ (shifts : ℕ → Option Shift) (v : Values) (hold : ShiftsHold shifts v) (shift : Shift) (k : ℕ) (near : k + shift.distance ≤ 64) where
  -- a shift back to the right, with the sign or without
  op_back : (op : Op) (t : ℕ) (b : Operand) → (if is_right_shift op then shift_by (shifts t) b else None) ≡ Some shift → AgreeBelow k (value_of_op op (v t) (operand_value v b)) (v shift.source)
  op_back Shr t b e =
      let back = back_by shifts shift t b e in
      let distance_is : distance (operand_value v b) ≡ shift.distance = ap (λ a. distance (operand_value v a)) back.const ∙ sym back.far in
      ap (λ z. low_bits k (wrapped (pos (unsigned z / 2 ^ distance (operand_value v b))))) (hold t shift back.is)
      ∙ ap (λ d. low_bits k (wrapped (pos (unsigned (wrapped (v shift.source *ℤ pos (2 ^ shift.distance))) / 2 ^ d)))) distance_is
      ∙ extended_low k shift.distance (v shift.source) near
  op_back Shra t b e =
      let back = back_by shifts shift t b e in
      let distance_is : distance (operand_value v b) ≡ shift.distance = ap (λ a. distance (operand_value v a)) back.const ∙ sym back.far in
      ap (λ z. low_bits k (int_div_euclid z (pos (2 ^ distance (operand_value v b))))) (hold t shift back.is)
      ∙ ap (λ d. low_bits k (int_div_euclid (wrapped (v shift.source *ℤ pos (2 ^ shift.distance))) (pos (2 ^ d)))) distance_is
      ∙ extended_agrees k shift.distance (v shift.source) near
  op_back _ t b e = absurd (cc)

  -- gives the lowest bits of what was shifted
  back_value : (rhs : Rhs) → shifted_back shifts rhs ≡ Some shift → AgreeBelow k (rhs_value v rhs) (v shift.source)
  back_value (Plain a) e = absurd (cc)
  back_value (Unary op a) e = absurd (cc)
  back_value (Binary op (Const c) b) e = absurd (cc)
  back_value (Binary op (Var t) b) e = op_back op t b e

-- a shift back does not trap
back_traps : (shifts : ℕ → Option Shift) (shift : Shift) (values : Values) (rhs : Rhs) → shifted_back shifts rhs ≡ Some shift → rhs_traps values rhs ≡ false
back_traps shifts shift values (Plain a) e = refl
back_traps shifts shift values (Unary op a) e = refl
back_traps shifts shift values (Binary op (Const c) b) e = absurd (cc)
back_traps shifts shift values (Binary op (Var t) b) e = go op e
  where
    go : (op : Op) → (if is_right_shift op then shift_by (shifts t) b else None) ≡ Some shift → traps op (operand_value values b) ≡ false
    go Div e = absurd (cc)
    go Mod e = absurd (cc)
    go _ e = refl

-- ---- what right sides become

module _ (v w : Values) (fits_v : ValuesFit v) (fits_w : ValuesFit w) (k : ℕ) (le : k ≤ 64) where
  -- without a neutral operand
  without_agrees : (rhs : Rhs) → ((x : ℕ) → AgreeBelow (wanted_by rhs k x) (v x) (w x)) → AgreeBelow k (rhs_value v rhs) (rhs_value w (without_neutral rhs k)) × (rhs_traps w (without_neutral rhs k) ≡ rhs_traps v rhs)
  without_agrees (Plain a) each = (rhs_agrees v w fits_v fits_w (Plain a) k le each, refl)
  without_agrees (Unary op a) each = (rhs_agrees v w fits_v fits_w (Unary op a) k le each, refl)
  without_agrees (Binary op a b) each = go (is_neutral op k b) refl
    where
      left : AgreeBelow (wanted_left op b k) (operand_value v a) (operand_value w a)
      left = operand_agrees v w fits_v fits_w a (wanted_left op b k) (λ x. agree_lower (wanted_of a (wanted_left op b k) x) (wanted_by (Binary op a b) k x) (v x) (w x) (omega arith) (each x))

      right : AgreeBelow (wanted_right op a k) (operand_value v b) (operand_value w b)
      right = operand_agrees v w fits_v fits_w b (wanted_right op a k) (λ x. agree_lower (wanted_of b (wanted_right op a k) x) (wanted_by (Binary op a b) k x) (v x) (w x) (omega arith) (each x))

      other : (t : Bool) → is_neutral_left op k a ≡ t
          → AgreeBelow k (value_of_op op (operand_value v a) (operand_value v b)) (rhs_value w (if t then Plain b else Binary op a b)) × (rhs_traps w (if t then Plain b else Binary op a b) ≡ traps op (operand_value v b))
      other true is = (
        left_value op k v a (operand_value v b) le is ∙ agree_lower k (wanted_right op a k) (operand_value v b) (operand_value w b) (neutral_right op k a le is) right,
        sym (left_traps op k a (operand_value v b) is),
      )
      other false is = (rhs_agrees v w fits_v fits_w (Binary op a b) k le each, traps_agree v w fits_v fits_w (Binary op a b) k each)

      go : (t : Bool) → is_neutral op k b ≡ t
          → AgreeBelow k (value_of_op op (operand_value v a) (operand_value v b)) (rhs_value w (if t then Plain a else (if is_neutral_left op k a then Plain b else Binary op a b)))
          × (rhs_traps w (if t then Plain a else (if is_neutral_left op k a then Plain b else Binary op a b)) ≡ traps op (operand_value v b))
      go true is = (
        neutral_value op k v (operand_value v a) b le is ∙ agree_lower k (wanted_left op b k) (operand_value v a) (operand_value w a) (neutral_left op k b le is) left,
        sym (neutral_traps op k b (operand_value v b) is),
      )
      go false is = other (is_neutral_left op k a) refl

  -- the value of what a right side becomes agrees on the bits that are wanted, and it traps alike
  pub narrowed_agrees : (shifts : ℕ → Option Shift) (rhs : Rhs) → ShiftsHold shifts v → ((x : ℕ) → AgreeBelow (wanted_rhs shifts rhs k x) (v x) (w x)) → AgreeBelow k (rhs_value v rhs) (rhs_value w (narrowed_rhs shifts rhs k)) × (rhs_traps w (narrowed_rhs shifts rhs k) ≡ rhs_traps v rhs)
  narrowed_agrees shifts rhs hold each = go (shifted_back shifts rhs) refl each
    where
      go : (o : Option Shift) → shifted_back shifts rhs ≡ o → ((x : ℕ) → AgreeBelow (wanted_past o rhs k x) (v x) (w x))
          → AgreeBelow k (rhs_value v rhs) (rhs_value w (narrowed_past o rhs k)) × (rhs_traps w (narrowed_past o rhs k) ≡ rhs_traps v rhs)
      go None is each = without_agrees rhs each
      go (Some shift) is each = by (nat_lt 64 (k + shift.distance)) refl each
        where
          by : (far : Bool) → nat_lt 64 (k + shift.distance) ≡ far → ((x : ℕ) → AgreeBelow (max (wanted_of (Var shift.source) (min k (64 - shift.distance)) x) (if not far then 0 else wanted_by rhs k x)) (v x) (w x))
              → AgreeBelow k (rhs_value v rhs) (rhs_value w (if not far then Plain (Var shift.source) else rhs)) × (rhs_traps w (if not far then Plain (Var shift.source) else rhs) ≡ rhs_traps v rhs)
          by true e each =
              let mine : (x : ℕ) → AgreeBelow (wanted_by rhs k x) (v x) (w x) = λ x. agree_lower (wanted_by rhs k x) (max (wanted_of (Var shift.source) (min k (64 - shift.distance)) x) (wanted_by rhs k x)) (v x) (w x) (omega arith) (each x) in
              (rhs_agrees v w fits_v fits_w rhs k le mine, traps_agree v w fits_v fits_w rhs k mine)
          by false e each =
              let past = ltb-false 64 (k + shift.distance) e in
              let near : k + shift.distance ≤ 64 = omega (arith, past) in
              let m = min k (64 - shift.distance) in
              let sources : AgreeBelow m (v shift.source) (w shift.source) = operand_agrees v w fits_v fits_w (Var shift.source) m
              (λ x. agree_lower (wanted_of (Var shift.source) m x) (max (wanted_of (Var shift.source) m x) 0) (v x) (w x) (omega arith) (each x)) in (
                back_value shifts v hold shift k near rhs is ∙ agree_lower k m (v shift.source) (w shift.source) (omega arith) sources,
                sym (back_traps shifts shift v rhs is),
              )

-- and it counts no more
pub narrowed_count : (shifts : ℕ → Option Shift) (rhs : Rhs) (k : ℕ) → rhs_count (narrowed_rhs shifts rhs k) ≤ rhs_count rhs
narrowed_count shifts rhs k = go (shifted_back shifts rhs)
  where
    without : (rhs : Rhs) → rhs_count (without_neutral rhs k) ≤ rhs_count rhs
    without (Plain a) = omega arith
    without (Unary op a) = omega arith
    without (Binary op a b) = by (is_neutral op k b) (is_neutral_left op k a)
      where
        by : (t u : Bool) → rhs_count (if t then Plain a else (if u then Plain b else Binary op a b)) ≤ 1
        by true u = omega arith
        by false true = omega arith
        by false false = omega arith

    go : (o : Option Shift) → rhs_count (narrowed_past o rhs k) ≤ rhs_count rhs
    go None = without rhs
    go (Some shift) = by (nat_lt 64 (k + shift.distance))
      where
        by : (far : Bool) → rhs_count (if not far then Plain (Var shift.source) else rhs) ≤ rhs_count rhs
        by true = omega arith
        by false = omega arith
