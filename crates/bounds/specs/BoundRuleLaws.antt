-- The rules of bounds are lawful. Cited by the ghost members of their `impl`.
use Rattle.std.proofs.Common.{◌≡◌, ℕ, ℤ, ◌≤◌, pos, negsuc, Bool, true, false, if◌then◌else◌, not, ◌&&◌, List, ◌++◌, refl, sym, ap, ◌∙◌, subst, arith, int_lt, int_le, unsigned_abs, bit_and, w64, FitsSigned, to_z, of_z, to_z-of_z}
use Rattle.std.specs.Prelude.{◌≤ℤ◌, ◌<ℤ◌}
use Rattle.std.specs.Ordering.{int_eq}
use Rattle.std.proofs.lemmas.Int.{ints, clamps, int_wrap_fits, SFits-int_wrap}
use Rattle.std.proofs.lemmas.Nat.{and_comm, and_le_r, or_comm}
use Rattle.std.specs.Int.Bits.{or_zero_r}
use Rattle.mir_base.specs.NumberLaws.{zero_fits}
use Rattle.mir_base.specs.WordLaws.{or_is}
use Rattle.bounds.specs.SpanHolds.{unsigned_is}
use Rattle.std.proofs.lemmas.Bool.{and_parts}
use Rattle.mir_base.specs.declared.operators.Op.{Op}
use Rattle.mir_base.specs.declared.operators.Op.TheVariants.{Add, Sub, Mul, Div, Mod, Min, Max, Eq, Ne, Lt, Le, Gt, Ge, Shl, Shr, Shra, And, Or, Xor}
use Rattle.mir_base.specs.declared.instructions.Operand.{Operand}
use Rattle.mir_base.specs.declared.instructions.Operand.TheVariants.{Var, Const}
use Rattle.mir_base.specs.declared.instructions.Rhs.{Rhs}
use Rattle.mir_base.specs.declared.instructions.Rhs.TheVariants.{Plain, Unary, Binary}
use Rattle.mir_base.specs.Numbers.{is_dividing, traps, truth, unsigned, value_of_op, value_of_un_op, wrapped}
use Rattle.mir_base.specs.Expressions.{may_be_zero, rhs_traps, rhs_value}
use Rattle.mir_base.specs.Frames.{Values}
use Rattle.mir_base.specs.FrameLaws.{ValuesFit, operand_fits}
use Rattle.mir_base.specs.Shapes.{AllBelow, operand_vars, rhs_vars}
use Rattle.mir_base.specs.BelowLaws.{all_below_left, all_below_right, all_below_append}
use Rattle.mir_base.specs.Units.{operand_value}
use Rattle.bounds.specs.declared.facts.Fact.{Fact}
use Rattle.bounds.specs.declared.facts.Fact.TheVariants.{Never, Fixed, Between}
use Rattle.bounds.specs.Ends.{end_value}
use Rattle.bounds.specs.Facts.{BelowFact, Bounds, high_of, low_of}
use Rattle.bounds.specs.FactLaws.{below_refl, below_trans, below_antisym, below_rises, rank_bound, fact_joins}
use Rattle.bounds.specs.EndLaws.{below_low, below_high, value_fits}
use Rattle.bounds.specs.RoundingLaws.{le_trans}
use Rattle.bounds.specs.Edges.{AreBounds, comparison, where_is, fact_at, fact_of, fact_of_rhs}
use Rattle.bounds.specs.EdgeLaws.{along_holds, along_mono, may_go_mono, rhs_holds, rhs_mono}
use Rattle.bounds.specs.ReadingLaws.{frame_rules, length_with}
use Rattle.bounds.specs.UseLaws.{and_keeps, max_keeps, min_keeps, mod_keeps}
use Rattle.cond_flow.specs.Rules.{AreHeld, BecomesRhs, LawfulRules, OrderRules, RewritingRules, RisingRules, SoundRules, open_outside}
use Rattle.bounds.specs.BoundRules.{bound_rules, bounded_operand, bounded_rhs, copied, gives_first, gives_second, has_ones, has_zero, is_truth, is_zero, may_vanish, number_of, number_or}

-- ---- order

-- the facts are ordered
order_rules : OrderRules BelowFact bound_rules
order_rules = record {
  reflexive = below_refl;
  transitive = below_trans;
  antisymmetric = below_antisym;
  rises = below_rises;
  ranks = rank_bound;
  joins = fact_joins;
}

-- the rules rise: the surer what is known of the operands, the surer what they say
rising_rules : RisingRules BelowFact bound_rules
rising_rules = record {
  right_side = rhs_mono;
  goes = may_go_mono;
  along = along_mono;
  long = λ test b xs. length_with (where_is b (comparison test)).left _ _ ∙ length_with (where_is b (comparison test)).right _ xs;
}

-- ---- what holds

-- less sure facts hold
up : (x y : Fact) (z : ℤ) → BelowFact x y → Bounds x z → Bounds y z
up x y z p h = record { low = le_trans _ _ _ (below_low x y p) h.low; high = le_trans _ _ _ h.high (below_high x y p) }

-- the facts hold of the values
bounds_of_held : (facts : List Fact) (values : Values) → AreHeld Bounds bound_rules facts values → AreBounds facts values
bounds_of_held facts values h = record { each = λ x. h.each x }

-- 0 is 0
zero_holds : Bounds (Fixed (pos 0)) (pos 0)
zero_holds =
    let same : wrapped (pos 0) ≡ pos 0 = int_wrap_fits w64 (pos 0) zero_fits in
    record { low = omega (arith, ints, same); high = omega (arith, ints, same) }

-- they hold
sound_rules : SoundRules BelowFact Bounds bound_rules
sound_rules = record {
  up = up;
  top = λ z fits. record { low = omega (arith, ints, fits); high = omega (arith, ints, fits) };
  zero = zero_holds;
  right_side = λ facts values rhs h fits safe. rhs_holds facts values rhs (bounds_of_held facts values h) fits safe;
  goes = λ test b facts values h fits is. (along_holds test b facts values (bounds_of_held facts values h) fits is).0;
  along = λ test b facts values h fits is. record { each = λ x. (along_holds test b facts values (bounds_of_held facts values h) fits is).1.each x };
}

-- ---- what operands and right sides become

-- of one number the value is known
number_is : (c z : ℤ) → Bounds (Fixed c) z → wrapped c ≡ z
number_is c z h = omega (arith, ints, h.low, h.high)

-- an operand keeps its value
operand_same : (facts : List Fact) (values : Values) (a : Operand) → AreHeld Bounds bound_rules facts values
    → operand_value values (bounded_operand facts a) ≡ operand_value values a
operand_same facts values (Const c) h = refl
operand_same facts values (Var x) h = cases (fact_at facts x) (h.each x)
  where
    cases : (k : Fact) → Bounds k (values x) → operand_value values (number_or k x) ≡ values x
    cases Never p = refl
    cases (Fixed c) p = number_is c (values x) p
    cases (Between e f) p = refl

-- the fact of an operand holds of its value
of_holds : (facts : List Fact) (values : Values) (a : Operand) → AreHeld Bounds bound_rules facts values
    → Bounds (fact_of facts a) (operand_value values a)
of_holds facts values (Var x) h = h.each x
of_holds facts values (Const c) h = record { low = omega (arith, ints); high = omega (arith, ints) }

-- ---- operators that give an operand

-- order as a test
is_le : (a b : ℤ) → a ≤ℤ b → int_le a b ≡ true
is_le a b h = grind (arith, ints)

-- both tests
both_true : (a b : Bool) → a ≡ true → b ≡ true → (a && b) ≡ true
both_true true b p q = q
both_true false b p q = p

-- a number that is at least and at most 0 is found equal to it
number_zero : (z : ℤ) → (int_le z (pos 0) && int_le (pos 0) z) ≡ true → int_eq z (pos 0) ≡ true
number_zero z h =
    let parts = and_parts (int_le z (pos 0)) (int_le (pos 0) z) h in
    found z parts.0 parts.1
  where
    found : (z : ℤ) → int_le z (pos 0) ≡ true → int_le (pos 0) z ≡ true → int_eq z (pos 0) ≡ true
    found z p q = grind (arith, ints)

-- where a is found to be at most b, it is
le_is : (a b : ℤ) → int_le a b ≡ true → a ≤ℤ b
le_is a b h = grind (arith, ints)

-- where a is found to be less than b, it is
lt_is : (a b : ℤ) → int_lt a b ≡ true → a <ℤ b
lt_is a b h = grind (arith, ints)

-- where a is found to be equal to b, it is
eq_is : (a b : ℤ) → int_eq a b ≡ true → a ≡ b
eq_is a b h = grind (arith, ints)

-- where a is not found to be at most b, b is less than a
above_is : (a b : ℤ) → int_le a b ≡ false → b <ℤ a
above_is a b h = grind (arith, ints)

-- ---- one operator gives its first operand, or its second

-- a number that is both at least 0 and at most 0
zero_is : (y : Fact) (b : ℤ) → is_zero y ≡ true → Bounds y b → b ≡ pos 0
zero_is y b e h =
    let parts = and_parts (int_le (pos 0) (low_of y)) (int_le (high_of y) (pos 0)) e in
    let low : pos 0 ≤ℤ low_of y = le_is (pos 0) (low_of y) parts.0 in
    let high : high_of y ≤ℤ pos 0 = le_is (high_of y) (pos 0) parts.1 in
    omega (arith, ints, low, high, h.low, h.high)

-- a truth value is not 0 where it is 1
truth_itself : (a : ℤ) → pos 0 ≤ℤ a → a ≤ℤ pos 1 → truth (not (int_eq a (pos 0))) ≡ a
truth_itself a low high = cases (int_eq a (pos 0)) refl
  where
    cases : (b : Bool) → int_eq a (pos 0) ≡ b → truth (not b) ≡ a
    cases true e = sym (eq_is a (pos 0) e)
    cases false e = one a low high e
      where
        one : (a : ℤ) → pos 0 ≤ℤ a → a ≤ℤ pos 1 → int_eq a (pos 0) ≡ false → pos 1 ≡ a
        one a low high e = grind (arith, ints)

-- a truth value that is compared with 0
ne_keeps : (x y : Fact) (a b : ℤ) → (is_truth x && is_zero y) ≡ true → Bounds x a → Bounds y b → value_of_op Ne a b ≡ a
ne_keeps x y a b e p q =
    let parts = and_parts (is_truth x) (is_zero y) e in
    let ends = and_parts (int_le (pos 0) (low_of x)) (int_le (high_of x) (pos 1)) parts.0 in
    let low : pos 0 ≤ℤ a = le_trans _ _ _ (le_is (pos 0) (low_of x) ends.0) p.low in
    let high : a ≤ℤ pos 1 = le_trans _ _ _ p.high (le_is (high_of x) (pos 1) ends.1) in
    ap (λ z. truth (not (int_eq a z))) (zero_is y b parts.1 q) ∙ truth_itself a low high

-- equality is the same both ways
eq_turned : (a b : ℤ) → int_eq a b ≡ int_eq b a
eq_turned a b = grind (arith, ints)

-- what the high end of an interval of natural numbers has in common with a number, if that is the end itself
ones_are : (m h : ℤ) → FitsSigned w64 m → FitsSigned w64 h → pos 0 ≤ℤ h → value_of_op And m h ≡ h
    → pos (bit_and (unsigned m) (unsigned_abs h)) ≡ h
ones_are m (negsuc h) fits fits' low e = absurd (omega (arith, ints, low))
ones_are m (pos h) fits fits' low e =
    let same : unsigned (pos h) ≡ h = unsigned_is h fits' in
    let few : bit_and (unsigned m) h ≤ h = and_le_r (unsigned m) h in
    let small : FitsSigned w64 (pos (bit_and (unsigned m) h)) = record { sfits = omega (arith, ints, few, fits'.sfits) } in
    sym (int_wrap_fits w64 _ small) ∙ ap (λ n. wrapped (pos (bit_and (unsigned m) n))) (sym same) ∙ e

-- `and` with all bits
ones_keep : (x y : Fact) (a b : ℤ) → has_ones x y ≡ true → FitsSigned w64 a → Bounds x a → Bounds y b
    → value_of_op And a b ≡ a
ones_keep (Between e f) (Fixed m) a b h fits p q =
    let parts = and_parts (int_le (pos 0) (end_value e)) (int_eq (value_of_op And (wrapped m) (wrapped (end_value f))) (end_value f)) h in
    let low : pos 0 ≤ℤ end_value e = le_is (pos 0) (end_value e) parts.0 in
    let natural : pos 0 ≤ℤ end_value f = le_trans _ _ _ low (le_trans _ _ _ p.low p.high) in
    let end_is : wrapped (end_value f) ≡ end_value f = int_wrap_fits w64 (end_value f) (value_fits f) in
    let bits : value_of_op And (wrapped m) (end_value f) ≡ end_value f = ap (value_of_op And (wrapped m)) (sym end_is) ∙ eq_is _ _ parts.1 in
    ap (value_of_op And a) (sym (number_is m b q)) ∙ and_keeps e f a (wrapped m) fits low (ones_are (wrapped m) (end_value f) (SFits-int_wrap w64 m) (value_fits f) natural bits) p
ones_keep (Between e f) Never a b h fits p q = cc
ones_keep (Between e f) (Between i j) a b h fits p q = cc
ones_keep Never y a b h fits p q = cc
ones_keep (Fixed c) y a b h fits p q = cc

-- `or` with 0
or_keeps : (y : Fact) (a b : ℤ) → is_zero y ≡ true → FitsSigned w64 a → Bounds y b → value_of_op Or a b ≡ a
or_keeps y a b e fits q =
    ap (value_of_op Or a) (zero_is y b e q) ∙ sym (or_is a (pos 0) fits zero_fits) ∙ ap (to_z w64) (or_zero_r (of_z w64 a)) ∙ to_z-of_z fits

-- what is given first
first_keeps : (op : Op) (x y : Fact) (a b : ℤ) → gives_first op x y ≡ true → FitsSigned w64 a → FitsSigned w64 b
    → Bounds x a → Bounds y b → value_of_op op a b ≡ a
first_keeps Mod x y a b e fits fits' p q =
    let parts = and_parts (int_le (pos 0) (low_of x)) (int_lt (high_of x) (low_of y)) e in
    mod_keeps x y a b (le_is _ _ parts.0) (lt_is _ _ parts.1) p q
first_keeps Min x y a b e fits fits' p q = min_keeps x y a b (le_is _ _ e) p q
first_keeps Max x y a b e fits fits' p q = max_keeps x y a b (le_is _ _ e) p q
first_keeps And x y a b e fits fits' p q = ones_keep x y a b e fits p q
first_keeps Or x y a b e fits fits' p q = or_keeps y a b e fits q
first_keeps Ne x y a b e fits fits' p q = ne_keeps x y a b e p q
first_keeps Add x y a b e fits fits' p q = cc
first_keeps Sub x y a b e fits fits' p q = cc
first_keeps Mul x y a b e fits fits' p q = cc
first_keeps Div x y a b e fits fits' p q = cc
first_keeps Eq x y a b e fits fits' p q = cc
first_keeps Lt x y a b e fits fits' p q = cc
first_keeps Le x y a b e fits fits' p q = cc
first_keeps Gt x y a b e fits fits' p q = cc
first_keeps Ge x y a b e fits fits' p q = cc
first_keeps Shl x y a b e fits fits' p q = cc
first_keeps Shr x y a b e fits fits' p q = cc
first_keeps Shra x y a b e fits fits' p q = cc
first_keeps Xor x y a b e fits fits' p q = cc

-- the lesser of two numbers is the same both ways
min_turned : (a b : ℤ) → value_of_op Min a b ≡ value_of_op Min b a
min_turned a b = omega (arith, ints, clamps)

-- and so is the greater
max_turned : (a b : ℤ) → value_of_op Max a b ≡ value_of_op Max b a
max_turned a b = omega (arith, ints, clamps)

-- what is given second
second_keeps : (op : Op) (x y : Fact) (a b : ℤ) → gives_second op x y ≡ true → FitsSigned w64 a → FitsSigned w64 b
    → Bounds x a → Bounds y b → value_of_op op a b ≡ b
second_keeps Min x y a b e fits fits' p q = min_turned a b ∙ min_keeps y x b a (le_is _ _ e) q p
second_keeps Max x y a b e fits fits' p q = max_turned a b ∙ max_keeps y x b a (le_is _ _ e) q p
second_keeps And x y a b e fits fits' p q =
    ap (λ n. wrapped (pos n)) (and_comm (unsigned a) (unsigned b)) ∙ ones_keep y x b a e fits' q p
second_keeps Or x y a b e fits fits' p q =
    ap (λ n. wrapped (pos n)) (or_comm (unsigned a) (unsigned b)) ∙ or_keeps x b a e fits' p
second_keeps Ne x y a b e fits fits' p q = ap (λ c. truth (not c)) (eq_turned a b) ∙ ne_keeps y x b a e q p
second_keeps Mod x y a b e fits fits' p q = cc
second_keeps Add x y a b e fits fits' p q = cc
second_keeps Sub x y a b e fits fits' p q = cc
second_keeps Mul x y a b e fits fits' p q = cc
second_keeps Div x y a b e fits fits' p q = cc
second_keeps Eq x y a b e fits fits' p q = cc
second_keeps Lt x y a b e fits fits' p q = cc
second_keeps Le x y a b e fits fits' p q = cc
second_keeps Gt x y a b e fits fits' p q = cc
second_keeps Ge x y a b e fits fits' p q = cc
second_keeps Shl x y a b e fits fits' p q = cc
second_keeps Shr x y a b e fits fits' p q = cc
second_keeps Shra x y a b e fits fits' p q = cc
second_keeps Xor x y a b e fits fits' p q = cc

-- ---- right sides

-- a right side does what it does
stays : (values : Values) (rhs : Rhs) → BecomesRhs values rhs rhs
stays values rhs = record { traps = refl; value = refl; count = omega arith }

-- where r may become s, and s may become t, r may become t
followed : (values : Values) (r s t : Rhs) → BecomesRhs values r s → BecomesRhs values s t → BecomesRhs values r t
followed values r s t one two = record { traps = two.traps ∙ one.traps; value = two.value ∙ one.value; count = omega (arith, one.count, two.count) }

-- a right side that does not trap may become the number that it is known to be
number_same : (values : Values) (k : Fact) (rhs rhs' : Rhs) → rhs_traps values rhs ≡ false → Bounds k (rhs_value values rhs)
    → BecomesRhs values rhs rhs' → BecomesRhs values rhs (number_of k rhs')
number_same values Never rhs rhs' safe h same = same
number_same values (Fixed c) rhs rhs' safe h same = record { traps = sym safe; value = number_is c _ h; count = omega arith }
number_same values (Between e f) rhs rhs' safe h same = same

-- with the operands replaced
binary_replaced : (facts : List Fact) (values : Values) (op : Op) (a b : Operand) → AreHeld Bounds bound_rules facts values
    → BecomesRhs values (Binary op a b) (Binary op (bounded_operand facts a) (bounded_operand facts b))
binary_replaced facts values op a b h =
    let left = operand_same facts values a h in
    let right = operand_same facts values b h in
    record {
      traps = ap (traps op) right;
      value = ap (λ v. value_of_op op v (operand_value values (bounded_operand facts b))) left ∙ ap (value_of_op op (operand_value values a)) right;
      count = omega arith;
    }

-- a copy of the operand that is given
copied_same : (values : Values) (op : Op) (a b : Operand) (x y : Fact) → traps op (operand_value values b) ≡ false
    → FitsSigned w64 (operand_value values a) → FitsSigned w64 (operand_value values b)
    → Bounds x (operand_value values a) → Bounds y (operand_value values b)
    → BecomesRhs values (Binary op a b) (copied op a b x y)
copied_same values op a b x y safe fits fits' p q = cases (gives_first op x y) refl (gives_second op x y) refl
  where
    cases : (c : Bool) → gives_first op x y ≡ c → (d : Bool) → gives_second op x y ≡ d
        → BecomesRhs values (Binary op a b) (if c then Plain a else if d then Plain b else Binary op a b)
    cases true e d e' = record { traps = sym safe; value = sym (first_keeps op x y _ _ e fits fits' p q); count = omega arith }
    cases false e true e' = record { traps = sym safe; value = sym (second_keeps op x y _ _ e' fits fits' p q); count = omega arith }
    cases false e false e' = stays values (Binary op a b)

-- an operator does not trap unless it divides, and its divisor may be 0
no_zero : (op : Op) (y : Fact) (b : ℤ) → (is_dividing op && has_zero y) ≡ false → Bounds y b → traps op b ≡ false
no_zero op y b e q = by_op (is_dividing op) (int_eq b (pos 0)) refl e
  where
    by_op : (c d : Bool) → int_eq b (pos 0) ≡ d → (c && has_zero y) ≡ false → (c && d) ≡ false
    by_op false d is e = refl
    by_op true false is e = refl
    by_op true true is e =
        let zero : b ≡ pos 0 = eq_is b (pos 0) is in
        let low : low_of y ≤ℤ pos 0 = omega (arith, ints, zero, q.low) in
        let high : pos 0 ≤ℤ high_of y = omega (arith, ints, zero, q.high) in
        let both : has_zero y ≡ true = both_true _ _ (is_le (low_of y) (pos 0) low) (is_le (pos 0) (high_of y) high) in
        absurd (let bad : false ≡ true = sym e ∙ both in cc)

-- a right side does what it did
rhs_same : (facts : List Fact) (values : Values) (rhs : Rhs) → AreHeld Bounds bound_rules facts values → ValuesFit values
    → BecomesRhs values rhs (bounded_rhs facts rhs)
rhs_same facts values (Plain a) h fits = record { traps = refl; value = operand_same facts values a h; count = omega arith }
rhs_same facts values (Unary op a) h fits =
    number_same values (fact_of_rhs facts (Unary op a)) (Unary op a) (Unary op (bounded_operand facts a)) refl
    (rhs_holds facts values (Unary op a) (bounds_of_held facts values h) fits refl)
    (record { traps = refl; value = ap (value_of_un_op op) (operand_same facts values a h); count = omega arith })
rhs_same facts values (Binary op a b) h fits = cases (is_dividing op && has_zero (fact_of facts b)) refl
  where
    cases : (c : Bool) → (is_dividing op && has_zero (fact_of facts b)) ≡ c
        → BecomesRhs values (Binary op a b) (if c then Binary op (bounded_operand facts a) (bounded_operand facts b)
        else number_of (fact_of_rhs facts (Binary op a b)) (copied op (bounded_operand facts a) (bounded_operand facts b) (fact_of facts a) (fact_of facts b)))
    cases true e = binary_replaced facts values op a b h
    cases false e =
        let safe : traps op (operand_value values b) ≡ false = no_zero op (fact_of facts b) _ e (of_holds facts values b h) in
        let left = operand_same facts values a h in
        let right = operand_same facts values b h in
        number_same values (fact_of_rhs facts (Binary op a b)) (Binary op a b) _ safe
        (rhs_holds facts values (Binary op a b) (bounds_of_held facts values h) fits safe)
        (followed values (Binary op a b) _ _ (binary_replaced facts values op a b h)
        (copied_same values op (bounded_operand facts a) (bounded_operand facts b) (fact_of facts a) (fact_of facts b) (ap (traps op) right ∙ safe)
        (operand_fits values (bounded_operand facts a) fits) (operand_fits values (bounded_operand facts b) fits)
        (subst (Bounds (fact_of facts a)) (sym left) (of_holds facts values a h)) (subst (Bounds (fact_of facts b)) (sym right) (of_holds facts values b h))))

-- ---- variables

-- what an operand becomes has no variables but those that it had
operand_below : (n : ℕ) (facts : List Fact) (a : Operand) → AllBelow n (operand_vars a)
    → AllBelow n (operand_vars (bounded_operand facts a))
operand_below n facts (Const c) low = tt
operand_below n facts (Var x) low = cases (fact_at facts x)
  where
    cases : (k : Fact) → AllBelow n (operand_vars (number_or k x))
    cases Never = low
    cases (Fixed c) = tt
    cases (Between e f) = low

-- nor has what a right side becomes by the number that it may be known to be
number_below : (n : ℕ) (k : Fact) (rhs : Rhs) → AllBelow n (rhs_vars rhs) → AllBelow n (rhs_vars (number_of k rhs))
number_below n Never rhs low = low
number_below n (Fixed c) rhs low = tt
number_below n (Between e f) rhs low = low

-- nor has a copy of an operand
copied_below : (n : ℕ) (a b : Operand) (op : Op) (c d : Bool) → AllBelow n (operand_vars a ++ operand_vars b)
    → AllBelow n (rhs_vars (if c then Plain a else if d then Plain b else Binary op a b))
copied_below n a b op true d low = all_below_left n (operand_vars a) (operand_vars b) low
copied_below n a b op false true low = all_below_right n (operand_vars a) (operand_vars b) low
copied_below n a b op false false low = low

-- nor has what a right side becomes
right_side_below : (n : ℕ) (facts : List Fact) (rhs : Rhs) → AllBelow n (rhs_vars rhs)
    → AllBelow n (rhs_vars (bounded_rhs facts rhs))
right_side_below n facts (Plain a) low = operand_below n facts a low
right_side_below n facts (Unary op a) low =
    number_below n (fact_of_rhs facts (Unary op a)) (Unary op (bounded_operand facts a)) (operand_below n facts a low)
right_side_below n facts (Binary op a b) low = cases (is_dividing op && has_zero (fact_of facts b))
  where
    both : AllBelow n (operand_vars (bounded_operand facts a) ++ operand_vars (bounded_operand facts b))
    both = all_below_append n (operand_vars (bounded_operand facts a)) (operand_vars (bounded_operand facts b))
        (operand_below n facts a (all_below_left n (operand_vars a) (operand_vars b) low))
        (operand_below n facts b (all_below_right n (operand_vars a) (operand_vars b) low))

    cases : (c : Bool) → AllBelow n (rhs_vars (if c then Binary op (bounded_operand facts a) (bounded_operand facts b)
        else number_of (fact_of_rhs facts (Binary op a b)) (copied op (bounded_operand facts a) (bounded_operand facts b) (fact_of facts a) (fact_of facts b))))
    cases true = both
    cases false =
        number_below n (fact_of_rhs facts (Binary op a b)) _
        (copied_below n (bounded_operand facts a) (bounded_operand facts b) op (gives_first op (fact_of facts a) (fact_of facts b)) (gives_second op (fact_of facts a) (fact_of facts b)) both)

-- ---- divisions

-- a division stays whose divisor may be 0
division_stays : (facts : List Fact) (op : Op) (a b : Operand) → is_dividing op ≡ true → may_vanish facts b ≡ true
    → bounded_rhs facts (Binary op a b) ≡ Binary op (bounded_operand facts a) (bounded_operand facts b)
division_stays facts op a b divides may =
    ap (λ c. if c then Binary op (bounded_operand facts a) (bounded_operand facts b)
    else number_of (fact_of_rhs facts (Binary op a b)) (copied op (bounded_operand facts a) (bounded_operand facts b) (fact_of facts a) (fact_of facts b)))
    (both_true _ _ divides may)

-- an operand that may be 0 is a variable or 0
vanishes : (facts : List Fact) (a : Operand) → may_vanish facts a ≡ true → may_be_zero (bounded_operand facts a) ≡ true
vanishes facts (Const c) may = zero_number c may
  where
    zero_number : (c : ℤ) → has_zero (Fixed c) ≡ true → may_be_zero (Const c) ≡ true
    zero_number c may = number_zero (wrapped c) may
vanishes facts (Var x) may = cases (fact_at facts x) may
  where
    cases : (k : Fact) → has_zero k ≡ true → may_be_zero (number_or k x) ≡ true
    cases Never may = refl
    cases (Fixed c) may = number_zero (wrapped c) may
    cases (Between e f) may = refl

-- the rewriting keeps what a node does
rewriting_rules : RewritingRules Bounds bound_rules
rewriting_rules = record {
  operand_same = λ facts values a h fits. operand_same facts values a h;
  right_side_same = rhs_same;
  operand_below = operand_below;
  right_side_below = right_side_below;
  divides = division_stays;
  vanishes = vanishes;
}

-- all laws
pub bound_laws : LawfulRules BelowFact Bounds bound_rules
bound_laws = record {
  order = order_rules;
  rising = rising_rules;
  sound = sound_rules;
  rewriting = rewriting_rules;
  frame = frame_rules;
}

-- nothing is known outside
pub bound_open : bound_rules.outside ≡ open_outside
bound_open = refl
