-- What is known of right sides and along the edges of tests holds, and rises. For proofs only.
use Rattle.std.proofs.Common.{◌≡◌, ℕ, zero, suc, Bool, true, false, not, if◌then◌else◌, List, [], ◌∷◌, slice_set, refl, sym, ap, ◌∙◌, subst, ℤ, pos, w64}
use Rattle.std.proofs.lemmas.Int.{int_wrap_fits}
use Rattle.std.specs.Ordering.{int_eq}
use Rattle.fix_solve.specs.Pointwise.{Pointwise}
use Rattle.mir_base.specs.declared.instructions.Operand.{Operand}
use Rattle.mir_base.specs.declared.instructions.Operand.TheVariants.{Var, Const}
use Rattle.mir_base.specs.declared.instructions.Rhs.{Rhs}
use Rattle.mir_base.specs.declared.instructions.Rhs.TheVariants.{Plain, Unary, Binary}
use Rattle.mir_base.specs.declared.instructions.Test as tests
use Rattle.mir_base.specs.declared.instructions.Test.TheVariants.{Rel, Holds, Fails}
use Rattle.mir_base.specs.Frames.{Values}
use Rattle.mir_base.specs.FrameLaws.{ValuesFit, operand_fits}
use Rattle.mir_base.specs.Numbers.{wrapped, relation_holds}
use Rattle.mir_base.specs.NumberLaws.{zero_fits}
use Rattle.mir_base.specs.Units.{operand_value, test_holds}
use Rattle.mir_base.specs.Expressions.{rhs_traps, rhs_value}
use Rattle.cond_flow.specs.Rules.{AreHeld}
use Rattle.zero_flow.specs.declared.facts.ZeroFact.{ZeroFact}
use Rattle.zero_flow.specs.declared.facts.ZeroFact.TheVariants.{Zero, NotZero, Any}
use Rattle.zero_flow.specs.ZeroFacts.{BelowZeroFact, ZeroFactHolds, is_zero}
use Rattle.zero_flow.specs.FactLaws.{fact_refl}
use Rattle.zero_flow.specs.PairLaws.{left_holds, left_rises, may_holds, may_rises, right_holds, right_rises, zeros_hold, zeros_rise, zeros_un_hold, zeros_un_rise}
use Rattle.zero_flow.specs.Zeros.{Comparison, comparison, with_zero, zero_at, zero_of, zero_of_number, zero_of_rhs, zeros_along, zeros_go}
use Rattle.zero_flow.specs.ZeroRules.{zero_rules}

-- variable by variable
abbrev BelowZeros : List ZeroFact → List ZeroFact → Type 0
BelowZeros = Pointwise BelowZeroFact

-- the facts hold of the values
abbrev ZerosHold : List ZeroFact → Values → Type 0
ZerosHold facts values = AreHeld ZeroFactHolds zero_rules facts values

-- ---- what rises

-- one variable
below_at : (xs ys : List ZeroFact) (x : ℕ) → BelowZeros xs ys → BelowZeroFact (zero_at xs x) (zero_at ys x)
below_at [] [] x p = fact_refl Any
below_at [] (y ∷ ys) x p = absurd p
below_at (k ∷ xs) [] x p = absurd p
below_at (k ∷ xs) (y ∷ ys) zero p = p.0
below_at (k ∷ xs) (y ∷ ys) (suc x) p = below_at xs ys x p.1

-- all of them, after one is set
below_set : (xs ys : List ZeroFact) (x : ℕ) (k k' : ZeroFact) → BelowZeros xs ys → BelowZeroFact k k'
    → BelowZeros (slice_set xs x k) (slice_set ys x k')
below_set [] [] x k k' p q = tt
below_set [] (y ∷ ys) x k k' p q = absurd p
below_set (z ∷ xs) [] x k k' p q = absurd p
below_set (z ∷ xs) (y ∷ ys) zero k k' p q = (q, p.1)
below_set (z ∷ xs) (y ∷ ys) (suc x) k k' p q = (p.0, below_set xs ys x k k' p.1 q)

-- the fact of an operand
below_of : (xs ys : List ZeroFact) (a : Operand) → BelowZeros xs ys → BelowZeroFact (zero_of xs a) (zero_of ys a)
below_of xs ys (Var x) p = below_at xs ys x p
below_of xs ys (Const c) p = fact_refl (zero_of_number c)

-- with the fact of an operand
below_with : (xs ys : List ZeroFact) (a : Operand) (k k' : ZeroFact) → BelowZeros xs ys → BelowZeroFact k k'
    → BelowZeros (with_zero a k xs) (with_zero a k' ys)
below_with xs ys (Var x) k k' p q = below_set xs ys x k k' p q
below_with xs ys (Const c) k k' p q = p

-- a right side
pub rhs_rises : (rhs : Rhs) (xs ys : List ZeroFact) → BelowZeros xs ys
    → BelowZeroFact (zero_of_rhs xs rhs) (zero_of_rhs ys rhs)
rhs_rises (Plain a) xs ys p = below_of xs ys a p
rhs_rises (Unary op a) xs ys p = zeros_un_rise op _ _ (below_of xs ys a p)
rhs_rises (Binary op a b) xs ys p = zeros_rise op _ _ _ _ (below_of xs ys a p) (below_of xs ys b p)

-- whether a test may go
pub go_rises : (test : tests.Test) (b : Bool) (xs ys : List ZeroFact) → BelowZeros xs ys → zeros_go test b xs ≡ true
    → zeros_go test b ys ≡ true
go_rises test b xs ys p may =
    let c : Comparison = comparison test in
    may_rises c.op b _ _ _ _ (below_of xs ys c.left p) (below_of xs ys c.right p) may

-- and what passes along its edges
pub along_rises : (test : tests.Test) (b : Bool) (xs ys : List ZeroFact) → BelowZeros xs ys
    → BelowZeros (zeros_along test b xs) (zeros_along test b ys)
along_rises test b xs ys p =
    let c : Comparison = comparison test in
    let left = below_of xs ys c.left p in
    let right = below_of xs ys c.right p in
    below_with _ _ c.left _ _
    (below_with xs ys c.right _ _ p (right_rises c.op b _ _ _ _ left right))
    (left_rises c.op b _ _ _ _ left right)

-- ---- what holds

-- the fact of a number
number_holds : (z : ℤ) (t : Bool) → is_zero z ≡ t → ZeroFactHolds (if t then Zero else NotZero) z
number_holds z true e = e
number_holds z false e = ap not e

-- of an operand
pub of_holds : (facts : List ZeroFact) (values : Values) (a : Operand) → ZerosHold facts values
    → ZeroFactHolds (zero_of facts a) (operand_value values a)
of_holds facts values (Var x) h = h.each x
of_holds facts values (Const c) h = number_holds (wrapped c) (is_zero (wrapped c)) refl

-- of a right side
pub rhs_holds : (facts : List ZeroFact) (values : Values) (rhs : Rhs) → ZerosHold facts values → ValuesFit values
    → rhs_traps values rhs ≡ false → ZeroFactHolds (zero_of_rhs facts rhs) (rhs_value values rhs)
rhs_holds facts values (Plain a) h fits safe = of_holds facts values a h
rhs_holds facts values (Unary op a) h fits safe =
    zeros_un_hold op _ _ (operand_fits values a fits) (of_holds facts values a h)
rhs_holds facts values (Binary op a b) h fits safe =
    zeros_hold op _ _ _ _ (operand_fits values a fits) (operand_fits values b fits) (of_holds facts values a h)
    (of_holds facts values b h) safe

-- facts that hold still do where one of them is replaced by one that holds
set_holds : (facts : List ZeroFact) (values : Values) (x : ℕ) (k : ZeroFact) → ZerosHold facts values
    → ZeroFactHolds k (values x)
    → ZerosHold (slice_set facts x k) values
set_holds facts values x k h here =
    record {
      each =
          λ y. among facts x y (values y) (h.each y) (λ same. subst (λ z. ZeroFactHolds k (values z)) (sym same) here);
    }
  where
    among : (facts : List ZeroFact) (x y : ℕ) (v : ℤ) → ZeroFactHolds (zero_at facts y) v
        → (y ≡ x → ZeroFactHolds k v)
        → ZeroFactHolds (zero_at (slice_set facts x k) y) v
    among [] x y v old new = old
    among (f ∷ facts) zero zero v old new = new refl
    among (f ∷ facts) zero (suc y) v old new = old
    among (f ∷ facts) (suc x) zero v old new = old
    among (f ∷ facts) (suc x) (suc y) v old new = among facts x y v old (λ same. new (ap suc same))

-- of an operand
with_holds : (facts : List ZeroFact) (values : Values) (a : Operand) (k : ZeroFact) → ZerosHold facts values
    → ZeroFactHolds k (operand_value values a) → ZerosHold (with_zero a k facts) values
with_holds facts values (Var x) k h here = set_holds facts values x k h here
with_holds facts values (Const c) k h here = h

-- the comparison of the values
abbrev compares : Values → Comparison → Bool
compares values c = relation_holds c.op (operand_value values c.left) (operand_value values c.right)

-- a test is its comparison
test_is : (values : Values) (test : tests.Test) → compares values (comparison test) ≡ test_holds values test
test_is values (Rel op a b) = refl
test_is values (Holds a) = ap (λ z. not (int_eq (operand_value values a) z)) (int_wrap_fits w64 (pos 0) zero_fits)
test_is values (Fails a) = ap (λ z. int_eq (operand_value values a) z) (int_wrap_fits w64 (pos 0) zero_fits)

module _ (test : tests.Test) (b : Bool) (facts : List ZeroFact) (values : Values) (h : ZerosHold facts values)
    (is : test_holds values test ≡ b) where
  abbrev c : Comparison
  c = comparison test

  -- a test may go where it goes
  pub go_holds : zeros_go test b facts ≡ true
  go_holds =
      may_holds c.op b _ _ _ _ (of_holds facts values c.left h) (of_holds facts values c.right h)
      (test_is values test ∙ is)

  -- and what passes there holds
  pub along_holds : ZerosHold (zeros_along test b facts) values
  along_holds =
      let left = of_holds facts values c.left h in
      let right = of_holds facts values c.right h in
      let there = test_is values test ∙ is in
      with_holds _ values c.left _
      (with_holds facts values c.right _ h (right_holds c.op b _ _ _ _ left right there))
      (left_holds c.op b _ _ _ _ left right there)
