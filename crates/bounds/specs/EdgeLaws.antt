-- What passes along the edges of tests holds, and is monotone. For proofs only.
use Rattle.std.proofs.Common.{◌≡◌, ℕ, zero, suc, Bool, true, false, not, List, [], ◌∷◌, slice_set, refl, sym, ap, ◌∙◌, subst, arith, ℤ, pos, w64}
use Rattle.std.proofs.lemmas.Int.{ints, int_wrap_fits}
use Rattle.std.specs.Ordering.{int_eq}
use Rattle.mir_base.specs.declared.instructions.Operand.{Operand}
use Rattle.mir_base.specs.declared.instructions.Operand.TheVariants.{Var, Const}
use Rattle.mir_base.specs.declared.instructions.Rhs.{Rhs}
use Rattle.mir_base.specs.declared.instructions.Rhs.TheVariants.{Plain, Unary, Binary}
use Rattle.mir_base.specs.declared.instructions.Test as tests
use Rattle.mir_base.specs.declared.instructions.Test.TheVariants.{Rel, Holds, Fails}
use Rattle.mir_base.specs.Frames.{Values}
use Rattle.mir_base.specs.FrameLaws.{ValuesFit, operand_fits}
use Rattle.mir_base.specs.Numbers.{wrapped, relation_holds}
use Rattle.mir_base.specs.Units.{operand_value, test_holds}
use Rattle.mir_base.specs.Expressions.{rhs_traps, rhs_value}
use Rattle.bounds.specs.declared.facts.Fact.{Fact}
use Rattle.bounds.specs.Facts.{BelowFact, Bounds}
use Rattle.bounds.specs.FactLaws.{below_refl}
use Rattle.bounds.specs.EndLaws.{below_low, below_high}
use Rattle.bounds.specs.Bounding.{Within, span_of}
use Rattle.bounds.specs.BoundsLaws.{bounds_hold, bounds_un_hold, bounds_mono, bounds_un_mono}
use Rattle.bounds.specs.Narrowing.{turned}
use Rattle.bounds.specs.NarrowingLaws.{narrowed_holds, narrowed_mono, may_holds, may_mono, denied_is, turned_is}
use Rattle.bounds.specs.Edges.{anything, fact_at, fact_of, fact_of_rhs, BelowFacts, AreBounds, Comparison, comparison, where_is, with_fact, facts_where, may_go, facts_along}

-- ---- variables

-- variable by variable
below_at : (xs ys : List Fact) (x : ℕ) → BelowFacts xs ys → BelowFact (fact_at xs x) (fact_at ys x)
below_at [] [] x p = below_refl anything
below_at [] (y ∷ ys) x p = absurd p
below_at (k ∷ xs) [] x p = absurd p
below_at (k ∷ xs) (y ∷ ys) zero p = p.0
below_at (k ∷ xs) (y ∷ ys) (suc x) p = below_at xs ys x p.1

-- and after one of them is set
below_set : (xs ys : List Fact) (x : ℕ) (k k' : Fact) → BelowFacts xs ys → BelowFact k k'
    → BelowFacts (slice_set xs x k) (slice_set ys x k')
below_set [] [] x k k' p q = tt
below_set [] (y ∷ ys) x k k' p q = absurd p
below_set (z ∷ xs) [] x k k' p q = absurd p
below_set (z ∷ xs) (y ∷ ys) zero k k' p q = (q, p.1)
below_set (z ∷ xs) (y ∷ ys) (suc x) k k' p q = (p.0, below_set xs ys x k k' p.1 q)

-- the fact of an operand
below_of : (xs ys : List Fact) (a : Operand) → BelowFacts xs ys → BelowFact (fact_of xs a) (fact_of ys a)
below_of xs ys (Var x) p = below_at xs ys x p
below_of xs ys (Const c) p = refl

-- with the fact of an operand
below_with : (xs ys : List Fact) (a : Operand) (k k' : Fact) → BelowFacts xs ys → BelowFact k k'
    → BelowFacts (with_fact a k xs) (with_fact a k' ys)
below_with xs ys (Var x) k k' p q = below_set xs ys x k k' p q
below_with xs ys (Const c) k k' p q = p

-- ---- right sides

-- the surer the facts, the surer the right side
pub rhs_mono : (rhs : Rhs) (xs ys : List Fact) → BelowFacts xs ys → BelowFact (fact_of_rhs xs rhs) (fact_of_rhs ys rhs)
rhs_mono (Plain a) xs ys p = below_of xs ys a p
rhs_mono (Unary op a) xs ys p = bounds_un_mono op _ _ (below_of xs ys a p)
rhs_mono (Binary op a b) xs ys p = bounds_mono op _ _ _ _ (below_of xs ys a p) (below_of xs ys b p)

-- the fact of an operand holds of its value
of_holds : (facts : List Fact) (values : Values) (a : Operand) → AreBounds facts values
    → Bounds (fact_of facts a) (operand_value values a)
of_holds facts values (Var x) h = h.each x
of_holds facts values (Const c) h = record { low = omega (arith, ints); high = omega (arith, ints) }

-- that of a right side holds of its value
pub rhs_holds : (facts : List Fact) (values : Values) (rhs : Rhs) → AreBounds facts values → ValuesFit values
    → rhs_traps values rhs ≡ false → Bounds (fact_of_rhs facts rhs) (rhs_value values rhs)
rhs_holds facts values (Plain a) h fits safe = of_holds facts values a h
rhs_holds facts values (Unary op a) h fits safe =
    bounds_un_hold op _ _ (operand_fits values a fits) (of_holds facts values a h)
rhs_holds facts values (Binary op a b) h fits safe =
    bounds_hold op _ _ _ _ (operand_fits values a fits) (operand_fits values b fits) (of_holds facts values a h)
    (of_holds facts values b h) safe

-- ---- tests: what holds

-- facts that hold still do where one of them is replaced by a fact that holds of its variable's value
set_holds : (facts : List Fact) (values : Values) (x : ℕ) (k : Fact) → AreBounds facts values → Bounds k (values x)
    → AreBounds (slice_set facts x k) values
set_holds facts values x k h here = record { each = λ y. at facts x y (h.each y) (λ same. subst (λ z. Bounds k (values z)) (sym same) here) }
  where
    at : (facts : List Fact) (x y : ℕ) → Bounds (fact_at facts y) (values y) → (y ≡ x → Bounds k (values y))
        → Bounds (fact_at (slice_set facts x k) y) (values y)
    at facts x y old new = among facts x y (values y) old new
      where
        among : (facts : List Fact) (x y : ℕ) (v : ℤ) → Bounds (fact_at facts y) v → (y ≡ x → Bounds k v)
            → Bounds (fact_at (slice_set facts x k) y) v
        among [] x y v old new = old
        among (f ∷ facts) zero zero v old new = new refl
        among (f ∷ facts) zero (suc y) v old new = old
        among (f ∷ facts) (suc x) zero v old new = old
        among (f ∷ facts) (suc x) (suc y) v old new = among facts x y v old (λ same. new (ap suc same))

-- of an operand
with_holds : (facts : List Fact) (values : Values) (a : Operand) (k : Fact) → AreBounds facts values
    → Bounds k (operand_value values a) → AreBounds (with_fact a k facts) values
with_holds facts values (Var x) k h here = set_holds facts values x k h here
with_holds facts values (Const c) k h here = h

-- the comparison holds between the values
abbrev compares : Values → Comparison → Bool
compares values c = relation_holds c.op (operand_value values c.left) (operand_value values c.right)

-- where it does, the narrowed facts hold
where_holds : (facts : List Fact) (values : Values) (c : Comparison) → AreBounds facts values → ValuesFit values
    → compares values c ≡ true → AreBounds (facts_where c facts) values
where_holds facts values c h fits is =
    let left = of_holds facts values c.left h in
    let right = of_holds facts values c.right h in
    let back : relation_holds (turned c.op) (operand_value values c.right) (operand_value values c.left) ≡ true =
    turned_is c.op _ _ ∙ is in
    with_holds _ values c.left _
    (with_holds facts values c.right _ h (narrowed_holds (turned c.op) _ _ _ _ (operand_fits values c.right fits) right left back))
    (narrowed_holds c.op _ _ _ _ (operand_fits values c.left fits) left right is)

-- a test is its comparison
test_is : (values : Values) (test : tests.Test) → compares values (comparison test) ≡ test_holds values test
test_is values (Rel op a b) = refl
test_is values (Holds a) = ap (λ z. not (int_eq (operand_value values a) z)) zero_is
  where
    zero_is : wrapped (pos 0) ≡ pos 0
    zero_is = int_wrap_fits w64 (pos 0) (record { sfits = omega arith })
test_is values (Fails a) = ap (λ z. int_eq (operand_value values a) z) zero_is
  where
    zero_is : wrapped (pos 0) ≡ pos 0
    zero_is = int_wrap_fits w64 (pos 0) (record { sfits = omega arith })

-- the comparison of a truth value holds where the test has it
where_is_is : (values : Values) (c : Comparison) (b : Bool) → compares values c ≡ b → compares values (where_is b c) ≡ true
where_is_is values c true e = e
where_is_is values c false e = denied_is c.op _ _ ∙ ap not e

-- where a test has a truth value the facts along that edge hold, and the test may have it
pub along_holds : (test : tests.Test) (b : Bool) (facts : List Fact) (values : Values) → AreBounds facts values
    → ValuesFit values → test_holds values test ≡ b
    → (may_go test b facts ≡ true) × AreBounds (facts_along test b facts) values
along_holds test b facts values h fits e =
    let c : Comparison = where_is b (comparison test) in
    let is : compares values c ≡ true = where_is_is values (comparison test) b (test_is values test ∙ e) in (
      may_holds c.op _ _ _ _ (of_holds facts values c.left h) (of_holds facts values c.right h) is,
      where_holds facts values c h fits is,
    )

-- ---- tests: what is monotone

-- spans of facts in order
within : (x y : Fact) → BelowFact x y → Within (span_of x) (span_of y)
within x y p = record { low = below_low x y p; high = below_high x y p }

-- what may hold by surer facts may by less sure ones
pub may_go_mono : (test : tests.Test) (b : Bool) (xs ys : List Fact) → BelowFacts xs ys → may_go test b xs ≡ true
    → may_go test b ys ≡ true
may_go_mono test b xs ys p may =
    let c : Comparison = where_is b (comparison test) in
    may_mono c.op _ _ _ _ (within _ _ (below_of xs ys c.left p)) (within _ _ (below_of xs ys c.right p)) may

-- and the surer the facts, the surer is what passes
pub along_mono : (test : tests.Test) (b : Bool) (xs ys : List Fact) → BelowFacts xs ys
    → BelowFacts (facts_along test b xs) (facts_along test b ys)
along_mono test b xs ys p =
    let c : Comparison = where_is b (comparison test) in
    let left = below_of xs ys c.left p in
    let right = below_of xs ys c.right p in
    below_with _ _ c.left _ _
    (below_with xs ys c.right _ _ p (narrowed_mono (turned c.op) _ _ _ _ right left))
    (narrowed_mono c.op _ _ _ _ left right)
