-- The facts of right sides and of tests depend on their variables alone. For proofs only.
use Rattle.std.proofs.Common.{◌≡◌, ℕ, Bool, true, false, List, length, length-set, refl, sym, ap, ◌∙◌}
use Rattle.std.proofs.lemmas.Bool.{or_parts}
use Rattle.mir_base.specs.declared.instructions.Operand.{Operand}
use Rattle.mir_base.specs.declared.instructions.Operand.TheVariants.{Var, Const}
use Rattle.mir_base.specs.declared.instructions.Rhs.{Rhs}
use Rattle.mir_base.specs.declared.instructions.Rhs.TheVariants.{Plain, Unary, Binary}
use Rattle.mir_base.specs.declared.instructions.Test as tests
use Rattle.mir_base.specs.declared.instructions.Test.TheVariants.{Rel, Holds, Fails}
use Rattle.bounds.specs.declared.facts.Fact.{Fact}
use Rattle.bounds.specs.Bounding.{bounds_of, bounds_of_un, span_of}
use Rattle.bounds.specs.BoundRules.{bound_rules}
use Rattle.bounds.specs.Edges.{Comparison, comparison, fact_at, fact_of, fact_of_rhs, facts_along, facts_where, may_be, where_is, with_fact}
use Rattle.bounds.specs.Narrowing.{may_relate, narrowed, turned}
use Rattle.cond_flow.specs.Rules.{AgreeOn, AgreeOnRhs, AgreeOnTest, FrameRules, has_test, is_operand}
use Rattle.cond_flow.specs.SetLaws.{set_alike, set_apart}

-- the fact of an operand
operand_alike : (xs ys : List Fact) (a : Operand) → AgreeOn bound_rules xs ys a → fact_of xs a ≡ fact_of ys a
operand_alike xs ys (Var x) on = on
operand_alike xs ys (Const c) on = refl

-- of a right side
rhs_alike : (xs ys : List Fact) (rhs : Rhs) → AgreeOnRhs bound_rules xs ys rhs → fact_of_rhs xs rhs ≡ fact_of_rhs ys rhs
rhs_alike xs ys (Plain a) on = operand_alike xs ys a on
rhs_alike xs ys (Unary op a) on = ap (bounds_of_un op) (operand_alike xs ys a on)
rhs_alike xs ys (Binary op a b) on =
    ap (λ x. bounds_of op x (fact_of xs b)) (operand_alike xs ys a on.0)
    ∙ ap (bounds_of op (fact_of ys a)) (operand_alike xs ys b on.1)

-- ---- tests

-- the operands of a comparison
AgreeOnBoth : (xs ys : List Fact) → Comparison → Type 0
AgreeOnBoth xs ys c = AgreeOn bound_rules xs ys c.left × AgreeOn bound_rules xs ys c.right

-- those of a test
both_alike : (xs ys : List Fact) (test : tests.Test) (b : Bool) → AgreeOnTest bound_rules xs ys test
    → AgreeOnBoth xs ys (where_is b (comparison test))
unfolding AgreeOnBoth
both_alike xs ys (Rel op a c) true on = on
both_alike xs ys (Rel op a c) false on = on
both_alike xs ys (Holds a) true on = (on, tt)
both_alike xs ys (Holds a) false on = (on, tt)
both_alike xs ys (Fails a) true on = (on, tt)
both_alike xs ys (Fails a) false on = (on, tt)

-- whether it may hold
goes_alike : (xs ys : List Fact) (c : Comparison) → AgreeOnBoth xs ys c → may_be xs c ≡ may_be ys c
unfolding AgreeOnBoth
goes_alike xs ys c on =
    ap (λ x. may_relate c.op (span_of x) (span_of (fact_of xs c.right))) (operand_alike xs ys c.left on.0)
    ∙ ap (λ y. may_relate c.op (span_of (fact_of ys c.left)) (span_of y)) (operand_alike xs ys c.right on.1)

-- ---- what is then known

-- with the fact of an operand there are as many facts
pub length_with : (a : Operand) (f : Fact) (xs : List Fact) → length (with_fact a f xs) ≡ length xs
length_with (Var x) f xs = length-set xs x f
length_with (Const c) f xs = refl

-- where the fact of an operand is set
with_alike : (a : Operand) (f g : Fact) (xs ys : List Fact) (k : ℕ) → length xs ≡ length ys → f ≡ g
    → fact_at xs k ≡ fact_at ys k → fact_at (with_fact a f xs) k ≡ fact_at (with_fact a g ys) k
with_alike (Var x) f g xs ys k long same h = set_alike bound_rules xs ys x f g k long same h
with_alike (Const c) f g xs ys k long same h = h

-- which leaves another variable as it was
with_apart : (a : Operand) (f : Fact) (xs : List Fact) (k : ℕ) → is_operand a k ≡ false
    → fact_at (with_fact a f xs) k ≡ fact_at xs k
with_apart (Var x) f xs k apart = set_apart bound_rules xs x f k apart
with_apart (Const c) f xs k apart = refl

-- where a comparison holds
where_alike : (xs ys : List Fact) (c : Comparison) (k : ℕ) → length xs ≡ length ys → AgreeOnBoth xs ys c
    → fact_at xs k ≡ fact_at ys k → fact_at (facts_where c xs) k ≡ fact_at (facts_where c ys) k
unfolding AgreeOnBoth
where_alike xs ys c k long on h =
    let left = operand_alike xs ys c.left on.0 in
    let right = operand_alike xs ys c.right on.1 in
    with_alike c.left _ _ _ _ k
    (length_with c.right _ xs ∙ long ∙ sym (length_with c.right _ ys))
    (ap (λ x. narrowed c.op x (fact_of xs c.right)) left ∙ ap (narrowed c.op (fact_of ys c.left)) right)
    (with_alike c.right _ _ xs ys k long
    (ap (λ y. narrowed (turned c.op) y (fact_of xs c.left)) right ∙ ap (narrowed (turned c.op) (fact_of ys c.right)) left) h)

-- another variable stays as it was
where_apart : (xs : List Fact) (c : Comparison) (k : ℕ) → is_operand c.left k ≡ false → is_operand c.right k ≡ false
    → fact_at (facts_where c xs) k ≡ fact_at xs k
where_apart xs c k left right = with_apart c.left _ _ k left ∙ with_apart c.right _ xs k right

-- the same of a test
along_apart : (xs : List Fact) (test : tests.Test) (b : Bool) (k : ℕ) → has_test test k ≡ false
    → fact_at (facts_along test b xs) k ≡ fact_at xs k
along_apart xs (Rel op a c) true k apart =
    let parts = or_parts (is_operand a k) (is_operand c k) apart in
    where_apart xs (where_is true (comparison (Rel op a c))) k parts.0 parts.1
along_apart xs (Rel op a c) false k apart =
    let parts = or_parts (is_operand a k) (is_operand c k) apart in
    where_apart xs (where_is false (comparison (Rel op a c))) k parts.0 parts.1
along_apart xs (Holds a) true k apart = where_apart xs (where_is true (comparison (Holds a))) k apart refl
along_apart xs (Holds a) false k apart = where_apart xs (where_is false (comparison (Holds a))) k apart refl
along_apart xs (Fails a) true k apart = where_apart xs (where_is true (comparison (Fails a))) k apart refl
along_apart xs (Fails a) false k apart = where_apart xs (where_is false (comparison (Fails a))) k apart refl

-- all together
pub frame_rules : FrameRules bound_rules
frame_rules = record {
  right_side = λ rhs xs ys on. rhs_alike xs ys rhs on;
  goes = λ test b xs ys on. goes_alike xs ys (where_is b (comparison test)) (both_alike xs ys test b on);
  along = λ test b xs ys k long on same.
      where_alike xs ys (where_is b (comparison test)) k long (both_alike xs ys test b on) same;
  apart = λ test b xs k apart. along_apart xs test b k apart;
}
