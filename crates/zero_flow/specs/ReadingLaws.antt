-- The facts of right sides and of tests depend on their variables alone. For proofs only.
use Rattle.std.proofs.Common.{◌≡◌, ℕ, Bool, false, List, length, length-set, refl, sym, ap, ◌∙◌}
use Rattle.std.proofs.lemmas.Bool.{or_parts}
use Rattle.mir_base.specs.declared.instructions.Operand.{Operand}
use Rattle.mir_base.specs.declared.instructions.Operand.TheVariants.{Var, Const}
use Rattle.mir_base.specs.declared.instructions.Rhs.{Rhs}
use Rattle.mir_base.specs.declared.instructions.Rhs.TheVariants.{Plain, Unary, Binary}
use Rattle.mir_base.specs.declared.instructions.Test as tests
use Rattle.mir_base.specs.declared.instructions.Test.TheVariants.{Rel, Holds, Fails}
use Rattle.cond_flow.specs.Rules.{AgreeOn, AgreeOnRhs, AgreeOnTest, FrameRules, has_test, is_operand}
use Rattle.cond_flow.specs.SetLaws.{set_alike, set_apart}
use Rattle.zero_flow.specs.declared.facts.ZeroFact.{ZeroFact}
use Rattle.zero_flow.specs.Pairs.{left_fact, may_relate, right_fact, zeros_of, zeros_of_un}
use Rattle.zero_flow.specs.Zeros.{Comparison, comparison, compares_as, with_zero, zero_at, zero_of, zero_of_rhs, zeros_along, zeros_where}
use Rattle.zero_flow.specs.ZeroRules.{zero_rules}

-- the fact of an operand
operand_alike : (xs ys : List ZeroFact) (a : Operand) → AgreeOn zero_rules xs ys a → zero_of xs a ≡ zero_of ys a
operand_alike xs ys (Var x) on = on
operand_alike xs ys (Const c) on = refl

-- of a right side
rhs_alike : (xs ys : List ZeroFact) (rhs : Rhs) → AgreeOnRhs zero_rules xs ys rhs
    → zero_of_rhs xs rhs ≡ zero_of_rhs ys rhs
rhs_alike xs ys (Plain a) on = operand_alike xs ys a on
rhs_alike xs ys (Unary op a) on = ap (zeros_of_un op) (operand_alike xs ys a on)
rhs_alike xs ys (Binary op a b) on =
    ap (λ x. zeros_of op x (zero_of xs b)) (operand_alike xs ys a on.0)
    ∙ ap (zeros_of op (zero_of ys a)) (operand_alike xs ys b on.1)

-- ---- tests

-- the operands of a comparison
AgreeOnBoth : (xs ys : List ZeroFact) → Comparison → Type 0
AgreeOnBoth xs ys c = AgreeOn zero_rules xs ys c.left × AgreeOn zero_rules xs ys c.right

-- those of a test
both_alike : (xs ys : List ZeroFact) (test : tests.Test) → AgreeOnTest zero_rules xs ys test
    → AgreeOnBoth xs ys (comparison test)
unfolding AgreeOnBoth
both_alike xs ys (Rel op a c) on = on
both_alike xs ys (Holds a) on = (on, tt)
both_alike xs ys (Fails a) on = (on, tt)

-- whether it may have a truth value
goes_alike : (xs ys : List ZeroFact) (c : Comparison) (b : Bool) → AgreeOnBoth xs ys c
    → compares_as c b xs ≡ compares_as c b ys
unfolding AgreeOnBoth
goes_alike xs ys c b on =
    ap (λ x. may_relate c.op b x (zero_of xs c.right)) (operand_alike xs ys c.left on.0)
    ∙ ap (may_relate c.op b (zero_of ys c.left)) (operand_alike xs ys c.right on.1)

-- with the fact of an operand there are as many facts
pub length_with : (a : Operand) (f : ZeroFact) (xs : List ZeroFact) → length (with_zero a f xs) ≡ length xs
length_with (Var x) f xs = length-set xs x f
length_with (Const c) f xs = refl

-- where the fact of an operand is set
with_alike : (a : Operand) (f g : ZeroFact) (xs ys : List ZeroFact) (k : ℕ) → length xs ≡ length ys → f ≡ g
    → zero_at xs k ≡ zero_at ys k → zero_at (with_zero a f xs) k ≡ zero_at (with_zero a g ys) k
with_alike (Var x) f g xs ys k long same h = set_alike zero_rules xs ys x f g k long same h
with_alike (Const c) f g xs ys k long same h = h

-- which leaves another variable as it was
with_apart : (a : Operand) (f : ZeroFact) (xs : List ZeroFact) (k : ℕ) → is_operand a k ≡ false
    → zero_at (with_zero a f xs) k ≡ zero_at xs k
with_apart (Var x) f xs k apart = set_apart zero_rules xs x f k apart
with_apart (Const c) f xs k apart = refl

-- where a comparison has a truth value
where_alike : (xs ys : List ZeroFact) (c : Comparison) (b : Bool) (k : ℕ) → length xs ≡ length ys
    → AgreeOnBoth xs ys c
    → zero_at xs k ≡ zero_at ys k → zero_at (zeros_where c b xs) k ≡ zero_at (zeros_where c b ys) k
unfolding AgreeOnBoth
where_alike xs ys c b k long on h =
    let left = operand_alike xs ys c.left on.0 in
    let right = operand_alike xs ys c.right on.1 in
    with_alike c.left _ _ _ _ k
    (length_with c.right _ xs ∙ long ∙ sym (length_with c.right _ ys))
    (ap (λ x. left_fact c.op b x (zero_of xs c.right)) left ∙ ap (left_fact c.op b (zero_of ys c.left)) right)
    (with_alike c.right _ _ xs ys k long
    (ap (λ x. right_fact c.op b x (zero_of xs c.right)) left ∙ ap (right_fact c.op b (zero_of ys c.left)) right) h)

-- another variable stays as it was
where_apart : (xs : List ZeroFact) (c : Comparison) (b : Bool) (k : ℕ) → is_operand c.left k ≡ false
    → is_operand c.right k ≡ false
    → zero_at (zeros_where c b xs) k ≡ zero_at xs k
where_apart xs c b k left right = with_apart c.left _ _ k left ∙ with_apart c.right _ xs k right

-- the same of a test
along_apart : (xs : List ZeroFact) (test : tests.Test) (b : Bool) (k : ℕ) → has_test test k ≡ false
    → zero_at (zeros_along test b xs) k ≡ zero_at xs k
along_apart xs (Rel op a c) b k apart =
    let parts = or_parts (is_operand a k) (is_operand c k) apart in
    where_apart xs (comparison (Rel op a c)) b k parts.0 parts.1
along_apart xs (Holds a) b k apart = where_apart xs (comparison (Holds a)) b k apart refl
along_apart xs (Fails a) b k apart = where_apart xs (comparison (Fails a)) b k apart refl

-- all together
pub frame_rules : FrameRules zero_rules
frame_rules = record {
  right_side = λ rhs xs ys on. rhs_alike xs ys rhs on;
  goes = λ test b xs ys on. goes_alike xs ys (comparison test) b (both_alike xs ys test on);
  along =
      λ test b xs ys k long on same. where_alike xs ys (comparison test) b k long (both_alike xs ys test on) same;
  apart = λ test b xs k apart. along_apart xs test b k apart;
}
