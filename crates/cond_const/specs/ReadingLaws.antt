-- What is known of a right side and of a test depends on their variables alone. For proofs only.
use Rattle.std.proofs.Common.{◌≡◌, Bool, List, refl, ap, ◌∙◌}
use Rattle.mir_base.specs.declared.instructions.Operand.{Operand}
use Rattle.mir_base.specs.declared.instructions.Operand.TheVariants.{Var, Const}
use Rattle.mir_base.specs.declared.instructions.Rhs.{Rhs}
use Rattle.mir_base.specs.declared.instructions.Rhs.TheVariants.{Plain, Unary, Binary}
use Rattle.mir_base.specs.declared.instructions.Test as tests
use Rattle.mir_base.specs.declared.instructions.Test.TheVariants.{Rel, Holds, Fails}
use Rattle.cond_flow.specs.Rules.{AgreeOn, AgreeOnRhs, AgreeOnTest, FrameRules}
use Rattle.cond_const.specs.declared.known.Known.{Known}
use Rattle.cond_const.specs.Folding.{resolved, resolved_as, resolved_rhs, resolved_test, folded, known_of, decided, may_be, fold_rules}

-- an operand
operand_alike : (xs ys : List Known) (a : Operand) → AgreeOn fold_rules xs ys a → resolved xs a ≡ resolved ys a
operand_alike xs ys (Var x) on = ap (λ k. resolved_as k x) on
operand_alike xs ys (Const c) on = refl

-- a right side
rhs_alike : (xs ys : List Known) (rhs : Rhs) → AgreeOnRhs fold_rules xs ys rhs → resolved_rhs xs rhs ≡ resolved_rhs ys rhs
rhs_alike xs ys (Plain a) on = ap Plain (operand_alike xs ys a on)
rhs_alike xs ys (Unary op a) on = ap (Unary op) (operand_alike xs ys a on)
rhs_alike xs ys (Binary op a b) on =
    ap (λ o. Binary op o (resolved xs b)) (operand_alike xs ys a on.0)
    ∙ ap (Binary op (resolved ys a)) (operand_alike xs ys b on.1)

-- a test
test_alike : (xs ys : List Known) (test : tests.Test) → AgreeOnTest fold_rules xs ys test
    → resolved_test xs test ≡ resolved_test ys test
test_alike xs ys (Rel op a b) on =
    ap (λ o. Rel op o (resolved xs b)) (operand_alike xs ys a on.0)
    ∙ ap (Rel op (resolved ys a)) (operand_alike xs ys b on.1)
test_alike xs ys (Holds a) on = ap Holds (operand_alike xs ys a on)
test_alike xs ys (Fails a) on = ap Fails (operand_alike xs ys a on)

-- all together
pub frame_rules : FrameRules fold_rules
frame_rules = record {
  right_side = λ rhs xs ys on. ap (λ r. known_of (folded r)) (rhs_alike xs ys rhs on);
  goes = λ test b xs ys on. ap (λ t. may_be b (decided t)) (test_alike xs ys test on);
  along = λ test b xs ys k long on same. same;
  apart = λ test b xs k apart. refl;
}
