-- What is known of the variables holds of right sides and tests, and what they become does what they do. For proofs only.
use Rattle.std.proofs.Common.{◌≡◌, Bool, true, false, not, if◌then◌else◌, nat_eq, eqb-true, List, ℤ, pos, Option, Some, None, refl, sym, ap, ◌∙◌, subst, arith, w64}
use Rattle.std.proofs.lemmas.Int.{SFits-int_wrap, int_wrap_fits}
use Rattle.std.specs.Ordering.{int_eq}
use Rattle.mir_base.specs.declared.operators.Op.{Op}
use Rattle.mir_base.specs.declared.instructions.Operand.{Operand}
use Rattle.mir_base.specs.declared.instructions.Operand.TheVariants.{Var, Const}
use Rattle.mir_base.specs.declared.instructions.Rhs.{Rhs}
use Rattle.mir_base.specs.declared.instructions.Rhs.TheVariants.{Plain, Unary, Binary}
use Rattle.mir_base.specs.declared.operators.RelOp.{RelOp}
use Rattle.mir_base.specs.declared.instructions.Test as tests
use Rattle.mir_base.specs.declared.instructions.Test.TheVariants.{Rel, Holds, Fails}
use Rattle.mir_base.specs.Numbers.{wrapped, traps, value_of_op, value_of_un_op, relation_holds}
use Rattle.mir_base.specs.NumberLaws.{value_fits, un_value_fits}
use Rattle.mir_base.specs.Frames.{Values}
use Rattle.mir_base.specs.Units.{operand_value, test_holds}
use Rattle.mir_base.specs.Expressions.{rhs_value}
use Rattle.mir_base.specs.FrameLaws.{ValuesFit, operand_fits}
use Rattle.cond_flow.specs.Rules.{AreHeld, BecomesRhs, SoundRules}
use Rattle.cond_const.specs.declared.known.Known.{Known}
use Rattle.cond_const.specs.declared.known.Known.TheVariants.{Fixed, Varying}
use Rattle.cond_const.specs.declared.identities.Identity.{Identity}
use Rattle.cond_const.specs.declared.identities.Identity.TheVariants.{Absent, Itself, Always}
use Rattle.cond_const.specs.Identities.{identity_same, identity_left, identity_right, IsIdentity}
use Rattle.cond_const.specs.States.{BelowKnown, HasValue}
use Rattle.cond_const.specs.Folding.{known_at, resolved_as, resolved, resolved_rhs, resolved_test, by_identity, folded_binary, folded, folded_rhs, known_of, known_rhs, relates_itself, decided_relation, decided, decided_test, may_be, fold_rules}
use Rattle.cond_const.specs.IdentityLaws.{same_keeps, right_keeps, left_keeps}
use Rattle.cond_const.specs.RelationLaws.{relation_same}

-- ---- values

-- a resolved operand has the value
pub resolved_value : (ks : List Known) (values : Values) (a : Operand) → AreHeld HasValue fold_rules ks values → ValuesFit values → operand_value values (resolved ks a) ≡ operand_value values a
resolved_value ks values (Const c) agrees fits = refl
resolved_value ks values (Var x) agrees fits = cases (known_at ks x) refl
  where
    cases : (k : Known) → known_at ks x ≡ k → operand_value values (resolved_as k x) ≡ values x
    cases (Fixed c) e = let is : values x ≡ c = subst (λ k. HasValue k (values x)) e (agrees.each x) in ap wrapped (sym is) ∙ int_wrap_fits w64 (values x) (fits.fit x)
    cases Varying e = refl

-- a right side does what it does
stays : (values : Values) (rhs : Rhs) → BecomesRhs values rhs rhs
stays values rhs = record { traps = refl; value = refl; count = omega arith }

-- by an identity
by_identity_folds : (values : Values) (r : Identity) (o : Operand) (op : Op) (a b : Operand) → ValuesFit values → IsIdentity r (operand_value values o) op (operand_value values a) (operand_value values b) → BecomesRhs values (Binary op a b) (by_identity r o (Binary op a b))
by_identity_folds values Absent o op a b fits keeps = stays values (Binary op a b)
by_identity_folds values Itself o op a b fits keeps = record { traps = sym keeps.0; value = sym keeps.1; count = omega arith }
by_identity_folds values (Always c) o op a b fits keeps =
    record {
      traps = sym keeps.0;
      value = ap wrapped (sym keeps.1) ∙ int_wrap_fits w64 _ (value_fits op _ _ (operand_fits values a fits) (operand_fits values b fits));
      count = omega arith;
    }

-- on two constants
constants_fold : (values : Values) (op : Op) (a b : ℤ) (t : Bool) → traps op (wrapped b) ≡ t → BecomesRhs values (Binary op (Const a) (Const b)) (if t then Binary op (Const a) (Const b) else Plain (Const (value_of_op op (wrapped a) (wrapped b))))
constants_fold values op a b true is = stays values (Binary op (Const a) (Const b))
constants_fold values op a b false is = record { traps = sym is; value = int_wrap_fits w64 _ (value_fits op _ _ (SFits-int_wrap w64 a) (SFits-int_wrap w64 b)); count = omega arith }

-- on any two operands
binary_folds : (values : Values) (op : Op) (a b : Operand) → ValuesFit values → BecomesRhs values (Binary op a b) (folded_binary op a b)
binary_folds values op (Const a) (Const b) fits = constants_fold values op a b (traps op (wrapped b)) refl
binary_folds values op (Var x) (Const b) fits = by_identity_folds values (identity_right op (wrapped b)) (Var x) op (Var x) (Const b) fits (right_keeps op (values x) (wrapped b) (fits.fit x) (SFits-int_wrap w64 b))
binary_folds values op (Const a) (Var y) fits = by_identity_folds values (identity_left op (wrapped a)) (Var y) op (Const a) (Var y) fits (left_keeps op (values y) (wrapped a) (fits.fit y) (SFits-int_wrap w64 a))
binary_folds values op (Var x) (Var y) fits = cases (nat_eq x y) refl
  where
    cases : (t : Bool) → nat_eq x y ≡ t → BecomesRhs values (Binary op (Var x) (Var y)) (if t then by_identity (identity_same op) (Var x) (Binary op (Var x) (Var y)) else Binary op (Var x) (Var y))
    cases true is =
        let same : x ≡ y = eqb-true x y is in
        by_identity_folds values (identity_same op) (Var x) op (Var x) (Var y) fits (subst (λ z. IsIdentity (identity_same op) (values x) op (values x) (values z)) same (same_keeps op (values x) (fits.fit x)))
    cases false is = stays values (Binary op (Var x) (Var y))

-- any right side
folded_folds : (values : Values) (rhs : Rhs) → ValuesFit values → BecomesRhs values rhs (folded rhs)
folded_folds values (Plain a) fits = stays values (Plain a)
folded_folds values (Unary op (Var x)) fits = stays values (Unary op (Var x))
folded_folds values (Unary op (Const c)) fits = record { traps = refl; value = int_wrap_fits w64 _ (un_value_fits op _); count = omega arith }
folded_folds values (Binary op a b) fits = binary_folds values op a b fits

-- with its operands resolved
resolved_folds : (ks : List Known) (values : Values) (rhs : Rhs) → AreHeld HasValue fold_rules ks values → ValuesFit values → BecomesRhs values rhs (resolved_rhs ks rhs)
resolved_folds ks values (Plain a) agrees fits = record { traps = refl; value = resolved_value ks values a agrees fits; count = omega arith }
resolved_folds ks values (Unary op a) agrees fits = record { traps = refl; value = ap (value_of_un_op op) (resolved_value ks values a agrees fits); count = omega arith }
resolved_folds ks values (Binary op a b) agrees fits =
    let left = resolved_value ks values a agrees fits in
    let right = resolved_value ks values b agrees fits in
    record {
      traps = ap (traps op) right;
      value = ap (λ v. value_of_op op v (operand_value values (resolved ks b))) left ∙ ap (value_of_op op (operand_value values a)) right;
      count = omega arith;
    }

-- both
pub rhs_folds : (ks : List Known) (values : Values) (rhs : Rhs) → AreHeld HasValue fold_rules ks values → ValuesFit values → BecomesRhs values rhs (folded_rhs ks rhs)
rhs_folds ks values rhs agrees fits =
    let one = resolved_folds ks values rhs agrees fits in
    let two = folded_folds values (resolved_rhs ks rhs) fits in
    record { traps = two.traps ∙ one.traps; value = two.value ∙ one.value; count = omega (arith, one.count, two.count) }

-- a right side that is a constant has its value
known_is : (values : Values) (rhs : Rhs) (c : ℤ) → known_of rhs ≡ Fixed c → rhs_value values rhs ≡ c
known_is values (Plain (Const d)) c e = cc
known_is values (Plain (Var x)) c e = cc
known_is values (Unary op a) c e = cc
known_is values (Binary op a b) c e = cc

-- so what is known of a right side is its value
pub known_value : (ks : List Known) (values : Values) (rhs : Rhs) (c : ℤ) → AreHeld HasValue fold_rules ks values → ValuesFit values → known_rhs ks rhs ≡ Fixed c → rhs_value values rhs ≡ c
known_value ks values rhs c agrees fits e = sym (rhs_folds ks values rhs agrees fits).value ∙ known_is values (folded_rhs ks rhs) c e

-- ---- tests

-- a relation that is decided
relation_decided : (values : Values) (op : RelOp) (a b : Operand) (d : Bool) → decided_relation op a b ≡ Some d → relation_holds op (operand_value values a) (operand_value values b) ≡ d
relation_decided values op (Const a) (Const b) d e = cc
relation_decided values op (Var x) (Const b) d e = cc
relation_decided values op (Const a) (Var y) d e = cc
relation_decided values op (Var x) (Var y) d e = cases (nat_eq x y) refl e
  where
    cases : (t : Bool) → nat_eq x y ≡ t → (if t then Some (relates_itself op) else None) ≡ Some d → relation_holds op (values x) (values y) ≡ d
    cases true is e' =
        let same : x ≡ y = eqb-true x y is in
        let says : relates_itself op ≡ d = cc in
        subst (λ z. relation_holds op (values x) (values z) ≡ d) same (relation_same op (values x) ∙ says)
    cases false is e' = cc

-- a test that is decided, its variables all varying
decided_holds : (values : Values) (test : tests.Test) (d : Bool) → decided test ≡ Some d → test_holds values test ≡ d
decided_holds values (Rel op a b) d e = relation_decided values op a b d e
decided_holds values (Holds (Var x)) d e = cc
decided_holds values (Holds (Const a)) d e = cc
decided_holds values (Fails (Var x)) d e = cc
decided_holds values (Fails (Const a)) d e = cc

-- a test with its operands resolved holds where it does
pub resolved_holds : (ks : List Known) (values : Values) (test : tests.Test) → AreHeld HasValue fold_rules ks values → ValuesFit values → test_holds values (resolved_test ks test) ≡ test_holds values test
resolved_holds ks values (Rel op a b) agrees fits =
    ap (λ v. relation_holds op v (operand_value values (resolved ks b))) (resolved_value ks values a agrees fits) ∙ ap (relation_holds op (operand_value values a)) (resolved_value ks values b agrees fits)
resolved_holds ks values (Holds a) agrees fits = ap (λ v. not (int_eq v (pos 0))) (resolved_value ks values a agrees fits)
resolved_holds ks values (Fails a) agrees fits = ap (λ v. int_eq v (pos 0)) (resolved_value ks values a agrees fits)

-- so a test that is decided holds as it says
pub test_decided : (ks : List Known) (values : Values) (test : tests.Test) (d : Bool) → AreHeld HasValue fold_rules ks values → ValuesFit values → decided_test ks test ≡ Some d → test_holds values test ≡ d
test_decided ks values test d agrees fits e = sym (resolved_holds ks values test agrees fits) ∙ decided_holds values (resolved_test ks test) d e

-- ---- the rules

-- what is less sure holds too
holds_up : (x y : Known) (z : ℤ) → BelowKnown x y → HasValue x z → HasValue y z
holds_up (Fixed a) (Fixed b) z p h = h ∙ p
holds_up (Fixed a) Varying z p h = tt
holds_up Varying (Fixed b) z p h = absurd p
holds_up Varying Varying z p h = tt

-- what is known of a right side holds of its value
rhs_holds : (ks : List Known) (values : Values) (rhs : Rhs) → AreHeld HasValue fold_rules ks values → ValuesFit values → HasValue (known_rhs ks rhs) (rhs_value values rhs)
rhs_holds ks values rhs held fits = cases (known_rhs ks rhs) refl
  where
    cases : (k : Known) → known_rhs ks rhs ≡ k → HasValue k (rhs_value values rhs)
    cases (Fixed c) e = known_value ks values rhs c held fits e
    cases Varying e = tt

-- a test may have the truth value that it has
test_may : (ks : List Known) (values : Values) (test : tests.Test) (b : Bool) → AreHeld HasValue fold_rules ks values → ValuesFit values → test_holds values test ≡ b → may_be b (decided_test ks test) ≡ true
test_may ks values test b held fits is = cases (decided_test ks test) b refl is
  where
    cases : (o : Option Bool) (b : Bool) → decided_test ks test ≡ o → test_holds values test ≡ b → may_be b o ≡ true
    cases None b e is = refl
    cases (Some d) true e is = sym (test_decided ks values test d held fits e) ∙ is
    cases (Some d) false e is = ap not (sym (test_decided ks values test d held fits e) ∙ is)

-- all together
pub sound_rules : SoundRules BelowKnown HasValue fold_rules
sound_rules = record {
  up = holds_up;
  top = λ z fits. tt;
  zero = refl;
  right_side = λ ks values rhs held fits safe. rhs_holds ks values rhs held fits;
  goes = λ test b ks values held fits is. test_may ks values test b held fits is;
  along = λ test b ks values held fits is. held;
}
