-- What tests ask and what comparisons give: a test of a variable that holds a comparison holds exactly where the test for the
-- comparison does. So the compared nodes do what the nodes of the graph do. For proofs only.
use Rattle.std.proofs.Common.{◌≡◌, ℕ, Bool, true, false, not, if◌then◌else◌, ℤ, pos, Option, Some, None, option_map, refl, sym, ap, ◌∙◌, subst, arith, w64}
use Rattle.std.specs.Option.{unwrap_or}
use Rattle.std.specs.Ordering.{int_eq}
use Rattle.std.proofs.lemmas.Int.{ints, int_wrap_fits}
use Rattle.std.proofs.lemmas.Option.{same_Some}
use Rattle.mir_base.specs.declared.operators.Op.{Op}
use Rattle.mir_base.specs.declared.operators.Op.TheVariants.{Add, Sub, Mul, Div, Mod, Min, Max, Eq, Ne, Lt, Le, Gt, Ge, Shl, Shr, Shra, And, Or, Xor}
use Rattle.mir_base.specs.declared.operators.UnOp.TheVariants.{Neg, Not}
use Rattle.mir_base.specs.declared.operators.RelOp.{RelOp}
use Rattle.mir_base.specs.declared.operators.RelOp.TheVariants.{Eq as Equal, Ne as Differ, Lt as Below, Le as AtMost, Gt as Above, Ge as AtLeast}
use Rattle.mir_base.specs.declared.operators.Trap.TheVariants.{Raised}
use Rattle.mir_base.specs.declared.instructions.Operand.{Operand}
use Rattle.mir_base.specs.declared.instructions.Operand.TheVariants.{Var, Const}
use Rattle.mir_base.specs.declared.instructions.Rhs.{Rhs}
use Rattle.mir_base.specs.declared.instructions.Rhs.TheVariants.{Plain, Unary, Binary}
use Rattle.mir_base.specs.declared.instructions.Test.{Test as Condition}
use Rattle.mir_base.specs.declared.instructions.Test.TheVariants.{Rel, Holds, Fails}
use Rattle.mir_base.specs.Expressions.{rhs_value}
use Rattle.mir_base.specs.Frames.{Values, Frame, Continues, Traps}
use Rattle.mir_base.specs.NumberLaws.{zero_fits}
use Rattle.mir_base.specs.Numbers.{relation_holds, truth, value_of_op, wrapped}
use Rattle.mir_base.specs.Units.{at, operand_value, test_holds}
use Rattle.flow_graph.specs.declared.nodes.Node.{Node}
use Rattle.flow_graph.specs.declared.nodes.Node.TheVariants.{Start, Skip, Assign, Print, Guard, Call, Test, Return}
use Rattle.flow_graph.specs.Graphs.{GraphShape}
use Rattle.flow_graph.specs.Machines.{node_transition}
use Rattle.held_assign.specs.CheapRuns.{same_as_cheap}
use Rattle.held_assign.specs.HeldPasses.{DoesAsTheOld}
use Rattle.held_assign.specs.HeldValues.{AgreesThere}
use Rattle.compare_flow.specs.declared.truths.Asked.{Asked}
use Rattle.compare_flow.specs.Compared.{IsHeldComparison, compared_node, compared_test, truth_in, truth_of}
use Rattle.compare_flow.specs.Truths.{asked_in, asked_by_relation, asked_of, asked_of_zero, denied, is_comparison, relation_of, relation_test, truth_test, zero_test}

-- ---- numbers and tests

-- numbers that are found equal are
eq_is : (a b : ℤ) → int_eq a b ≡ true → a ≡ b
eq_is a b h = grind (arith, ints)

-- equality is the same both ways
eq_turned : (a b : ℤ) → int_eq a b ≡ int_eq b a
eq_turned a b = grind (arith, ints)

-- a test is its double negation
twice : (b : Bool) → b ≡ not (not b)
twice true = refl
twice false = refl

-- the relation that holds where this does not
denied_is : (op : RelOp) (a b : ℤ) → relation_holds (denied op) a b ≡ not (relation_holds op a b)
denied_is Equal a b = refl
denied_is Differ a b = twice (int_eq a b)
denied_is Below a b = grind (arith, ints)
denied_is AtMost a b = grind (arith, ints)
denied_is Above a b = grind (arith, ints)
denied_is AtLeast a b = grind (arith, ints)

-- ---- what a test asks

-- whether a number is not 0, or is 0
abbrev asks : Bool → ℤ → Bool
asks true z = not (int_eq z (pos 0))
asks false z = int_eq z (pos 0)

-- whether two numbers differ, or are equal
abbrev asks_both : Bool → ℤ → ℤ → Bool
asks_both true a b = not (int_eq a b)
asks_both false a b = int_eq a b

-- with 0 on the right
zero_right : (holds : Bool) (z : ℤ) → asks_both holds z (pos 0) ≡ asks holds z
zero_right true z = refl
zero_right false z = refl

-- with 0 on the left
zero_left : (holds : Bool) (z : ℤ) → asks_both holds (pos 0) z ≡ asks holds z
zero_left true z = ap not (eq_turned (pos 0) z)
zero_left false z = eq_turned (pos 0) z

-- a constant that is found to be 0 is read as 0
reads_zero : (c : ℤ) → int_eq c (pos 0) ≡ true → wrapped c ≡ pos 0
reads_zero c is = ap wrapped (eq_is c (pos 0) is) ∙ int_wrap_fits w64 (pos 0) zero_fits

module _ (values : Values) where
  -- what is asked of an operand
  operand_asked : (a : Operand) (holds : Bool) (q : Asked) → asked_of a holds ≡ Some q → asks holds (operand_value values a) ≡ asks q.holds (values q.var)
  operand_asked (Var x) holds q e =
      let same : record { var = x; holds = holds } ≡ q = same_Some (record { var = x; holds = holds }) q e in
      subst (λ (p : Asked). asks holds (values x) ≡ asks p.holds (values p.var)) same refl
  operand_asked (Const c) holds q e = cc

  -- of two, one of which is the constant 0
  zero_asked : (a b : Operand) (holds : Bool) (q : Asked) → asked_of_zero a b holds ≡ Some q → asks_both holds (operand_value values a) (operand_value values b) ≡ asks q.holds (values q.var)
  zero_asked (Var x) (Var y) holds q e = cc
  zero_asked (Var x) (Const c) holds q e = by (int_eq c (pos 0)) refl e
    where
      by : (b : Bool) → int_eq c (pos 0) ≡ b → (if b then asked_of (Var x) holds else None) ≡ Some q → asks_both holds (values x) (wrapped c) ≡ asks q.holds (values q.var)
      by true is f = ap (asks_both holds (values x)) (reads_zero c is) ∙ zero_right holds (values x) ∙ operand_asked (Var x) holds q f
      by false is f = cc
  zero_asked (Const c) b holds q e = by (int_eq c (pos 0)) refl e
    where
      by : (t : Bool) → int_eq c (pos 0) ≡ t → (if t then asked_of b holds else None) ≡ Some q → asks_both holds (wrapped c) (operand_value values b) ≡ asks q.holds (values q.var)
      by true is f = ap (λ z. asks_both holds z (operand_value values b)) (reads_zero c is) ∙ zero_left holds (operand_value values b) ∙ operand_asked b holds q f
      by false is f = cc

  -- of a relation
  relation_asked : (op : RelOp) (a b : Operand) (q : Asked) → asked_by_relation op a b ≡ Some q → relation_holds op (operand_value values a) (operand_value values b) ≡ asks q.holds (values q.var)
  relation_asked Equal a b q e = zero_asked a b false q e
  relation_asked Differ a b q e = zero_asked a b true q e
  relation_asked Below a b q e = cc
  relation_asked AtMost a b q e = cc
  relation_asked Above a b q e = cc
  relation_asked AtLeast a b q e = cc

  -- of any test
  test_asked : (test : Condition) (q : Asked) → asked_in test ≡ Some q → test_holds values test ≡ asks q.holds (values q.var)
  test_asked (Rel op a b) q e = relation_asked op a b q e
  test_asked (Holds a) q e = operand_asked a true q e
  test_asked (Fails a) q e = operand_asked a false q e

-- ---- comparisons

-- a truth value is 0 where the test does not hold
asks_truth : (holds b : Bool) → asks holds (truth b) ≡ (if holds then b else not b)
asks_truth true true = refl
asks_truth true false = refl
asks_truth false true = refl
asks_truth false false = refl

-- an operator that has a relation gives its truth value
relation_value : (op : Op) (r : RelOp) (a b : ℤ) → relation_of op ≡ Some r → value_of_op op a b ≡ truth (relation_holds r a b)
relation_value Add r a b e = cc
relation_value Sub r a b e = cc
relation_value Mul r a b e = cc
relation_value Div r a b e = cc
relation_value Mod r a b e = cc
relation_value Min r a b e = cc
relation_value Max r a b e = cc
relation_value Eq r a b e = ap (λ op. truth (relation_holds op a b)) (same_Some Equal r e)
relation_value Ne r a b e = ap (λ op. truth (relation_holds op a b)) (same_Some Differ r e)
relation_value Lt r a b e = ap (λ op. truth (relation_holds op a b)) (same_Some Below r e)
relation_value Le r a b e = ap (λ op. truth (relation_holds op a b)) (same_Some AtMost r e)
relation_value Gt r a b e = ap (λ op. truth (relation_holds op a b)) (same_Some Above r e)
relation_value Ge r a b e = ap (λ op. truth (relation_holds op a b)) (same_Some AtLeast r e)
relation_value Shl r a b e = cc
relation_value Shr r a b e = cc
relation_value Shra r a b e = cc
relation_value And r a b e = cc
relation_value Or r a b e = cc
relation_value Xor r a b e = cc

module _ (values : Values) where
  -- the test for a relation, or for the one that denies it
  relation_tested : (r : RelOp) (a b : Operand) (holds : Bool) → test_holds values (relation_test r a b holds) ≡ (if holds then relation_holds r (operand_value values a) (operand_value values b) else not (relation_holds r (operand_value values a) (operand_value values b)))
  relation_tested r a b true = refl
  relation_tested r a b false = denied_is r (operand_value values a) (operand_value values b)

  -- the test that a number is 0, or that it is not
  zero_tested : (a : Operand) (holds : Bool) → test_holds values (zero_test a holds) ≡ (if holds then int_eq (operand_value values a) (pos 0) else not (int_eq (operand_value values a) (pos 0)))
  zero_tested a true = refl
  zero_tested a false = refl

  -- the test for a comparison asks for its value
  truth_tested : (rhs : Rhs) (holds : Bool) (t : Condition) → truth_test rhs holds ≡ Some t → test_holds values t ≡ asks holds (rhs_value values rhs)
  truth_tested (Plain a) holds t e = cc
  truth_tested (Unary Neg a) holds t e = cc
  truth_tested (Unary Not a) holds t e =
      ap (test_holds values) (sym (same_Some (zero_test a holds) t e)) ∙ zero_tested a holds ∙ sym (asks_truth holds (int_eq (operand_value values a) (pos 0)))
  truth_tested (Binary op a b) holds t e = by (relation_of op) refl e
    where
      by : (o : Option RelOp) → relation_of op ≡ o → option_map (λ r. relation_test r a b holds) o ≡ Some t → test_holds values t ≡ asks holds (value_of_op op (operand_value values a) (operand_value values b))
      by None is f = cc
      by (Some r) is f =
          ap (test_holds values) (sym (same_Some (relation_test r a b holds) t f)) ∙ relation_tested r a b holds
          ∙ sym (ap (asks holds) (relation_value op r (operand_value values a) (operand_value values b) is) ∙ asks_truth holds (relation_holds r (operand_value values a) (operand_value values b)))

-- ---- at a frame

module _ (graph : GraphShape) (f : Frame) (held : ℕ → Option Rhs) (is_held : (v : ℕ) → IsHeldComparison graph f.place v (held v)) (agrees : AgreesThere graph f) where
  -- the test for the comparison of the variable that is asked for holds where the test does
  truth_asked : (test : Condition) (q : Asked) → asked_in test ≡ Some q → (o : Option Rhs) → held q.var ≡ o → (t : Condition) → truth_in o q.holds ≡ Some t → test_holds f.values t ≡ test_holds f.values test
  truth_asked test q e None is t g = cc
  truth_asked test q e (Some rhs) is t g =
      let holds = subst (IsHeldComparison graph f.place q.var) is (is_held q.var) in
      truth_tested f.values rhs q.holds t g ∙ ap (asks q.holds) (sym (agrees q.var rhs holds.1)) ∙ sym (test_asked f.values test q e)

  -- so the new test holds where the old one does
  test_same : (test : Condition) → test_holds f.values (compared_test held test) ≡ test_holds f.values test
  test_same test = by (asked_in test) refl
    where
      instead : (o : Option Condition) → ((t : Condition) → o ≡ Some t → test_holds f.values t ≡ test_holds f.values test) → test_holds f.values (unwrap_or o test) ≡ test_holds f.values test
      instead None is = refl
      instead (Some t) is = is t refl

      by : (o : Option Asked) → asked_in test ≡ o → test_holds f.values (unwrap_or (truth_of held o) test) ≡ test_holds f.values test
      by None e = refl
      by (Some q) e = instead (truth_in (held q.var) q.holds) (truth_asked test q e (held q.var) refl)

  -- and the new node does what the old one does
  node_same : (node : Node) → node_transition graph.shared graph.received (Some (compared_node held node)) f ≡ node_transition graph.shared graph.received (Some node) f
  node_same (Start next) = refl
  node_same (Skip next) = refl
  node_same (Assign x rhs next) = refl
  node_same (Print a next) = refl
  node_same (Guard test number next) = ap (λ b. if b then Traps (Raised number) 0 else Continues 0 (at next f)) (test_same test)
  node_same (Call into unit operands next) = refl
  node_same (Test test taken other) = ap (λ (b : Bool). Continues 0 (at (if b then taken else other) f)) (test_same test)
  node_same (Return a) = refl

-- so it is as cheap
pub compared_does : DoesAsTheOld (λ x t. is_comparison t) compared_node
compared_does graph f held is_held agrees fits node =
    same_as_cheap (node_transition graph.shared graph.received (Some node) f) (node_transition graph.shared graph.received (Some (compared_node held node)) f) (node_same graph f held is_held agrees node)
