-- What is read in the place of a copy has its value, so what reads the one does the same as what reads the other.
-- For proofs only.
use Rattle.std.proofs.Common.{◌≡◌, ℕ, Bool, true, false, not, if◌then◌else◌, nat_eq, eqb-true, ℤ, pos, List, [], ◌∷◌, map, Option, Some, None, refl, sym, ap, ◌∙◌, true≢false}
use Rattle.std.proofs.Math.Path.{fun_ext}
use Rattle.std.specs.Ordering.{int_eq}
use Rattle.mir_base.specs.declared.instructions.Operand.{Operand}
use Rattle.mir_base.specs.declared.instructions.Operand.TheVariants.{Var, Const}
use Rattle.mir_base.specs.declared.instructions.Rhs.{Rhs}
use Rattle.mir_base.specs.declared.instructions.Rhs.TheVariants.{Plain, Unary, Binary}
use Rattle.mir_base.specs.declared.instructions.Test as tests
use Rattle.mir_base.specs.declared.instructions.Test.TheVariants.{Rel, Holds, Fails}
use Rattle.mir_base.specs.declared.operators.Trap.TheVariants.{ZeroDivisor, Raised}
use Rattle.mir_base.specs.Frames.{Continues, Calls, Frame, Prints, Returns, Traps, Values, shared_values, with_value}
use Rattle.mir_base.specs.Numbers.{relation_holds, traps, value_of_op, value_of_un_op}
use Rattle.mir_base.specs.Units.{assign_transition, assigned, at, operand_value, test_holds}
use Rattle.flow_graph.specs.declared.nodes.Node.{Node}
use Rattle.flow_graph.specs.declared.nodes.Node.TheVariants.{Start, Skip, Assign, Print, Guard, Call, Test, Return}
use Rattle.flow_graph.specs.Graphs.{GraphShape}
use Rattle.flow_graph.specs.ListLaws.{cons_same}
use Rattle.flow_graph.specs.Machines.{node_transition}
use Rattle.flow_graph.specs.Numbering.{renamed_operand, renamed_rhs, renamed_test}
use Rattle.held_assign.specs.CheapRuns.{same_as_cheap}
use Rattle.held_assign.specs.HeldPasses.{DoesAsTheOld}
use Rattle.held_assign.specs.HeldValues.{AgreesThere}
use Rattle.held_assign.specs.Holding.{IsHeldRhs}
use Rattle.copy_flow.specs.Copied.{copied_node, reread_node}
use Rattle.copy_flow.specs.Copies.{is_copy, is_var, read_for}

-- a variable that is assigned its own value changes nothing
own_value : (x : ℕ) (values : Values) → with_value x (values x) values ≡ values
own_value x values = fun_ext (λ y. by y (nat_eq y x) refl)
  where
    by : (y : ℕ) (b : Bool) → nat_eq y x ≡ b → (if b then values x else values y) ≡ values y
    by y true is = ap values (sym (eqb-true y x is))
    by y false is = refl

-- so a Skip does what the assignment of a variable to itself does
skip_same : (x : ℕ) (rhs : Rhs) (next : ℕ) (f : Frame) → is_var x rhs ≡ true → Continues 0 (at next f) ≡ assign_transition x rhs next f
skip_same x (Plain (Var y)) next f is =
    ap (λ (values : Values). Continues 0 (record { place = next; arguments = f.arguments; values = values })) (sym (ap (λ (z : ℕ). with_value x (f.values z) f.values) (sym (eqb-true x y is)) ∙ own_value x f.values))
skip_same x (Plain (Const c)) next f is = absurd (true≢false (sym is))
skip_same x (Unary op a) next f is = absurd (true≢false (sym is))
skip_same x (Binary op a b) next f is = absurd (true≢false (sym is))

-- ---- what reads other variables of the same values

module _ (read : ℕ → ℕ) (f : Frame) (same : (v : ℕ) → f.values (read v) ≡ f.values v) where
  -- operands, right sides and tests
  operand_same : (a : Operand) → operand_value f.values (renamed_operand read a) ≡ operand_value f.values a
  operand_same (Var x) = same x
  operand_same (Const c) = refl

  operands_same : (operands : List Operand) → map (operand_value f.values) (map (renamed_operand read) operands) ≡ map (operand_value f.values) operands
  operands_same [] = refl
  operands_same (a ∷ operands) = cons_same (operand_same a) (operands_same operands)

  test_same : (test : tests.Test) → test_holds f.values (renamed_test read test) ≡ test_holds f.values test
  test_same (Rel op a b) = ap (λ v. relation_holds op v (operand_value f.values (renamed_operand read b))) (operand_same a) ∙ ap (relation_holds op (operand_value f.values a)) (operand_same b)
  test_same (Holds a) = ap (λ v. not (int_eq v (pos 0))) (operand_same a)
  test_same (Fails a) = ap (λ v. int_eq v (pos 0)) (operand_same a)

  -- an assignment
  assign_same : (x : ℕ) (rhs : Rhs) (next : ℕ) → assign_transition x (renamed_rhs read rhs) next f ≡ assign_transition x rhs next f
  assign_same x (Plain a) next = ap (λ (z : ℤ). Continues 0 (assigned x z next f)) (operand_same a)
  assign_same x (Unary op a) next = ap (λ (z : ℤ). Continues 1 (assigned x (value_of_un_op op z) next f)) (operand_same a)
  assign_same x (Binary op a b) next =
      ap (λ (z : ℤ). if traps op z then Traps ZeroDivisor 1 else Continues 1 (assigned x (value_of_op op (operand_value f.values (renamed_operand read a)) z) next f)) (operand_same b)
      ∙ ap (λ (z : ℤ). if traps op (operand_value f.values b) then Traps ZeroDivisor 1 else Continues 1 (assigned x (value_of_op op z (operand_value f.values b)) next f)) (operand_same a)

  -- an assignment, or a Skip where it assigns a variable to itself
  chosen_same : (shared : ℕ) (received : List ℕ) (x : ℕ) (rhs : Rhs) (next : ℕ) (b : Bool) → is_var x (renamed_rhs read rhs) ≡ b → node_transition shared received (Some (if b then Skip next else Assign x (renamed_rhs read rhs) next)) f ≡ assign_transition x rhs next f
  chosen_same shared received x rhs next true is = skip_same x (renamed_rhs read rhs) next f is ∙ assign_same x rhs next
  chosen_same shared received x rhs next false is = assign_same x rhs next

  -- so the new node does what the old one does
  node_same : (shared : ℕ) (received : List ℕ) (node : Node) → node_transition shared received (Some (reread_node read node)) f ≡ node_transition shared received (Some node) f
  node_same shared received (Start next) = refl
  node_same shared received (Skip next) = refl
  node_same shared received (Assign x rhs next) = chosen_same shared received x rhs next (is_var x (renamed_rhs read rhs)) refl
  node_same shared received (Print a next) = ap (λ (z : ℤ). Prints z (at next f)) (operand_same a)
  node_same shared received (Guard test number next) = ap (λ b. if b then Traps (Raised number) 0 else Continues 0 (at next f)) (test_same test)
  node_same shared received (Call into unit operands next) =
      ap (λ (zs : List ℤ). Calls unit (record { arguments = zs; globals = shared_values shared f.values }) into (at next f)) (operands_same operands)
  node_same shared received (Test test taken other) = ap (λ (b : Bool). Continues 0 (at (if b then taken else other) f)) (test_same test)
  node_same shared received (Return a) = ap (λ (z : ℤ). Returns (record { value = z; globals = shared_values shared f.values })) (operand_same a)

-- ---- at a frame

-- where what holds agrees, what is read for a variable has its value
read_same : (graph : GraphShape) (f : Frame) → AgreesThere graph f → (v : ℕ) (rhs : Option Rhs) → IsHeldRhs is_copy graph f.place v rhs → f.values (read_for v rhs) ≡ f.values v
read_same graph f agrees v None none = refl
read_same graph f agrees v (Some (Plain (Var w))) is = sym (agrees v (Plain (Var w)) is.1)
read_same graph f agrees v (Some (Plain (Const c))) is = refl
read_same graph f agrees v (Some (Unary op a)) is = refl
read_same graph f agrees v (Some (Binary op a b)) is = refl

-- so the new node does there what the old one does
pub copied_does : DoesAsTheOld is_copy copied_node
copied_does graph f held is_held agrees fits node =
    same_as_cheap (node_transition graph.shared graph.received (Some node) f) (node_transition graph.shared graph.received (Some (copied_node held node)) f)
    (node_same (λ v. read_for v (held v)) f (λ v. read_same graph f agrees v (held v) (is_held v)) graph.shared graph.received node)
