-- Values of the language that compare as equal are one value, and each compares as equal to itself. Cited by
-- impls of `Key`, and by tactics of `sink_code`, `unit_equal` and `value_number`.
use Rattle.std.proofs.Common.{rules, ◌≡◌, true, ◌&&◌, refl, ap}
use Rattle.std.proofs.lemmas.Bool.{and_parts, eqb-true}
use Rattle.mir_base.specs.declared.operators.Op.{Op}
use Rattle.mir_base.specs.declared.operators.UnOp.{UnOp}
use Rattle.mir_base.specs.declared.operators.RelOp.{RelOp}
use Rattle.mir_base.specs.declared.instructions.Operand.{Operand}
use Rattle.mir_base.specs.declared.instructions.Operand.TheVariants.{Var, Const}
use Rattle.mir_base.specs.declared.instructions.Rhs.{Rhs}
use Rattle.mir_base.specs.declared.instructions.Rhs.TheVariants.{Plain, Unary, Binary}
use Rattle.mir_base.specs.declared.instructions.Expr.{Expr}
use Rattle.mir_base.specs.declared.instructions.Expr.TheVariants.{Un, Bin}
use Rattle.mir_base.specs.declared.instructions.Test.{Test}
use Rattle.mir_base.specs.declared.instructions.Test.TheVariants.{Rel, Holds, Fails}
use Rattle.mir_base.specs.contracts.operators.OpPartialEq.TheImpl.{ghosts as op_ghosts}
use Rattle.mir_base.specs.contracts.operators.UnOpPartialEq.TheImpl.{ghosts as un_op_ghosts}
use Rattle.mir_base.specs.contracts.operators.RelOpPartialEq.TheImpl.{ghosts as rel_op_ghosts}
use Rattle.mir_base.specs.contracts.instructions.OperandPartialEq.TheImpl.{ghosts as operand_ghosts}
use Rattle.mir_base.specs.contracts.instructions.RhsPartialEq.TheImpl.{ghosts as rhs_ghosts}
use Rattle.mir_base.specs.contracts.instructions.ExprPartialEq.TheImpl.{ghosts as expr_ghosts}
use Rattle.mir_base.specs.contracts.instructions.TestPartialEq.TheImpl.{ghosts as test_ghosts}

-- ---- operators

-- operators that compare equal are one
pub same_ops : (a b : Op) → op_ghosts.eq a b ≡ true → a ≡ b
same_ops a b h = search rules

-- each operator equals itself
pub op_self : (a : Op) → op_ghosts.eq a a ≡ true
op_self a = search rules

-- unary operators that compare equal are one
pub same_un_ops : (a b : UnOp) → un_op_ghosts.eq a b ≡ true → a ≡ b
same_un_ops a b h = search rules

-- each of them equals itself
pub un_op_self : (a : UnOp) → un_op_ghosts.eq a a ≡ true
un_op_self a = search rules

-- relations that compare equal are one
pub same_rel_ops : (a b : RelOp) → rel_op_ghosts.eq a b ≡ true → a ≡ b
same_rel_ops a b h = search rules

-- each of them equals itself
pub rel_op_self : (a : RelOp) → rel_op_ghosts.eq a a ≡ true
rel_op_self a = search rules

-- ---- operands, and what has operands

-- operands that compare equal are one
pub same_operands : (a b : Operand) → operand_ghosts.eq a b ≡ true → a ≡ b
same_operands (Var x) (Var y) h = ap Var (eqb-true x y h)
same_operands (Var x) (Const y) h = search rules
same_operands (Const x) (Var y) h = search rules
same_operands (Const x) (Const y) h = search rules

-- each operand equals itself
pub operand_self : (a : Operand) → operand_ghosts.eq a a ≡ true
operand_self (Var x) = search rules
operand_self (Const x) = search rules

-- right sides that compare equal are one
pub same_right_sides : (a b : Rhs) → rhs_ghosts.eq a b ≡ true → a ≡ b
same_right_sides (Plain a) (Plain b) h = ap Plain (same_operands a b h)
same_right_sides (Plain a) (Unary op b) h = absurd (cc)
same_right_sides (Plain a) (Binary op b c) h = absurd (cc)
same_right_sides (Unary op a) (Plain b) h = absurd (cc)
same_right_sides (Unary op a) (Unary other b) h =
    let parts = and_parts (un_op_ghosts.eq op other) (operand_ghosts.eq a b) h in
    rw (same_un_ops op other parts.0, same_operands a b parts.1) refl
same_right_sides (Unary op a) (Binary other b c) h = absurd (cc)
same_right_sides (Binary op a b) (Plain c) h = absurd (cc)
same_right_sides (Binary op a b) (Unary other c) h = absurd (cc)
same_right_sides (Binary op a b) (Binary other c d) h =
    let parts = and_parts (op_ghosts.eq op other) (operand_ghosts.eq a c && operand_ghosts.eq b d) h in
    let operands = and_parts (operand_ghosts.eq a c) (operand_ghosts.eq b d) parts.1 in
    rw (same_ops op other parts.0, same_operands a c operands.0, same_operands b d operands.1) refl

-- each right side equals itself
pub right_side_self : (a : Rhs) → rhs_ghosts.eq a a ≡ true
right_side_self (Plain a) = operand_self a
right_side_self (Unary op a) = rw (un_op_self op, operand_self a) refl
right_side_self (Binary op a b) = rw (op_self op, operand_self a, operand_self b) refl

-- expressions that compare equal are one
pub same_exprs : (a b : Expr) → expr_ghosts.eq a b ≡ true → a ≡ b
same_exprs (Un op a) (Un other b) h =
    let parts = and_parts (un_op_ghosts.eq op other) (operand_ghosts.eq a b) h in
    rw (same_un_ops op other parts.0, same_operands a b parts.1) refl
same_exprs (Un op a) (Bin other b c) h = absurd (cc)
same_exprs (Bin op a b) (Un other c) h = absurd (cc)
same_exprs (Bin op a b) (Bin other c d) h =
    let parts = and_parts (op_ghosts.eq op other) (operand_ghosts.eq a c && operand_ghosts.eq b d) h in
    let operands = and_parts (operand_ghosts.eq a c) (operand_ghosts.eq b d) parts.1 in
    rw (same_ops op other parts.0, same_operands a c operands.0, same_operands b d operands.1) refl

-- tests that compare equal are one
pub same_tests : (a b : Test) → test_ghosts.eq a b ≡ true → a ≡ b
same_tests (Rel op a b) (Rel other c d) h =
    let parts = and_parts (rel_op_ghosts.eq op other) (operand_ghosts.eq a c && operand_ghosts.eq b d) h in
    let operands = and_parts (operand_ghosts.eq a c) (operand_ghosts.eq b d) parts.1 in
    rw (same_rel_ops op other parts.0, same_operands a c operands.0, same_operands b d operands.1) refl
same_tests (Rel op a b) (Holds c) h = absurd (cc)
same_tests (Rel op a b) (Fails c) h = absurd (cc)
same_tests (Holds a) (Rel op b c) h = absurd (cc)
same_tests (Holds a) (Holds b) h = ap Holds (same_operands a b h)
same_tests (Holds a) (Fails b) h = absurd (cc)
same_tests (Fails a) (Rel op b c) h = absurd (cc)
same_tests (Fails a) (Holds b) h = absurd (cc)
same_tests (Fails a) (Fails b) h = ap Fails (same_operands a b h)

-- each test equals itself
pub test_self : (a : Test) → test_ghosts.eq a a ≡ true
test_self (Rel op a b) = rw (rel_op_self op, operand_self a, operand_self b) refl
test_self (Holds a) = operand_self a
test_self (Fails a) = operand_self a
