-- What operands, right sides and tests become by what is known of the variables, and the rules of folding. Cited by
-- contracts.
use Rattle.std.specs.Prelude.{ℕ, Bool, true, false, not, if◌then◌else◌, nat_eq, ℤ, pos, List, slice_index_or, Option, Some, None}
use Rattle.std.specs.Ordering.{int_eq}
use Rattle.mir_base.specs.declared.operators.Op.{Op}
use Rattle.mir_base.specs.declared.instructions.Operand.{Operand}
use Rattle.mir_base.specs.declared.instructions.Operand.TheVariants.{Var, Const}
use Rattle.mir_base.specs.declared.instructions.Rhs.{Rhs}
use Rattle.mir_base.specs.declared.instructions.Rhs.TheVariants.{Plain, Unary, Binary}
use Rattle.mir_base.specs.declared.operators.RelOp.{RelOp}
use Rattle.mir_base.specs.declared.instructions.Test as tests
use Rattle.mir_base.specs.declared.instructions.Test.TheVariants.{Rel, Holds, Fails}
use Rattle.mir_base.specs.Expressions.{may_be_zero}
use Rattle.mir_base.specs.Numbers.{wrapped, traps, value_of_op, value_of_un_op, relation_holds}
use Rattle.cond_flow.specs.Rules.{Rules, open_outside}
use Rattle.cond_const.specs.declared.known.Known.{Known}
use Rattle.cond_const.specs.declared.known.Known.TheVariants.{Fixed, Varying}
use Rattle.cond_const.specs.declared.identities.Identity.{Identity}
use Rattle.cond_const.specs.declared.identities.Identity.TheVariants.{Absent, Itself, Always}
use Rattle.cond_const.specs.Identities.{identity_same, identity_left, identity_right}
use Rattle.cond_const.specs.States.{is_varying, joined_known}

-- what is known of a variable
abbrev pub known_at : List Known → ℕ → Known
known_at known x = slice_index_or known x Varying

-- ---- operands, right sides and tests

-- the variable, or the constant that it is known to have
abbrev pub resolved_as : Known → ℕ → Operand
resolved_as (Fixed c) x = Const c
resolved_as Varying x = Var x

-- the operand, or the constant that its variable is known to have
abbrev pub resolved : List Known → Operand → Operand
resolved known (Var x) = resolved_as (known_at known x) x
resolved known (Const c) = Const c

-- the right side with its operands resolved
abbrev pub resolved_rhs : List Known → Rhs → Rhs
resolved_rhs known (Plain a) = Plain (resolved known a)
resolved_rhs known (Unary op a) = Unary op (resolved known a)
resolved_rhs known (Binary op a b) = Binary op (resolved known a) (resolved known b)

-- the test with its operands resolved
abbrev pub resolved_test : List Known → tests.Test → tests.Test
resolved_test known (Rel op a b) = Rel op (resolved known a) (resolved known b)
resolved_test known (Holds a) = Holds (resolved known a)
resolved_test known (Fails a) = Fails (resolved known a)

-- what a right side becomes by an identity of its operator and its variable
abbrev pub by_identity : Identity → Operand → Rhs → Rhs
by_identity Absent variable rhs = rhs
by_identity Itself variable rhs = Plain variable
by_identity (Always c) variable rhs = Plain (Const c)

-- what an operator on two operands becomes whose variables are all varying
abbrev pub folded_binary : Op → Operand → Operand → Rhs
folded_binary op (Const a) (Const b) =
    if traps op (wrapped b) then Binary op (Const a) (Const b) else Plain
    (Const (value_of_op op (wrapped a) (wrapped b)))
folded_binary op (Var x) (Const b) =
    by_identity (identity_right op (wrapped b)) (Var x) (Binary op (Var x) (Const b))
folded_binary op (Const a) (Var y) =
    by_identity (identity_left op (wrapped a)) (Var y) (Binary op (Const a) (Var y))
folded_binary op (Var x) (Var y) =
    if nat_eq x y then by_identity (identity_same op) (Var x) (Binary op (Var x) (Var y))
    else Binary op (Var x) (Var y)

-- what a right side becomes whose variables are all varying
abbrev pub folded : Rhs → Rhs
folded (Plain a) = Plain a
folded (Unary op (Var x)) = Unary op (Var x)
folded (Unary op (Const a)) = Plain (Const (value_of_un_op op (wrapped a)))
folded (Binary op a b) = folded_binary op a b

-- what a right side becomes: an identity is applied once the variables with constant values are replaced
abbrev pub folded_rhs : List Known → Rhs → Rhs
folded_rhs known rhs = folded (resolved_rhs known rhs)

-- the constant that a right side is
abbrev pub known_of : Rhs → Known
known_of (Plain (Const c)) = Fixed (wrapped c)
known_of (Plain (Var x)) = Varying
known_of (Unary op a) = Varying
known_of (Binary op a b) = Varying

-- the constant that a right side becomes
abbrev pub known_rhs : List Known → Rhs → Known
known_rhs known rhs = known_of (folded_rhs known rhs)

-- whether the relation holds between a number and itself: as between 0 and 0
abbrev pub relates_itself : RelOp → Bool
relates_itself op = relation_holds op (pos 0) (pos 0)

-- whether a relation holds between operands whose variables are all varying, where that is decided
abbrev pub decided_relation : RelOp → Operand → Operand → Option Bool
decided_relation op (Const a) (Const b) = Some (relation_holds op (wrapped a) (wrapped b))
decided_relation op (Var x) (Const b) = None
decided_relation op (Const a) (Var y) = None
decided_relation op (Var x) (Var y) = if nat_eq x y then Some (relates_itself op) else None

-- the same of a test
abbrev pub decided : tests.Test → Option Bool
decided (Rel op a b) = decided_relation op a b
decided (Holds (Var x)) = None
decided (Holds (Const a)) = Some (not (int_eq (wrapped a) (pos 0)))
decided (Fails (Var x)) = None
decided (Fails (Const a)) = Some (int_eq (wrapped a) (pos 0))

-- whether a test holds, where that is decided
abbrev pub decided_test : List Known → tests.Test → Option Bool
decided_test known test = decided (resolved_test known test)

-- whether a test may have this truth value, by what is decided of it: either, where nothing is
abbrev pub may_be : Bool → Option Bool → Bool
may_be truth None = true
may_be true (Some holds) = holds
may_be false (Some holds) = not holds

-- the test may have this truth value
abbrev pub may_go : tests.Test → Bool → List Known → Bool
may_go test truth known = may_be truth (decided_test known test)

-- ---- the rules

-- the number by which what is known of a variable is kept, beside its kind; 0 where none is needed
abbrev pub number_of : Known → ℤ
number_of (Fixed c) = c
number_of Varying = pos 0

-- what is known of a variable is kept as a kind and a number: kind 0 is the constant of this number, and any other says
-- that the value varies
abbrev pub decoded_known : ℕ → ℤ → Known
decoded_known kind number = if nat_eq kind 0 then Fixed number else Varying

-- the kind of what is known where two paths meet, if one of the two kinds says that the value varies
abbrev pub varying_kind : ℕ → ℕ → Option ℕ
varying_kind kind other =
    if nat_eq kind 0 then (if nat_eq other 0 then None else Some 1) else Some kind

-- the rules of folding: along the edges of a test what is known stays as it is
abbrev pub fold_rules : Rules Known
fold_rules = record {
  rank = is_varying;
  height = 1;
  top = Varying;
  zero = Fixed (pos 0);
  joined = joined_known;
  of_rhs = known_rhs;
  goes = may_go;
  along = λ test truth known. known;
  operand = resolved;
  rhs = folded_rhs;
  may_vanish = λ known a. may_be_zero (resolved known a);
  outside = open_outside;
}
