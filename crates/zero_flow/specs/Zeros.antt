-- The facts of operands and right sides, and what passes along the edges of a test. Cited by contracts.
use Rattle.std.specs.Prelude.{ℕ, Bool, List, slice_set, slice_index_or, if◌then◌else◌, ℤ, pos}
use Rattle.mir_base.specs.declared.instructions.Operand.{Operand}
use Rattle.mir_base.specs.declared.instructions.Operand.TheVariants.{Var, Const}
use Rattle.mir_base.specs.declared.instructions.Rhs.{Rhs}
use Rattle.mir_base.specs.declared.instructions.Rhs.TheVariants.{Plain, Unary, Binary}
use Rattle.mir_base.specs.declared.instructions.Test as tests
use Rattle.mir_base.specs.declared.instructions.Test.TheVariants.{Rel, Holds, Fails}
use Rattle.mir_base.specs.declared.operators.RelOp.{RelOp}
use Rattle.mir_base.specs.declared.operators.RelOp.TheVariants.{Eq, Ne}
use Rattle.mir_base.specs.Numbers.{wrapped}
use Rattle.zero_flow.specs.declared.facts.ZeroFact.{ZeroFact}
use Rattle.zero_flow.specs.declared.facts.ZeroFact.TheVariants.{Zero, NotZero, Any}
use Rattle.zero_flow.specs.ZeroFacts.{is_zero}
use Rattle.zero_flow.specs.Pairs.{left_fact, may_relate, right_fact, zeros_of, zeros_of_un}

-- the fact of a variable
abbrev pub zero_at : List ZeroFact → ℕ → ZeroFact
zero_at facts x = slice_index_or facts x Any

-- of a number
abbrev pub zero_of_number : ℤ → ZeroFact
zero_of_number c = if is_zero (wrapped c) then Zero else NotZero

-- of an operand
abbrev pub zero_of : List ZeroFact → Operand → ZeroFact
zero_of facts (Var x) = zero_at facts x
zero_of facts (Const c) = zero_of_number c

-- of a right side
abbrev pub zero_of_rhs : List ZeroFact → Rhs → ZeroFact
zero_of_rhs facts (Plain a) = zero_of facts a
zero_of_rhs facts (Unary op a) = zeros_of_un op (zero_of facts a)
zero_of_rhs facts (Binary op a b) = zeros_of op (zero_of facts a) (zero_of facts b)

-- ---- tests

-- a test as a relation of two operands
pub record Comparison : Type 0 where
  pub op : RelOp
  pub left : Operand
  pub right : Operand

-- a number holds where it is not 0
abbrev pub comparison : tests.Test → Comparison
comparison (Rel op a b) = record { op = op; left = a; right = b }
comparison (Holds a) = record { op = Ne; left = a; right = Const (pos 0) }
comparison (Fails a) = record { op = Eq; left = a; right = Const (pos 0) }

-- the operand's fact, if it is a variable
abbrev pub with_zero : Operand → ZeroFact → List ZeroFact → List ZeroFact
with_zero (Var x) fact facts = slice_set facts x fact
with_zero (Const c) fact facts = facts

-- it may have this truth value by the facts
abbrev pub compares_as : Comparison → Bool → List ZeroFact → Bool
compares_as c truth facts =
    may_relate c.op truth (zero_of facts c.left) (zero_of facts c.right)

-- the facts where it has: those of both operands are narrowed
abbrev pub zeros_where : Comparison → Bool → List ZeroFact → List ZeroFact
zeros_where c truth facts =
    with_zero c.left (left_fact c.op truth (zero_of facts c.left) (zero_of facts c.right))
    (with_zero c.right (right_fact c.op truth (zero_of facts c.left) (zero_of facts c.right))
    facts)

-- the test may have this truth value
abbrev pub zeros_go : tests.Test → Bool → List ZeroFact → Bool
zeros_go test truth facts = compares_as (comparison test) truth facts

-- the facts along the edge of a test where it has this truth value
abbrev pub zeros_along : tests.Test → Bool → List ZeroFact → List ZeroFact
zeros_along test truth facts = zeros_where (comparison test) truth facts
