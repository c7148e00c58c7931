-- The facts of all variables: those of right sides, and what passes along the edges of a test. Cited by contracts.
use Rattle.std.specs.Prelude.{ℕ, Bool, true, false, List, slice_set, slice_index_or, pos}
use Rattle.mir_base.specs.declared.instructions.Operand.{Operand}
use Rattle.mir_base.specs.declared.instructions.Operand.TheVariants.{Var, Const}
use Rattle.mir_base.specs.declared.instructions.Rhs.{Rhs}
use Rattle.mir_base.specs.declared.instructions.Rhs.TheVariants.{Plain, Unary, Binary}
use Rattle.mir_base.specs.declared.instructions.Test as tests
use Rattle.mir_base.specs.declared.instructions.Test.TheVariants.{Rel, Holds, Fails}
use Rattle.mir_base.specs.declared.operators.RelOp.{RelOp}
use Rattle.mir_base.specs.declared.operators.RelOp.TheVariants.{Eq, Ne}
use Rattle.mir_base.specs.Frames.{Values}
use Rattle.fix_solve.specs.Pointwise.{Pointwise}
use Rattle.bounds.specs.declared.ends.End.TheVariants.{Least, Greatest}
use Rattle.bounds.specs.declared.facts.Fact.{Fact}
use Rattle.bounds.specs.declared.facts.Fact.TheVariants.{Fixed, Between}
use Rattle.bounds.specs.Facts.{BelowFact, Bounds}
use Rattle.bounds.specs.Bounding.{bounds_of, bounds_of_un, span_of}
use Rattle.bounds.specs.Narrowing.{denied, may_relate, narrowed, turned}

-- the fact that holds of all numbers
abbrev pub anything : Fact
anything = Between Least Greatest

-- the fact of a variable
abbrev pub fact_at : List Fact → ℕ → Fact
fact_at facts x = slice_index_or facts x anything

-- the fact of an operand
abbrev pub fact_of : List Fact → Operand → Fact
fact_of facts (Var x) = fact_at facts x
fact_of facts (Const c) = Fixed c

-- the fact of a right side
abbrev pub fact_of_rhs : List Fact → Rhs → Fact
fact_of_rhs facts (Plain a) = fact_of facts a
fact_of_rhs facts (Unary op a) = bounds_of_un op (fact_of facts a)
fact_of_rhs facts (Binary op a b) = bounds_of op (fact_of facts a) (fact_of facts b)

-- variable by variable
abbrev pub BelowFacts : List Fact → List Fact → Type 0
BelowFacts = Pointwise BelowFact

-- the facts hold of the values
pub record AreBounds (facts : List Fact) (values : Values) : Type 0 where
  pub each : (x : ℕ) → Bounds (fact_at facts x) (values x)

-- ---- tests

-- a test as a relation of two operands
pub record Comparison : Type 0 where
  pub op : RelOp
  pub left : Operand
  pub right : Operand

-- a number holds where it is not 0
abbrev pub comparison : tests.Test → Comparison
comparison (Rel op a b) = record { op = op; left = a; right = b }
comparison (Holds a) = record { op = Ne; left = a; right = Const (pos 0) }
comparison (Fails a) = record { op = Eq; left = a; right = Const (pos 0) }

-- the comparison that holds where this one has the truth value
abbrev pub where_is : Bool → Comparison → Comparison
where_is true c = c
where_is false c = record { op = denied c.op; left = c.left; right = c.right }

-- it may hold by the facts
abbrev pub may_be : List Fact → Comparison → Bool
may_be facts c = may_relate c.op (span_of (fact_of facts c.left)) (span_of (fact_of facts c.right))

-- the operand's fact, if it is a variable
abbrev pub with_fact : Operand → Fact → List Fact → List Fact
with_fact (Var x) fact facts = slice_set facts x fact
with_fact (Const c) fact facts = facts

-- the facts where the comparison holds: those of both operands are narrowed
abbrev pub facts_where : Comparison → List Fact → List Fact
facts_where c facts =
    with_fact c.left (narrowed c.op (fact_of facts c.left) (fact_of facts c.right))
    (with_fact c.right (narrowed (turned c.op) (fact_of facts c.right) (fact_of facts c.left))
    facts)

-- the test may have this truth value
abbrev pub may_go : tests.Test → Bool → List Fact → Bool
may_go test holds facts = may_be facts (where_is holds (comparison test))

-- the facts along the edge of a test where it has this truth value
abbrev pub facts_along : tests.Test → Bool → List Fact → List Fact
facts_along test holds facts = facts_where (where_is holds (comparison test)) facts
