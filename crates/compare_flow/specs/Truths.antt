-- What a test asks of a variable, and the test that asks for a comparison. Cited by contracts.
use Rattle.std.specs.Prelude.{Bool, true, false, pos, Option, Some, None, option_map, if◌then◌else◌}
use Rattle.std.specs.Option.{is_some}
use Rattle.std.specs.Ordering.{int_eq}
use Rattle.mir_base.specs.declared.operators.Op.{Op}
use Rattle.mir_base.specs.declared.operators.Op.TheVariants.{Eq, Ne, Lt, Le, Gt, Ge}
use Rattle.mir_base.specs.declared.operators.UnOp.TheVariants.{Neg, Not}
use Rattle.mir_base.specs.declared.operators.RelOp.{RelOp}
use Rattle.mir_base.specs.declared.operators.RelOp.TheVariants.{Eq as Equal, Ne as Differ, Lt as Below, Le as AtMost, Gt as Above, Ge as AtLeast}
use Rattle.mir_base.specs.declared.instructions.Operand.{Operand}
use Rattle.mir_base.specs.declared.instructions.Operand.TheVariants.{Var, Const}
use Rattle.mir_base.specs.declared.instructions.Rhs.{Rhs}
use Rattle.mir_base.specs.declared.instructions.Rhs.TheVariants.{Plain, Unary, Binary}
use Rattle.mir_base.specs.declared.instructions.Test.{Test}
use Rattle.mir_base.specs.declared.instructions.Test.TheVariants.{Rel, Holds, Fails}
use Rattle.compare_flow.specs.declared.truths.Asked.{Asked}

-- ---- what a test asks

-- an operand, where it is a variable: whether it is not 0 (true), or is 0 (false)
abbrev pub asked_of : Operand → Bool → Option Asked
asked_of (Var x) holds = Some (record { var = x; holds = holds })
asked_of (Const c) holds = None

-- the variable of the two, where the other one is the constant 0
abbrev pub asked_of_zero : Operand → Operand → Bool → Option Asked
asked_of_zero (Var x) (Var y) holds = None
asked_of_zero (Var x) (Const c) holds = if int_eq c (pos 0) then asked_of (Var x) holds else None
asked_of_zero (Const c) b holds = if int_eq c (pos 0) then asked_of b holds else None

-- of a relation
abbrev pub asked_by_relation : RelOp → Operand → Operand → Option Asked
asked_by_relation Equal a b = asked_of_zero a b false
asked_by_relation Differ a b = asked_of_zero a b true
asked_by_relation Below a b = None
asked_by_relation AtMost a b = None
asked_by_relation Above a b = None
asked_by_relation AtLeast a b = None

-- of which variable a test asks whether it is 0, where it asks that alone, and whether it holds where it is not
abbrev pub asked_in : Test → Option Asked
asked_in (Rel op a b) = asked_by_relation op a b
asked_in (Holds a) = asked_of a true
asked_in (Fails a) = asked_of a false

-- ---- comparisons

-- the relation that an operator asks for, where it gives 1 or 0
abbrev pub relation_of : Op → Option RelOp
relation_of Eq = Some Equal
relation_of Ne = Some Differ
relation_of Lt = Some Below
relation_of Le = Some AtMost
relation_of Gt = Some Above
relation_of Ge = Some AtLeast
relation_of _ = None

-- the relation that holds exactly where this one does not
abbrev pub denied : RelOp → RelOp
denied Equal = Differ
denied Differ = Equal
denied Below = AtLeast
denied AtMost = Above
denied Above = AtMost
denied AtLeast = Below

-- the test for a relation, or for the one that denies it
abbrev pub relation_test : RelOp → Operand → Operand → Bool → Test
relation_test relation a b true = Rel relation a b
relation_test relation a b false = Rel (denied relation) a b

-- the test that a number is 0, or that it is not
abbrev pub zero_test : Operand → Bool → Test
zero_test a true = Fails a
zero_test a false = Holds a

-- the test that holds where a comparison, a relation or `!`, gives 1, or where it gives 0; none of any other right side
abbrev pub truth_test : Rhs → Bool → Option Test
truth_test (Plain a) holds = None
truth_test (Unary Neg a) holds = None
truth_test (Unary Not a) holds = Some (zero_test a holds)
truth_test (Binary op a b) holds =
    option_map (λ relation. relation_test relation a b holds) (relation_of op)

-- the right side is a comparison
abbrev pub is_comparison : Rhs → Bool
is_comparison rhs = is_some (truth_test rhs true)
