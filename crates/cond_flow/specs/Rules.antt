-- The rules by which what is known of variables is found out and used, and their laws. Cited by contracts.
use Rattle.std.specs.Prelude.{◌≡◌, ◌≤◌, ◌<◌, ◌⊎◌, ℕ, ℤ, pos, Bool, true, false, ◌||◌, nat_eq, List, [], length, slice_index_or, FitsSigned}
use mir.Syntax.{w64}
use Rattle.fix_solve.specs.Order.{IsLeastUpper}
use Rattle.fix_solve.specs.Pointwise.{Pointwise}
use Rattle.mir_base.specs.declared.instructions.Operand.{Operand}
use Rattle.mir_base.specs.declared.instructions.Operand.TheVariants.{Var, Const}
use Rattle.mir_base.specs.declared.instructions.Rhs.{Rhs}
use Rattle.mir_base.specs.declared.instructions.Rhs.TheVariants.{Plain, Unary, Binary}
use Rattle.mir_base.specs.declared.instructions.Test as tests
use Rattle.mir_base.specs.declared.instructions.Test.TheVariants.{Rel, Holds, Fails}
use Rattle.mir_base.specs.declared.operators.Op.{Op}
use Rattle.mir_base.specs.Expressions.{may_be_zero, rhs_count, rhs_traps, rhs_value}
use Rattle.mir_base.specs.Frames.{Values}
use Rattle.mir_base.specs.FrameLaws.{ValuesFit}
use Rattle.mir_base.specs.Numbers.{is_dividing}
use Rattle.mir_base.specs.Shapes.{AllBelow, operand_vars, rhs_vars}
use Rattle.mir_base.specs.Units.{operand_value, test_holds}

-- what is known outside of a unit: of each global and then of each argument where the unit is entered; and of each global
-- and then of the result that each unit hands back. Of what a list does not have nothing is known
pub record OutsideShape (K : Type 0) : Type 0 where
  pub entry : List K
  pub backs : List (List K)

-- nothing
abbrev pub open_outside : {K : Type 0} → OutsideShape K
open_outside = record { entry = []; backs = [] }

-- how surely one is known and what may be known at most; what is known of any number, of 0, where two paths meet, of a
-- right side, and along the edge of a test where it has a truth value, if it may have it; what operands and right
-- sides become; and what is known outside
pub record Rules (K : Type 0) : Type 0 where
  pub rank : K → ℕ
  pub height : ℕ
  pub top : K
  pub zero : K
  pub joined : K → K → K
  pub of_rhs : List K → Rhs → K
  pub goes : tests.Test → Bool → List K → Bool
  pub along : tests.Test → Bool → List K → List K
  pub operand : List K → Operand → Operand
  pub rhs : List K → Rhs → Rhs
  -- the operand may be 0
  pub may_vanish : List K → Operand → Bool
  pub outside : OutsideShape K

-- the same rules, where this is known outside
abbrev pub within : {K : Type 0} → OutsideShape K → Rules K → Rules K
within outside rules = record rules { outside = outside }

-- what is known of a variable
abbrev pub known_at : {K : Type 0} → Rules K → List K → ℕ → K
known_at rules known x = slice_index_or known x rules.top

-- what is known holds of the values
pub record AreHeld {K : Type 0} (holds : K → ℤ → Type 0) (rules : Rules K) (known : List K)
    (values : Values) : Type 0 where
  pub each : (x : ℕ) → holds (known_at rules known x) (values x)

-- the second right side does what the first does, and evaluates no more operators
pub record BecomesRhs (values : Values) (rhs rhs' : Rhs) : Type 0 where
  pub traps : rhs_traps values rhs' ≡ rhs_traps values rhs
  pub value : rhs_value values rhs' ≡ rhs_value values rhs
  pub count : rhs_count rhs' ≤ rhs_count rhs

-- what is known has an order and joins, its rank rises with the order and is at most the height
pub record OrderRules {K : Type 0} (below : K → K → Type 0) (rules : Rules K) : Type 0 where
  pub reflexive : (x : K) → below x x
  pub transitive : (x y z : K) → below x y → below y z → below x z
  pub antisymmetric : (x y : K) → below x y → below y x → x ≡ y
  pub rises : (x y : K) → below x y → (x ≡ y) ⊎ (rules.rank x < rules.rank y)
  pub ranks : (x : K) → rules.rank x ≤ rules.height
  pub joins : (x y : K) → IsLeastUpper below x y (rules.joined x y)

-- the surer what is known before, the surer what is known after
pub record RisingRules {K : Type 0} (below : K → K → Type 0) (rules : Rules K) : Type 0 where
  pub right_side : (rhs : Rhs) (xs ys : List K) → Pointwise below xs ys
      → below (rules.of_rhs xs rhs) (rules.of_rhs ys rhs)
  pub goes : (test : tests.Test) (b : Bool) (xs ys : List K) → Pointwise below xs ys
      → rules.goes test b xs ≡ true
      → rules.goes test b ys ≡ true
  pub along : (test : tests.Test) (b : Bool) (xs ys : List K) → Pointwise below xs ys
      → Pointwise below (rules.along test b xs) (rules.along test b ys)
  pub long : (test : tests.Test) (b : Bool) (xs : List K)
      → length (rules.along test b xs) ≡ length xs

-- what is known holds of the values that a run has
pub record SoundRules {K : Type 0} (below : K → K → Type 0) (holds : K → ℤ → Type 0)
    (rules : Rules K) : Type 0 where
  pub up : (x y : K) (z : ℤ) → below x y → holds x z → holds y z
  pub top : (z : ℤ) → FitsSigned w64 z → holds rules.top z
  pub zero : holds rules.zero (pos 0)
  pub right_side : (known : List K) (values : Values) (rhs : Rhs) → AreHeld holds rules known values
      → ValuesFit values
      → rhs_traps values rhs ≡ false → holds (rules.of_rhs known rhs) (rhs_value values rhs)
  pub goes : (test : tests.Test) (b : Bool) (known : List K) (values : Values)
      → AreHeld holds rules known values
      → ValuesFit values → test_holds values test ≡ b → rules.goes test b known ≡ true
  pub along : (test : tests.Test) (b : Bool) (known : List K) (values : Values)
      → AreHeld holds rules known values
      → ValuesFit values → test_holds values test ≡ b
      → AreHeld holds rules (rules.along test b known) values

-- what operands and right sides become does what they do, costs no more, names no other variables, and leaves divisions
-- that may trap
pub record RewritingRules {K : Type 0} (holds : K → ℤ → Type 0) (rules : Rules K) : Type 0 where
  pub operand_same : (known : List K) (values : Values) (a : Operand)
      → AreHeld holds rules known values
      → ValuesFit values → operand_value values (rules.operand known a) ≡ operand_value values a
  pub right_side_same : (known : List K) (values : Values) (rhs : Rhs)
      → AreHeld holds rules known values
      → ValuesFit values → BecomesRhs values rhs (rules.rhs known rhs)
  pub operand_below : (n : ℕ) (known : List K) (a : Operand) → AllBelow n (operand_vars a)
      → AllBelow n (operand_vars (rules.operand known a))
  pub right_side_below : (n : ℕ) (known : List K) (rhs : Rhs) → AllBelow n (rhs_vars rhs)
      → AllBelow n (rhs_vars (rules.rhs known rhs))
  pub divides : (known : List K) (op : Op) (a b : Operand) → is_dividing op ≡ true
      → rules.may_vanish known b ≡ true
      → rules.rhs known (Binary op a b) ≡ Binary op (rules.operand known a) (rules.operand known b)
  pub vanishes : (known : List K) (a : Operand) → rules.may_vanish known a ≡ true
      → may_be_zero (rules.operand known a) ≡ true

-- ---- what is read

-- the operand is this variable
abbrev pub is_operand : Operand → ℕ → Bool
is_operand (Var x) k = nat_eq k x
is_operand (Const c) k = false

-- the test has this variable
abbrev pub has_test : tests.Test → ℕ → Bool
has_test (Rel op a b) k = is_operand a k || is_operand b k
has_test (Holds a) k = is_operand a k
has_test (Fails a) k = is_operand a k

-- the same is known of the operand
abbrev pub AgreeOn : {K : Type 0} → Rules K → (xs ys : List K) → Operand → Type 0
AgreeOn rules xs ys (Var x) = known_at rules xs x ≡ known_at rules ys x
AgreeOn rules xs ys (Const c) = Unit {0}

-- of the operands of a right side
abbrev pub AgreeOnRhs : {K : Type 0} → Rules K → (xs ys : List K) → Rhs → Type 0
AgreeOnRhs rules xs ys (Plain a) = AgreeOn rules xs ys a
AgreeOnRhs rules xs ys (Unary op a) = AgreeOn rules xs ys a
AgreeOnRhs rules xs ys (Binary op a b) = AgreeOn rules xs ys a × AgreeOn rules xs ys b

-- and of those of a test
abbrev pub AgreeOnTest : {K : Type 0} → Rules K → (xs ys : List K) → tests.Test → Type 0
AgreeOnTest rules xs ys (Rel op a b) = AgreeOn rules xs ys a × AgreeOn rules xs ys b
AgreeOnTest rules xs ys (Holds a) = AgreeOn rules xs ys a
AgreeOnTest rules xs ys (Fails a) = AgreeOn rules xs ys a

-- what is known of a right side, and whether a test may have a truth value, depends on the variables that it has alone;
-- of these alone something else is known along the edges of a test, and it depends on them alone
pub record FrameRules {K : Type 0} (rules : Rules K) : Type 0 where
  pub right_side : (rhs : Rhs) (xs ys : List K) → AgreeOnRhs rules xs ys rhs
      → rules.of_rhs xs rhs ≡ rules.of_rhs ys rhs
  pub goes : (test : tests.Test) (b : Bool) (xs ys : List K) → AgreeOnTest rules xs ys test
      → rules.goes test b xs ≡ rules.goes test b ys
  pub along : (test : tests.Test) (b : Bool) (xs ys : List K) (k : ℕ) → length xs ≡ length ys
      → AgreeOnTest rules xs ys test → known_at rules xs k ≡ known_at rules ys k
      → known_at rules (rules.along test b xs) k ≡ known_at rules (rules.along test b ys) k
  pub apart : (test : tests.Test) (b : Bool) (xs : List K) (k : ℕ) → has_test test k ≡ false
      → known_at rules (rules.along test b xs) k ≡ known_at rules xs k

-- all the laws of the rules
pub record LawfulRules {K : Type 0} (below : K → K → Type 0) (holds : K → ℤ → Type 0)
    (rules : Rules K) : Type 0 where
  pub order : OrderRules below rules
  pub rising : RisingRules below rules
  pub sound : SoundRules below holds rules
  pub rewriting : RewritingRules holds rules
  pub frame : FrameRules rules
