-- Which variables a node touches, and which it reads. Cited by contracts of private functions.
use Rattle.std.specs.Prelude.{◌≡◌, ℕ, Bool, true, false, ◌||◌, nat_eq, nat_lt, List, slice_get, slice_set, Option, Some, None}
use Rattle.mir_base.specs.declared.instructions.Operand.{Operand}
use Rattle.mir_base.specs.declared.instructions.Operand.TheVariants.{Var, Const}
use Rattle.mir_base.specs.declared.instructions.Rhs.{Rhs}
use Rattle.mir_base.specs.declared.instructions.Rhs.TheVariants.{Plain, Unary, Binary}
use Rattle.mir_base.specs.declared.instructions.Test as tests
use Rattle.mir_base.specs.declared.instructions.Test.TheVariants.{Rel, Holds, Fails}
use Rattle.flow_graph.specs.declared.nodes.Node.{Node}
use Rattle.flow_graph.specs.declared.nodes.Node.TheVariants.{Start, Skip, Assign, Print, Guard, Call, Test, Return}
use Rattle.cond_flow.specs.NewsShapes.{is_among}
use Rattle.cond_flow.specs.Rules.{Rules, AgreeOnRhs, AgreeOnTest, is_operand, has_test, known_at}

-- ---- what is touched

-- the right side has this variable
abbrev pub has_rhs : Rhs → ℕ → Bool
has_rhs (Plain a) k = is_operand a k
has_rhs (Unary op a) k = is_operand a k
has_rhs (Binary op a b) k = is_operand a k || is_operand b k

-- a call gives its result to it
abbrev pub is_into : Option ℕ → ℕ → Bool
is_into None k = false
is_into (Some x) k = nat_eq k x

-- what passes from the node may depend on what is known of this variable, or something else may be known of it then
abbrev pub touches : ℕ → Node → ℕ → Bool
touches shared (Start next) k = true
touches shared (Skip next) k = false
touches shared (Assign x rhs next) k = nat_eq k x || has_rhs rhs k
touches shared (Print a next) k = false
touches shared (Guard test number next) k = false
touches shared (Call into unit operands next) k = nat_lt k shared || is_into into k
touches shared (Test test taken other) k = has_test test k
touches shared (Return a) k = false

-- none of these nodes touches it
pub record IsApart (shared : ℕ) (nodes : List Node) (list : List ℕ) (k : ℕ) : Type 0 where
  pub each : (i n : ℕ) (node : Node) → slice_get list i ≡ Some n → slice_get nodes n ≡ Some node
      → touches shared node k ≡ false

-- nor any of these variables
pub record AreApart (shared : ℕ) (nodes : List Node) (list variables : List ℕ) : Type 0 where
  pub each : (k : ℕ) → is_among variables k ≡ true → IsApart shared nodes list k

-- ---- what passes whatever is known

-- the node passes its state along its first edge whatever is known
abbrev pub goes_on : Node → Bool
goes_on (Start next) = true
goes_on (Skip next) = true
goes_on (Assign x rhs next) = true
goes_on (Print a next) = true
goes_on (Guard test number next) = true
goes_on (Call into unit operands next) = true
goes_on (Test test taken other) = false
goes_on (Return a) = false

-- each of these nodes does
pub record AllGoOn (nodes : List Node) (list : List ℕ) : Type 0 where
  pub each : (i n : ℕ) (node : Node) → slice_get list i ≡ Some n → slice_get nodes n ≡ Some node
      → goes_on node ≡ true

-- ---- what is read

-- the same is known of the variables that the node reads
abbrev pub AgreeOnNode : {K : Type 0} → Rules K → (xs ys : List K) → Node → Type 0
AgreeOnNode rules xs ys (Start next) = Unit {0}
AgreeOnNode rules xs ys (Skip next) = Unit {0}
AgreeOnNode rules xs ys (Assign x rhs next) = AgreeOnRhs rules xs ys rhs
AgreeOnNode rules xs ys (Print a next) = Unit {0}
AgreeOnNode rules xs ys (Guard test number next) = Unit {0}
AgreeOnNode rules xs ys (Call into unit operands next) = Unit {0}
AgreeOnNode rules xs ys (Test test one other) = AgreeOnTest rules xs ys test
AgreeOnNode rules xs ys (Return a) = Unit {0}

-- and of those that these nodes read
pub record ReadsAlike {K : Type 0} (rules : Rules K) (nodes : List Node) (list : List ℕ)
    (xs ys : List K) : Type 0 where
  pub each : (i n : ℕ) (node : Node) → slice_get list i ≡ Some n → slice_get nodes n ≡ Some node
      → AgreeOnNode rules xs ys node

-- ---- what is taken over

-- the second list with what is known in the first of an operand
abbrev pub taken : {K : Type 0} → Rules K → Operand → (known into : List K) → List K
taken rules (Var x) known into = slice_set into x (known_at rules known x)
taken rules (Const c) known into = into

-- of a right side
abbrev pub taken_rhs : {K : Type 0} → Rules K → Rhs → (known into : List K) → List K
taken_rhs rules (Plain a) known into = taken rules a known into
taken_rhs rules (Unary op a) known into = taken rules a known into
taken_rhs rules (Binary op a b) known into = taken rules b known (taken rules a known into)

-- of a test
abbrev pub taken_test : {K : Type 0} → Rules K → tests.Test → (known into : List K) → List K
taken_test rules (Rel op a b) known into = taken rules b known (taken rules a known into)
taken_test rules (Holds a) known into = taken rules a known into
taken_test rules (Fails a) known into = taken rules a known into

-- of a node
abbrev pub taken_node : {K : Type 0} → Rules K → Node → (known into : List K) → List K
taken_node rules (Start next) known into = into
taken_node rules (Skip next) known into = into
taken_node rules (Assign x rhs next) known into = taken_rhs rules rhs known into
taken_node rules (Print a next) known into = into
taken_node rules (Guard test number next) known into = into
taken_node rules (Call into unit operands next) known room = room
taken_node rules (Test test one other) known into = taken_test rules test known into
taken_node rules (Return a) known into = into
