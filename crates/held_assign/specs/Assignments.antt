-- Tables of the distinct picked assignments of a graph. Cited by contracts.
use Rattle.std.specs.Prelude.{◌≡◌, ℕ, ◌<◌, Bool, true, ◌&&◌, ◌∷◌, if◌then◌else◌, Contains, List, slice_get, Option, Some, None}
use Rattle.mir_base.specs.declared.instructions.Rhs.{Rhs}
use Rattle.mir_base.specs.Shapes.{AllBelow, rhs_vars}
use Rattle.flow_graph.specs.declared.nodes.Node.{Node}
use Rattle.flow_graph.specs.declared.nodes.Node.TheVariants.{Start, Skip, Assign, Print, Guard, Call, Test, Return}
use Rattle.key_rows.specs.KeyRows.{HasKey}
use Rattle.held_assign.specs.declared.table.Assignment.{Assignment}
use Rattle.held_assign.specs.Holding.{can_hold}

-- the assignment, where it is picked and can hold
abbrev pub picked_assignment : (ℕ → Rhs → Bool) → ℕ → Rhs → Option Assignment
picked_assignment picked x rhs =
    if picked x rhs && can_hold x rhs then Some (record { target = x; rhs = rhs }) else None

-- the picked assignment that a node is
abbrev pub picked_of : (ℕ → Rhs → Bool) → Node → Option Assignment
picked_of picked (Start next) = None
picked_of picked (Skip next) = None
picked_of picked (Assign x rhs next) = picked_assignment picked x rhs
picked_of picked (Print a next) = None
picked_of picked (Guard test number next) = None
picked_of picked (Call into unit operands next) = None
picked_of picked (Test test taken other) = None
picked_of picked (Return a) = None

-- the variables of an assignment
abbrev pub assignment_vars : Assignment → List ℕ
assignment_vars a = a.target ∷ rhs_vars a.rhs

-- the assignment is picked, can hold, and has variables below this number
pub record IsHoldable (picked : ℕ → Rhs → Bool) (vars : ℕ) (a : Assignment) : Type 0 where
  pub is_picked : picked a.target a.rhs ≡ true
  pub can : can_hold a.target a.rhs ≡ true
  pub below : AllBelow vars (assignment_vars a)

-- so it is of each of these
abbrev pub AreHoldable : (ℕ → Rhs → Bool) → ℕ → List Assignment → Type 0
AreHoldable picked vars table = (i : ℕ) (a : Assignment) → slice_get table i ≡ Some a
    → IsHoldable picked vars a

-- each picked assignment that a node is stands in the table
abbrev pub HasAssignments : (ℕ → Rhs → Bool) → List Node → List Assignment → Type 0
HasAssignments picked nodes table = (n : ℕ) (a : Assignment)
    → HasKey (picked_of picked) nodes a n → Contains table a

-- each assignment of the table is picked, and some node is it
abbrev pub HasOnlyAssignments : (ℕ → Rhs → Bool) → List Node → List Assignment → Type 0
HasOnlyAssignments picked nodes table = (a : Assignment) → Contains table a
    → (n : ℕ) × HasKey (picked_of picked) nodes a n

-- of any two assignments of the table, a node that is the earlier one stands before each node that is the later one
abbrev pub AreInOrder : (ℕ → Rhs → Bool) → List Node → List Assignment → Type 0
AreInOrder picked nodes table = (i j : ℕ) (a b : Assignment) → i < j → slice_get table i ≡ Some a
    → slice_get table j ≡ Some b
    → (m : ℕ) → HasKey (picked_of picked) nodes b m
    → (n : ℕ) × (n < m) × HasKey (picked_of picked) nodes a n
