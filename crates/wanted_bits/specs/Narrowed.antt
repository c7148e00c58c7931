-- The graph in which no bits are computed that are not wanted. Cited by contracts.
use Rattle.std.specs.Prelude.{◌≡◌, ◌<◌, ◌↔◌, length, ℕ, suc, ◌-◌, ◌^◌, pos, Bool, false, not, ◌&&◌, ◌||◌, nat_eq, if◌then◌else◌, List, [], ◌∷◌, slice_get, Option, Some, None, option_map}
use Rattle.mir_base.specs.declared.operators.Op.{Op}
use Rattle.mir_base.specs.declared.operators.Op.TheVariants.{Add, Sub, And, Or, Xor}
use Rattle.mir_base.specs.declared.instructions.Operand.{Operand}
use Rattle.mir_base.specs.declared.instructions.Operand.TheVariants.{Var, Const}
use Rattle.mir_base.specs.declared.instructions.Rhs.{Rhs}
use Rattle.mir_base.specs.declared.instructions.Rhs.TheVariants.{Plain, Unary, Binary}
use Rattle.mir_base.specs.Expressions.{divides}
use Rattle.mir_base.specs.Numbers.{wrapped}
use Rattle.flow_graph.specs.declared.nodes.Node.{Node}
use Rattle.flow_graph.specs.declared.nodes.Node.TheVariants.{Start, Skip, Assign, Print, Guard, Call, Test, Return}
use Rattle.flow_graph.specs.Edges.{IsSplit}
use Rattle.flow_graph.specs.Graphs.{GraphShape}
use Rattle.wanted_bits.specs.Shifts.{IsShiftedAt}
use Rattle.wanted_bits.specs.Agreement.{low_bits}
use Rattle.wanted_bits.specs.declared.picking.Shift.{Shift}
use Rattle.wanted_bits.specs.Wanted.{AreLeastWantedBy, AreShifts, AreWantedBy, Asked, all_asked, is_undone, shifted_back}

-- the operand is a constant whose k lowest bits are all 0
abbrev pub has_zeros : ℕ → Operand → Bool
has_zeros k (Var y) = false
has_zeros k (Const c) = nat_eq (low_bits k (wrapped c)) 0

-- all 1
abbrev pub has_ones : ℕ → Operand → Bool
has_ones k (Var y) = false
has_ones k (Const c) = nat_eq (low_bits k (wrapped c)) (2 ^ k - 1)

-- with this right operand the operator leaves the k lowest bits of the left one
abbrev pub is_neutral : Op → ℕ → Operand → Bool
is_neutral Add k b = has_zeros k b
is_neutral Sub k b = has_zeros k b
is_neutral Or k b = has_zeros k b
is_neutral Xor k b = has_zeros k b
is_neutral And k b = has_ones k b
is_neutral _ k b = false

-- with this left operand it leaves those of the right one
abbrev pub is_neutral_left : Op → ℕ → Operand → Bool
is_neutral_left Add k a = has_zeros k a
is_neutral_left Or k a = has_zeros k a
is_neutral_left Xor k a = has_zeros k a
is_neutral_left And k a = has_ones k a
is_neutral_left _ k a = false

-- what a right side becomes of which k bits are wanted, where nothing is shifted back
abbrev pub without_neutral : Rhs → ℕ → Rhs
without_neutral (Plain a) k = Plain a
without_neutral (Unary op a) k = Unary op a
without_neutral (Binary op a b) k =
    if is_neutral op k b then Plain a
    else (if is_neutral_left op k a then Plain b else Binary op a b)

-- and where it shifts this back
abbrev pub narrowed_past : Option Shift → Rhs → ℕ → Rhs
narrowed_past None rhs k = without_neutral rhs k
narrowed_past (Some shift) rhs k = if is_undone shift k then Plain (Var shift.source) else rhs

-- what a right side becomes
abbrev pub narrowed_rhs : (ℕ → Option Shift) → Rhs → ℕ → Rhs
narrowed_rhs shifts rhs k = narrowed_past (shifted_back shifts rhs) rhs k

-- the right side is this variable
abbrev pub is_itself : ℕ → Rhs → Bool
is_itself x (Plain (Var y)) = nat_eq y x
is_itself x (Plain (Const c)) = false
is_itself x (Unary op a) = false
is_itself x (Binary op a b) = false

-- an assignment goes of which no bit is wanted, and which does not divide; and one of the variable itself, as it becomes
abbrev pub goes : ℕ → Rhs → Rhs → ℕ → Bool
goes x rhs narrowed k = (nat_eq k 0 && not (divides rhs)) || is_itself x narrowed

-- what an assignment becomes
abbrev pub narrowed_assign : (ℕ → Option Shift) → ℕ → Rhs → ℕ → ℕ → Node
narrowed_assign shifts x rhs next k =
    if goes x rhs (narrowed_rhs shifts rhs k) k then Skip next
    else Assign x (narrowed_rhs shifts rhs k) next

-- an operand that is handed over, of which so many bits are asked for: 0 where none is
abbrev pub handed : ℕ → Operand → Operand
handed k a = if nat_eq k 0 then Const (pos 0) else a

-- the arguments from number i on, of which so many bits each are asked for
abbrev pub all_handed : (ℕ → ℕ) → ℕ → List Operand → List Operand
all_handed widths i [] = []
all_handed widths i (a ∷ operands) = handed (widths i) a ∷ all_handed widths (suc i) operands

-- what a node becomes
abbrev pub narrowed_node : Asked → (ℕ → Option Shift) → (ℕ → ℕ → ℕ) → Node → Node
narrowed_node asked shifts wanted (Start next) = Start next
narrowed_node asked shifts wanted (Skip next) = Skip next
narrowed_node asked shifts wanted (Assign x rhs next) =
    narrowed_assign shifts x rhs next (wanted next x)
narrowed_node asked shifts wanted (Print a next) = Print a next
narrowed_node asked shifts wanted (Guard test number next) = Guard test number next
narrowed_node asked shifts wanted (Call into unit operands next) =
    Call into unit (all_handed (asked.arguments unit) 0 operands) next
narrowed_node asked shifts wanted (Test test taken other) = Test test taken other
narrowed_node asked shifts wanted (Return a) = Return (handed asked.result a)

-- these are what the nodes become by shifts that hold and bits that are wanted, where so many are asked for around
pub record AreNarrowed (asked : Asked) (graph : GraphShape) (nodes : List Node) : Type 0 where
  pub shifts : ℕ → ℕ → Option Shift
  pub wanted : ℕ → ℕ → ℕ
  pub shifts_hold : AreShifts graph shifts
  pub are_wanted : AreWantedBy asked graph shifts wanted
  pub nodes_are : (n : ℕ) → slice_get nodes n
      ≡ option_map (narrowed_node asked (shifts n) wanted) (slice_get graph.nodes n)

-- the graph with what its nodes become by the shifts that hold at each node and the least wanted bits, where so many
-- are asked for around the unit
pub record IsNarrowedBy (asked : Asked) (graph narrowed : GraphShape) : Type 0 where
  pub name_is : narrowed.name ≡ graph.name
  pub shared_is : narrowed.shared ≡ graph.shared
  pub vars_are : narrowed.vars ≡ graph.vars
  pub received_are : narrowed.received ≡ graph.received
  pub shifts : ℕ → ℕ → Option Shift
  pub wanted : ℕ → ℕ → ℕ
  pub shifts_are : (n t : ℕ) (shift : Shift) → n < length graph.nodes
      → (shifts n t ≡ Some shift) ↔ IsShiftedAt graph t shift n
  pub least : AreLeastWantedBy asked graph shifts wanted
  pub nodes_are : (n : ℕ) → slice_get narrowed.nodes n
      ≡ option_map (narrowed_node asked (shifts n) wanted) (slice_get graph.nodes n)

-- where all bits are asked for
abbrev pub IsNarrowed : GraphShape → GraphShape → Type 0
IsNarrowed = IsNarrowedBy all_asked

-- a split graph stays split
abbrev pub NarrowedStaysSplit : GraphShape → GraphShape → Type 0
NarrowedStaysSplit graph narrowed = IsSplit graph.nodes → IsSplit narrowed.nodes

-- no other graph is the narrowed one
abbrev pub IsOnlyNarrowedBy : Asked → GraphShape → GraphShape → Type 0
IsOnlyNarrowedBy asked graph narrowed =
    (other : GraphShape) → IsNarrowedBy asked graph other → other ≡ narrowed

-- where all bits are asked for
abbrev pub IsOnlyNarrowed : GraphShape → GraphShape → Type 0
IsOnlyNarrowed = IsOnlyNarrowedBy all_asked
