-- Flags for the nodes: which are dead divisions, and which of them go. Cited by contracts of private functions.
use Rattle.std.specs.Prelude.{◌≡◌, ◌↔◌, ℕ, ◌<◌, Bool, true, false, not, ◌&&◌, List, length, slice_get, slice_index_or, Option, Some, None}
use Rattle.mir_base.specs.declared.instructions.Operand.{Operand}
use Rattle.mir_base.specs.declared.instructions.Rhs.{Rhs}
use Rattle.mir_base.specs.declared.instructions.Rhs.TheVariants.{Plain, Unary, Binary}
use Rattle.mir_base.specs.Numbers.{is_dividing}
use Rattle.flow_graph.specs.declared.nodes.Node.{Node}
use Rattle.flow_graph.specs.declared.nodes.Node.TheVariants.{Start, Skip, Assign, Print, Guard, Call, Test, Return}
use Rattle.flow_graph.specs.Graphs.{GraphShape}
use Rattle.path_laws.specs.Paths.{has_bit}
use Rattle.bit_rows.specs.Bits.{row_of}
use Rattle.cond_flow.specs.KnownBefore.{AreStatesOf}
use Rattle.bounds.specs.BoundRules.{bound_rules}
use Rattle.bounds.specs.Facts.{BelowFact}
use Rattle.zero_flow.specs.ZeroFacts.{BelowZeroFact}
use Rattle.zero_flow.specs.ZeroRules.{zero_rules}
use Rattle.unread_div.specs.declared.safe.Safety.{Safety}
use Rattle.unread_div.specs.Unread.{IsDeadDivision, IsUnreadAt}

-- ---- one node

-- the right side is a quotient or a remainder
abbrev pub is_quotient : Rhs → Bool
is_quotient (Plain a) = false
is_quotient (Unary op a) = false
is_quotient (Binary op a b) = is_dividing op

-- the node assigns one
abbrev pub divides_there : Node → Bool
divides_there (Start next) = false
divides_there (Skip next) = false
divides_there (Assign x rhs next) = is_quotient rhs
divides_there (Print a next) = false
divides_there (Guard test number next) = false
divides_there (Call into unit operands next) = false
divides_there (Test test taken other) = false
divides_there (Return a) = false

-- and its variable is not live before its successor, by rows of what is live
abbrev pub is_dead_division_by : List (List Bool) → Node → Bool
is_dead_division_by live (Start next) = false
is_dead_division_by live (Skip next) = false
is_dead_division_by live (Assign x rhs next) = is_quotient rhs && not (has_bit live x next)
is_dead_division_by live (Print a next) = false
is_dead_division_by live (Guard test number next) = false
is_dead_division_by live (Call into unit operands next) = false
is_dead_division_by live (Test test taken other) = false
is_dead_division_by live (Return a) = false

-- the second operand of a right side, where it is binary
abbrev pub divisor_of : Rhs → Option Operand
divisor_of (Plain a) = None
divisor_of (Unary op a) = None
divisor_of (Binary op a b) = Some b

-- and of what a node assigns
abbrev pub divisor_in : Node → Option Operand
divisor_in (Start next) = None
divisor_in (Skip next) = None
divisor_in (Assign x rhs next) = divisor_of rhs
divisor_in (Print a next) = None
divisor_in (Guard test number next) = None
divisor_in (Call into unit operands next) = None
divisor_in (Test test taken other) = None
divisor_in (Return a) = None

-- the rows have the bit that is asked for there
abbrev pub HaveLiveBit : List (List Bool) → Node → Type 0
HaveLiveBit live (Start next) = Unit {0}
HaveLiveBit live (Skip next) = Unit {0}
HaveLiveBit live (Assign x rhs next) = (next < length live) × (x < length (row_of live next))
HaveLiveBit live (Print a next) = Unit {0}
HaveLiveBit live (Guard test number next) = Unit {0}
HaveLiveBit live (Call into unit operands next) = Unit {0}
HaveLiveBit live (Test test taken other) = Unit {0}
HaveLiveBit live (Return a) = Unit {0}

-- ---- all nodes

-- the flags of the nodes below this number tell of which nodes something holds
pub record AreFlagsBelow (Holds : ℕ → Type 0) (below : ℕ) (flags : List Bool) : Type 0 where
  pub long : length flags ≡ below
  pub are : (n : ℕ) (flag : Bool) → slice_get flags n ≡ Some flag → (flag ≡ true) ↔ Holds n

-- the flags tell which nodes are dead divisions
abbrev pub TellDeadDivisions : GraphShape → List Bool → Type 0
TellDeadDivisions graph flags = AreFlagsBelow (IsDeadDivision graph) (length graph.nodes) flags

-- and which go
abbrev pub TellUnread : GraphShape → List Bool → Type 0
TellUnread graph flags = AreFlagsBelow (IsUnreadAt graph) (length graph.nodes) flags

-- no node is a division
abbrev pub NoDivision : List Node → Type 0
NoDivision nodes = (n : ℕ) (node : Node) → slice_get nodes n ≡ Some node
    → divides_there node ≡ false

-- no flag is set
abbrev pub NoFlag : List Bool → Type 0
NoFlag flags = (n : ℕ) → n < length flags → slice_index_or flags n false ≡ false

-- ---- states

-- the least states of the graph: which variables are 0, and their bounds
pub record AreSafety (graph : GraphShape) (safety : Safety) : Type 0 where
  pub zeros : AreStatesOf BelowZeroFact zero_rules graph safety.zeros
  pub bounds : AreStatesOf BelowFact bound_rules graph safety.bounds
