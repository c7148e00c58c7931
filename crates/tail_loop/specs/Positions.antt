-- How the calls of a graph stand: which are in tail position, and why the others are not. Cited by contracts, those of
-- the crates above too.
use Rattle.std.specs.Prelude.{◌≡◌, ◌≢◌, ℕ, ◌<◌, ◌≤◌, if◌then◌else◌, nat_eq, nat_lt, List, length, slice_get, slice_index_or, Option, Some, None}
use Rattle.mir_base.specs.declared.instructions.Operand.{Operand}
use Rattle.mir_base.specs.declared.instructions.Operand.TheVariants.{Var}
use Rattle.flow_graph.specs.declared.nodes.Node.{Node}
use Rattle.flow_graph.specs.declared.nodes.Node.TheVariants.{Call, Return}
use Rattle.flow_graph.specs.Graphs.{GraphShape}
use Rattle.jump_clean.specs.Chains.{IsEnd}
use Rattle.tail_loop.specs.declared.positions.CallPosition.{CallPosition}
use Rattle.tail_loop.specs.declared.positions.Position.{Position}
use Rattle.tail_loop.specs.declared.positions.Position.TheVariants.{Loop, Tail, Dropped, Global, Then}
use Rattle.tail_loop.specs.Tails.{HasTailCall}

-- node n is a call of this unit, whose answer goes to no variable
pub record DropsAnswer (nodes : List Node) (n called : ℕ) : Type 0 where
  pub operands : List Operand
  pub next : ℕ
  pub is : slice_get nodes n ≡ Some (Call None called operands next)

-- node n is a call of this unit, whose answer goes to one of the first `shared` variables, the globals
pub record AnswersGlobal (shared : ℕ) (nodes : List Node) (n called : ℕ) : Type 0 where
  pub into : ℕ
  pub operands : List Operand
  pub next : ℕ
  pub is : slice_get nodes n ≡ Some (Call (Some into) called operands next)
  pub global : into < shared

-- node n is a call of this unit, whose answer goes to another variable, and Skips lead from it to the node `there`,
-- where their chain ends and which does not return this variable
pub record LeadsElsewhere (shared : ℕ) (nodes : List Node) (n called there : ℕ) : Type 0 where
  pub into : ℕ
  pub operands : List Operand
  pub next : ℕ
  pub is : slice_get nodes n ≡ Some (Call (Some into) called operands next)
  pub own : shared ≤ into
  pub end : IsEnd nodes next there
  pub other : slice_get nodes there ≢ Some (Return (Var into))

-- node n of the unit of this number is a call of the unit `called`, which stands like this
abbrev pub HasPosition : ℕ → List Node → ℕ → ℕ → ℕ → Position → Type 0
HasPosition shared nodes unit n called Loop = (called ≡ unit) × HasTailCall shared nodes called n
HasPosition shared nodes unit n called Tail = (called ≢ unit) × HasTailCall shared nodes called n
HasPosition shared nodes unit n called Dropped = DropsAnswer nodes n called
    × ¬ HasTailCall shared nodes called n
HasPosition shared nodes unit n called Global = AnswersGlobal shared nodes n called
    × ¬ HasTailCall shared nodes called n
HasPosition shared nodes unit n called (Then there) =
    LeadsElsewhere shared nodes n called there × ¬ HasTailCall shared nodes called n

-- node n is a call that stands like this, or none
abbrev pub IsCallPosition : ℕ → List Node → ℕ → ℕ → Option CallPosition → Type 0
IsCallPosition shared nodes unit n None =
    (into : Option ℕ) (called : ℕ) (operands : List Operand) (next : ℕ)
    → slice_get nodes n ≢ Some (Call into called operands next)
IsCallPosition shared nodes unit n (Some call) =
    HasPosition shared nodes unit n call.unit call.position

-- so it is of the first nodes
abbrev pub EachCallPosition : ℕ → List Node → ℕ → List (Option CallPosition) → Type 0
EachCallPosition shared nodes unit calls = (n : ℕ) (call : Option CallPosition)
    → slice_get calls n ≡ Some call
    → IsCallPosition shared nodes unit n call

-- and of all nodes of the graph of the unit of this number
pub record AreCallPositions (graph : GraphShape) (unit : ℕ)
    (calls : List (Option CallPosition)) : Type 0 where
  pub long : length calls ≡ length graph.nodes
  pub are : EachCallPosition graph.shared graph.nodes unit calls

-- ---- for the functions that tell it

-- the unit that a node calls
abbrev pub called_unit : Node → Option ℕ
called_unit (Call into called operands next) = Some called
called_unit _ = None

-- the same of a node that may be absent
abbrev pub called_at : Option Node → Option ℕ
called_at None = None
called_at (Some node) = called_unit node

-- how a call in tail position stands
abbrev pub tail_position : ℕ → ℕ → Position
tail_position unit called = if nat_eq called unit then Loop else Tail

-- how a call stands that is not, by the ends of chains
abbrev pub other_position : ℕ → List ℕ → Node → Position
other_position shared ends (Call (Some into) called operands next) =
    if nat_lt into shared then Global else Then (slice_index_or ends next 0)
other_position shared ends _ = Dropped
