-- Graphs as contracts see them: their edges, which nodes are reached, what a node reads and assigns, and what is true
-- of each graph. Cited by contracts, those of the crates above too.
use Rattle.std.specs.Prelude.{◌≡◌, ℕ, ◌<◌, ◌≤◌, Bool, true, false, nat_eq, nat_lt, ◌||◌, List, [], ◌∷◌, ◌++◌, flat_map, length, slice_get, Option, Some, None, if◌then◌else◌}
use Rattle.mir_base.specs.declared.instructions.Rhs.{Rhs}
use Rattle.mir_base.specs.Frames.{shared_vars}
use Rattle.mir_base.specs.Shapes.{operand_vars, rhs_vars, test_vars, into_vars, AllBelow, AllDiffer}
use Rattle.flow_graph.specs.declared.nodes.Node.{Node}
use Rattle.flow_graph.specs.declared.nodes.Node.TheVariants.{Start, Skip, Assign, Print, Guard, Call, Test, Return}

-- the name of the unit, how many of its variables are globals, the names of its variables by number, the globals first,
-- the received variables in the order of the arguments, and the nodes by number
pub record GraphShape : Type 0 where
  pub name : List ℕ
  pub shared : ℕ
  pub vars : List (List ℕ)
  pub received : List ℕ
  pub nodes : List Node

-- ---- edges

-- the successors, in order: `taken` before `other`
abbrev pub node_succs : Node → List ℕ
node_succs (Start next) = next ∷ []
node_succs (Skip next) = next ∷ []
node_succs (Assign x rhs next) = next ∷ []
node_succs (Print a next) = next ∷ []
node_succs (Guard test number next) = next ∷ []
node_succs (Call into unit operands next) = next ∷ []
node_succs (Test test taken other) = taken ∷ other ∷ []
node_succs (Return a) = []

-- the slot of the successor that a test takes: 0 of `taken` where it holds, and else 1 of `other`
abbrev pub slot_of : Bool → ℕ
slot_of holds = if holds then 0 else 1

-- the node that follows where no test holds; none after a Return
abbrev pub following : Option Node → Option ℕ
following None = None
following (Some (Start next)) = Some next
following (Some (Skip next)) = Some next
following (Some (Assign x rhs next)) = Some next
following (Some (Print a next)) = Some next
following (Some (Guard test number next)) = Some next
following (Some (Call into unit operands next)) = Some next
following (Some (Test test taken other)) = Some other
following (Some (Return a)) = None

-- the successors of a node that may be absent
abbrev pub succs_of : Option Node → List ℕ
succs_of None = []
succs_of (Some node) = node_succs node

-- the successors of node n of these nodes; none where there is no such node
abbrev pub succs_at : List Node → ℕ → List ℕ
succs_at nodes n = succs_of (slice_get nodes n)

-- an edge leads from node m, at this slot of its successors, to node s
abbrev pub IsEdge : List Node → ℕ → ℕ → ℕ → Type 0
IsEdge nodes m slot s = slice_get (succs_at nodes m) slot ≡ Some s

-- each edge leads to a node
abbrev pub AllWithin : List Node → Type 0
AllWithin nodes = (m slot s : ℕ) → IsEdge nodes m slot s → s < length nodes

-- node 0 is reached, and so is each successor of a node that is reached
pub data Reached (nodes : List Node) : ℕ → Type 0 where
  at_start : Reached nodes 0
  along : (m slot s : ℕ) → Reached nodes m → IsEdge nodes m slot s → Reached nodes s

-- the number, where there is one, is below n
abbrev pub IsBelow : ℕ → Option ℕ → Type 0
IsBelow n None = Unit {0}
IsBelow n (Some s) = s < n

-- the successors of a node are below n
abbrev pub SuccsBelow : ℕ → Node → Type 0
SuccsBelow n (Start next) = next < n
SuccsBelow n (Skip next) = next < n
SuccsBelow n (Assign x rhs next) = next < n
SuccsBelow n (Print a next) = next < n
SuccsBelow n (Guard test number next) = next < n
SuccsBelow n (Call into unit operands next) = next < n
SuccsBelow n (Test test taken other) = (taken < n) × (other < n)
SuccsBelow n (Return a) = Unit {0}

-- ---- variables

-- the variables of a node, in the order of its instruction's text
abbrev pub node_vars : Node → List ℕ
node_vars (Start next) = []
node_vars (Skip next) = []
node_vars (Assign x rhs next) = x ∷ rhs_vars rhs
node_vars (Print a next) = operand_vars a
node_vars (Guard test number next) = test_vars test
node_vars (Call into unit operands next) = into_vars into ++ flat_map operand_vars operands
node_vars (Test test taken other) = test_vars test
node_vars (Return a) = operand_vars a

-- the variables that a node of the graph reads. A call hands the globals over, and a return hands them back
abbrev pub node_reads : GraphShape → Node → List ℕ
node_reads graph (Start next) = []
node_reads graph (Skip next) = []
node_reads graph (Assign x rhs next) = rhs_vars rhs
node_reads graph (Print a next) = operand_vars a
node_reads graph (Guard test number next) = test_vars test
node_reads graph (Call into unit operands next) =
    shared_vars graph.shared ++ flat_map operand_vars operands
node_reads graph (Test test taken other) = test_vars test
node_reads graph (Return a) = shared_vars graph.shared ++ operand_vars a

-- whether a node of the graph assigns the variable x. Start, which gives every variable its first value, assigns none;
-- a call assigns each global
abbrev pub assigns : GraphShape → ℕ → Node → Bool
assigns graph x (Start next) = false
assigns graph x (Skip next) = false
assigns graph x (Assign y rhs next) = nat_eq x y
assigns graph x (Print a next) = false
assigns graph x (Guard test number next) = false
assigns graph x (Call None unit operands next) = nat_lt x graph.shared
assigns graph x (Call (Some y) unit operands next) = nat_lt x graph.shared || nat_eq x y
assigns graph x (Test test taken other) = false
assigns graph x (Return a) = false

-- the node is Start
abbrev pub is_start : Node → Bool
is_start (Start next) = true
is_start _ = false

-- the right side of a node that has one
abbrev pub node_rhs : Node → Option Rhs
node_rhs (Start next) = None
node_rhs (Skip next) = None
node_rhs (Assign x rhs next) = Some rhs
node_rhs (Print a next) = None
node_rhs (Guard test number next) = None
node_rhs (Call into unit operands next) = None
node_rhs (Test test taken other) = None
node_rhs (Return a) = None

-- the right side of the node, where there is a node and it is an assignment
abbrev pub rhs_at : Option Node → Option Rhs
rhs_at None = None
rhs_at (Some node) = node_rhs node

-- ---- what is true of each graph

-- the variables of each node are below this number
abbrev pub HaveVarsBelow : ℕ → List Node → Type 0
HaveVarsBelow vars nodes = (n : ℕ) (node : Node) → slice_get nodes n ≡ Some node
    → AllBelow vars (node_vars node)

-- a graph can be made of these: node 0 is the only Start, no edge leads to it, successors and variables are in range,
-- and the received variables and the names are distinct
pub record CanMake (vars : List (List ℕ)) (received : List ℕ) (nodes : List Node) : Type 0 where
  pub start : (s : ℕ) × (slice_get nodes 0 ≡ Some (Start s))
  pub only : (n s : ℕ) → slice_get nodes n ≡ Some (Start s) → n ≡ 0
  pub succs : (m slot s : ℕ) → IsEdge nodes m slot s → (1 ≤ s) × (s < length nodes)
  pub below : HaveVarsBelow (length vars) nodes
  pub received_below : AllBelow (length vars) received
  pub received_differ : AllDiffer received
  pub names : AllDiffer vars

-- every node is reached
abbrev pub AllReached : List Node → Type 0
AllReached nodes = (n : ℕ) → n < length nodes → Reached nodes n

-- a graph can be made of these, and every node is reached
pub record IsGraph (vars : List (List ℕ)) (received : List ℕ) (nodes : List Node) : Type 0 where
  pub can : CanMake vars received nodes
  pub reached : AllReached nodes

-- the globals are variables of the graph, and none of them is received
pub record SharesVars (shared : ℕ) (vars : List (List ℕ)) (received : List ℕ) : Type 0 where
  pub count : shared ≤ length vars
  pub own : (i x : ℕ) → slice_get received i ≡ Some x → shared ≤ x
