-- The graph into which the leaf units that it calls have been joined. Cited by contracts.
use Rattle.std.specs.Prelude.{◌≡◌, ℕ, zero, suc, ◌+◌, ◌-◌, ◌<◌, if◌then◌else◌, nat_eq, nat_lt, List, [], ◌∷◌, ◌++◌, drop, flat_map, length, map, slice_get, ◌≤◌, pos, Option, Some, None}
use Rattle.mir_base.specs.declared.instructions.Operand.{Operand}
use Rattle.mir_base.specs.declared.instructions.Operand.TheVariants.{Const}
use Rattle.mir_base.specs.declared.instructions.Rhs.TheVariants.{Plain}
use Rattle.flow_graph.specs.declared.nodes.Node.{Node}
use Rattle.flow_graph.specs.declared.nodes.Node.TheVariants.{Start, Skip, Assign, Print, Guard, Call, Test, Return}
use Rattle.mir_base.specs.Limits.{most_insts}
use Rattle.mir_base.specs.Shapes.{UnitShape}
use Rattle.flow_graph.specs.Calls.{BodyCalls, NodesCall}
use Rattle.flow_graph.specs.Graphs.{AllWithin, CanMake, GraphShape, SharesVars}
use Rattle.graph_edit.specs.Insertions.{Insertion}
use Rattle.flow_graph.specs.Retained.{IsMade}
use Rattle.flow_graph.specs.Layouts.{IsLayout}
use Rattle.flow_graph.specs.Lowered.{IsLowered}
use Rattle.flow_graph.specs.Numbering.{IsIn, is_in, renamed_operand, renamed_rhs, renamed_test, seen_after}
use Rattle.flow_graph.specs.Plans.{start_succ}
use Rattle.fresh_names.specs.FreshNames.{AreTemporaryNames}
use Rattle.jump_clean.specs.Cleaned.{IsClean}
use Rattle.program_pass.specs.Chains.{stood}
use Rattle.program_pass.specs.PassPrograms.{PassRelation}

-- ---- leaves and their calls

-- the leaf, where there is an entry and it has one
abbrev pub or_none : Option (Option GraphShape) → Option GraphShape
or_none None = None
or_none (Some leaf) = leaf

-- the leaf of the unit of this number, where it is one
abbrev pub leaf_at : List (Option GraphShape) → ℕ → Option GraphShape
leaf_at leaves unit = or_none (slice_get leaves unit)

-- node n calls a leaf
pub record IsLeafCall (leaves : List (Option GraphShape)) (nodes : List Node) (n : ℕ) : Type 0 where
  pub into : Option ℕ
  pub unit : ℕ
  pub operands : List Operand
  pub next : ℕ
  pub leaf : GraphShape
  pub is : slice_get nodes n ≡ Some (Call into unit operands next)
  pub leaf_is : leaf_at leaves unit ≡ Some leaf

-- these are the nodes that call leaves, in order of number
pub record AreLeafCalls (leaves : List (Option GraphShape)) (nodes : List Node)
    (calls : List ℕ) : Type 0 where
  pub ordered : (i j m n : ℕ) → i < j → slice_get calls i ≡ Some m → slice_get calls j ≡ Some n
      → m < n
  pub are : (n : ℕ) → IsIn n calls → IsLeafCall leaves nodes n
  pub all : (n : ℕ) → IsLeafCall leaves nodes n → IsIn n calls

-- these are some of the nodes that call leaves, in order of number
pub record AreSomeLeafCalls (leaves : List (Option GraphShape)) (nodes : List Node)
    (calls : List ℕ) : Type 0 where
  pub ordered : (i j m n : ℕ) → i < j → slice_get calls i ≡ Some m → slice_get calls j ≡ Some n
      → m < n
  pub are : (n : ℕ) → IsIn n calls → IsLeafCall leaves nodes n

-- the unit that a node calls, where it is a leaf
abbrev pub if_leaf : ℕ → Option GraphShape → List ℕ
if_leaf unit None = []
if_leaf unit (Some leaf) = unit ∷ []

-- as a list
abbrev pub leaf_called : List (Option GraphShape) → Node → List ℕ
leaf_called leaves (Call into unit operands next) = if_leaf unit (leaf_at leaves unit)
leaf_called leaves _ = []

-- the leaves that the nodes call, in order of the first node that calls each
abbrev pub called_leaves : List (Option GraphShape) → List Node → List ℕ
called_leaves leaves nodes = seen_after [] (flat_map (leaf_called leaves) nodes)

-- ---- copies of their variables

-- how many variables a leaf has that are no globals
abbrev pub leaf_vars : Option GraphShape → ℕ
leaf_vars None = 0
leaf_vars (Some leaf) = length leaf.vars - leaf.shared

-- the first copy of a unit: of these leaves each has as many copies as variables that are no globals, the first from
-- this number on
abbrev pub first_copy : List (Option GraphShape) → List ℕ → ℕ → ℕ → ℕ
first_copy leaves [] first unit = first
first_copy leaves (u ∷ units) first unit =
    if nat_eq u unit then first
    else first_copy leaves units (first + leaf_vars (leaf_at leaves u)) unit

-- how many copies there are
abbrev pub copies : List (Option GraphShape) → List ℕ → ℕ
copies leaves [] = 0
copies leaves (u ∷ units) = leaf_vars (leaf_at leaves u) + copies leaves units

-- the copy of a variable, where the first `shared` variables are globals, which are their own copies, and the copy of
-- the first of the others has the number `base`
abbrev pub copy_number : ℕ → ℕ → ℕ → ℕ
copy_number shared base x = if nat_lt x shared then x else base + (x - shared)

-- the copy of a variable of a unit, in a graph with so many globals and variables
abbrev pub copy_in : ℕ → List (Option GraphShape) → List ℕ → ℕ → ℕ → ℕ → ℕ
copy_in shared leaves units vars unit x = copy_number shared (first_copy leaves units vars unit) x

-- ---- what a call becomes

-- the copies of the received variables get the arguments
abbrev pub entered : (ℕ → ℕ) → List ℕ → List Operand → List Insertion
entered copy [] operands = []
entered copy (x ∷ received) [] = []
entered copy (x ∷ received) (a ∷ operands) = record { var = copy x; rhs = Plain a }
    ∷ entered copy received operands

-- of so many variables from number x on, the copies of those that are not received are set to 0
abbrev pub zeroed : (ℕ → ℕ) → List ℕ → ℕ → ℕ → List Insertion
zeroed copy received x zero = []
zeroed copy received x (suc count) =
    if is_in x received then zeroed copy received (suc x) count
    else record { var = copy x; rhs = Plain (Const (pos 0)) } ∷ zeroed copy received (suc x) count

-- the assignments of a call of a leaf
abbrev pub entry_assignments : (ℕ → ℕ) → GraphShape → List Operand → List Insertion
entry_assignments copy leaf operands =
    entered copy leaf.received operands
    ++ zeroed copy leaf.received leaf.shared (length leaf.vars - leaf.shared)

-- a Return gives the value to the variable of the call, where there is one
abbrev pub returned_node : Option ℕ → Operand → ℕ → Node
returned_node None a next = Skip next
returned_node (Some x) a next = Assign x (Plain a) next

-- a node of a leaf, with copies for its variables, other numbers for its successors, and its Return led to where the
-- call leads. A leaf has no Start but its first node, and no call
abbrev pub leaf_node : (ℕ → ℕ) → (ℕ → ℕ) → Option ℕ → ℕ → Node → Node
leaf_node copy place into next (Start succ) = Skip (place succ)
leaf_node copy place into next (Skip succ) = Skip (place succ)
leaf_node copy place into next (Assign x rhs succ) =
    Assign (copy x) (renamed_rhs copy rhs) (place succ)
leaf_node copy place into next (Print a succ) = Print (renamed_operand copy a) (place succ)
leaf_node copy place into next (Guard test number succ) =
    Guard (renamed_test copy test) number (place succ)
leaf_node copy place into next (Call into' unit operands succ) = Skip (place succ)
leaf_node copy place into next (Test test taken other) =
    Test (renamed_test copy test) (place taken) (place other)
leaf_node copy place into next (Return a) = returned_node into (renamed_operand copy a) next

-- the number of the node that stands for node m of a leaf, whose nodes but Start have the numbers from `first` on
abbrev pub leaf_place : ℕ → ℕ → ℕ
leaf_place first m = first + (m - 1)

-- the first of these numbers, where so many nodes come before the assignments
abbrev pub first_place : ℕ → List Insertion → ℕ
first_place nodes puts = nodes + (length puts - 1)

-- The nodes with the leaf in the place of node n: its assignments, which lead on to the node that stands for the
-- successor of the leaf's Start, and then the nodes of the leaf without its Start
abbrev pub nodes_with_leaf : List Node → ℕ → (ℕ → ℕ) → GraphShape → Option ℕ → List Operand → ℕ
    → List Node
nodes_with_leaf nodes n copy leaf into operands next =
    stood nodes n (entry_assignments copy leaf operands)
    (leaf_place (first_place (length nodes) (entry_assignments copy leaf operands))
    (start_succ (slice_get leaf.nodes 0)))
    ++ map (leaf_node copy
    (leaf_place (first_place (length nodes) (entry_assignments copy leaf operands))) into next)
    (drop 1 leaf.nodes)

-- the nodes with the leaf of a call of the graph in its place
abbrev pub joined_by : (leaves : List (Option GraphShape)) (units : List ℕ) (graph : GraphShape)
    → List Node → (n : ℕ)
    → IsLeafCall leaves graph.nodes n → List Node
joined_by leaves units graph nodes n c =
    nodes_with_leaf nodes n
    (copy_in graph.shared leaves units (length graph.vars) c.unit) c.leaf c.into c.operands c.next

-- one after the other, each of these calls of the graph gives way to the leaf that it calls
abbrev pub LeavesAreJoined : List (Option GraphShape) → List ℕ → GraphShape → List ℕ → List Node
    → List Node → Type 0
LeavesAreJoined leaves units graph [] nodes joined = joined ≡ nodes
LeavesAreJoined leaves units graph (n ∷ calls) nodes joined =
    (c : IsLeafCall leaves graph.nodes n)
    × LeavesAreJoined leaves units graph calls (joined_by leaves units graph nodes n c) joined

-- the graph with the leaves that it calls joined into it, of whose nodes those that are reached are kept
pub record IsJoined (graph : GraphShape) (leaves : List (Option GraphShape))
    (joined : GraphShape) : Type 0 where
  pub calls : List ℕ
  pub are_calls : AreLeafCalls leaves graph.nodes calls
  pub names : List (List ℕ)
  pub are_names : AreTemporaryNames graph.vars
      (copies leaves (called_leaves leaves graph.nodes)) names
  pub nodes : List Node
  pub are_joined : LeavesAreJoined leaves (called_leaves leaves graph.nodes) graph
      calls graph.nodes nodes
  pub made : IsMade graph.name graph.shared (graph.vars ++ names) graph.received nodes joined

-- ---- units that would be too long

-- the unit of a graph: cleaned and laid out
pub record IsLaidOut (graph : GraphShape) (unit : UnitShape) : Type 0 where
  pub within : AllWithin graph.nodes
  pub swept : GraphShape
  pub is_swept : IsClean graph swept
  pub is_laid : IsLayout swept unit

-- the joined graph; where its unit has more instructions than a unit of a text may have, the graph
abbrev pub short_or_left : UnitShape → GraphShape → GraphShape → GraphShape
short_or_left unit joined graph = if nat_lt most_insts (length unit.body) then graph else joined

-- the graph with all leaves that it calls joined into it, or with none, where its unit would else be too long to be read
-- again
pub record IsJoinedIfShort (graph : GraphShape) (leaves : List (Option GraphShape))
    (result : GraphShape) : Type 0 where
  pub joined : GraphShape
  pub joins : IsJoined graph leaves joined
  pub unit : UnitShape
  pub laid : IsLaidOut joined unit
  pub is : result ≡ short_or_left unit joined graph

-- ---- what is kept

-- the second graph is the first with leaves in the places of some of its calls, of whose nodes some may not be reached
pub record JoinsLeaves (leaves : List (Option GraphShape)) (graph : GraphShape)
    (joined : GraphShape) : Type 0 where
  pub calls : List ℕ
  pub are_calls : AreSomeLeafCalls leaves graph.nodes calls
  pub units : List ℕ
  pub are_joined : LeavesAreJoined leaves units graph calls graph.nodes joined.nodes
  pub shared : joined.shared ≡ graph.shared
  pub received : joined.received ≡ graph.received

-- the leaves of a program of graphs: each entry is the graph of its unit, which makes no call
pub record AreLeaves (graphs : List GraphShape) (leaves : List (Option GraphShape)) : Type 0 where
  pub is : (u : ℕ) (leaf : GraphShape) → leaf_at leaves u ≡ Some leaf
      → slice_get graphs u ≡ Some leaf
  pub no_calls : (u : ℕ) (leaf : GraphShape) → leaf_at leaves u ≡ Some leaf
      → (n : ℕ) (into : Option ℕ) (unit : ℕ) (operands : List Operand) (next : ℕ)
      → slice_get leaf.nodes n ≡ Some (Call into unit operands next) → ⊥

-- ---- what is asked of a graph and its leaves

-- each call of a leaf hands over as many arguments as the leaf receives
abbrev pub LeafCallsFit : List (Option GraphShape) → List Node → Type 0
LeafCallsFit leaves nodes = (n : ℕ) (c : IsLeafCall leaves nodes n)
    → length c.operands ≡ length c.leaf.received

-- no leaf makes a call
abbrev pub NoLeafCalls : List (Option GraphShape) → Type 0
NoLeafCalls leaves = (u : ℕ) (leaf : GraphShape) (called count : ℕ) → leaf_at leaves u ≡ Some leaf
    → NodesCall leaf.nodes called count → ⊥

-- the graph and each leaf have equally many globals
abbrev pub LeavesShare : List (Option GraphShape) → ℕ → Type 0
LeavesShare leaves shared = (u : ℕ) (leaf : GraphShape) → leaf_at leaves u ≡ Some leaf
    → leaf.shared ≡ shared

-- a graph can be made of each leaf, whose globals are variables of it and are not received
abbrev pub LeavesCan : List (Option GraphShape) → Type 0
LeavesCan leaves = (u : ℕ) (leaf : GraphShape) → leaf_at leaves u ≡ Some leaf
    → CanMake leaf.vars leaf.received leaf.nodes × SharesVars leaf.shared leaf.vars leaf.received

-- ---- the leaves of a program

-- a unit is a leaf where it has at most 32 instructions, receives included, and no call
pub record IsLeafUnit (unit : UnitShape) : Type 0 where
  pub short : length unit.body ≤ 32
  pub no_calls : (called count : ℕ) → BodyCalls unit.body called count → ⊥

-- the entry of a unit: the cleaned lowering of a leaf, and none of any other
abbrev pub IsLeafOf : UnitShape → Option GraphShape → Type 0
IsLeafOf unit None = IsLeafUnit unit → ⊥
IsLeafOf unit (Some leaf) = IsLeafUnit unit × (lowered : GraphShape) × IsLowered unit lowered
    × IsClean lowered leaf

-- the leaves of a program
pub record AreLeavesOf (units : List UnitShape) (leaves : List (Option GraphShape)) : Type 0 where
  pub long : length leaves ≡ length units
  pub are : (u : ℕ) (unit : UnitShape) (entry : Option GraphShape) → slice_get units u ≡ Some unit
      → slice_get leaves u ≡ Some entry → IsLeafOf unit entry

-- the exact result, as the relation of a pass
abbrev pub LeavesJoined : List (Option GraphShape) → PassRelation
LeavesJoined leaves unit graph result = IsJoinedIfShort graph leaves result

-- the nodes with leaves lie between
abbrev pub JoinedBetween : List (Option GraphShape) → PassRelation
JoinedBetween leaves unit graph joined = JoinsLeaves leaves graph joined
