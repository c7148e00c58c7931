-- The program in which units know the arguments that are always the same constant. Cited by contracts.
use Rattle.std.specs.Prelude.{◌≡◌, ◌⊎◌, ◌↔◌, ◌≤◌, ℕ, false, flat_map, List, [], ◌∷◌, ◌++◌, length, slice_get, slice_set, ℤ, Option, Some, None}
use Rattle.mir_base.specs.declared.instructions.Operand.{Operand}
use Rattle.mir_base.specs.declared.instructions.Operand.TheVariants.{Const, Var}
use Rattle.mir_base.specs.declared.instructions.Rhs.TheVariants.{Plain}
use Rattle.mir_base.specs.Shapes.{ProgramShape, UnitShape}
use Rattle.flow_graph.specs.declared.nodes.Node.{Node}
use Rattle.flow_graph.specs.declared.nodes.Node.TheVariants.{Start, Skip, Assign, Print, Guard, Call, Test, Return}
use Rattle.flow_graph.specs.Graphs.{GraphShape}
use Rattle.flow_graph.specs.Lowered.{IsLowered}
use Rattle.flow_graph.specs.Numbering.{is_in}
use Rattle.flow_graph.specs.Plans.{start_succ}
use Rattle.flow_graph.specs.Retained.{IsMade}
use Rattle.graph_edit.specs.Insertions.{Insertion}
use Rattle.jump_clean.specs.Cleaned.{IsClean}
use Rattle.program_pass.specs.Chains.{stood}
use Rattle.program_pass.specs.PassPrograms.{IsPassedProgram, PassRelation}

-- ---- which arguments are always the same constant

-- a call: the unit that calls, its graph, and the operands
pub record CallSite : Type 0 where
  pub caller : ℕ
  pub graph : GraphShape
  pub operands : List Operand

-- with clean jumps, this is the graph of the unit of these that calls, and a node of it calls unit u with the operands
pub record IsCallOf (units : List UnitShape) (u : ℕ) (site : CallSite) : Type 0 where
  pub unit : UnitShape
  pub lowered : GraphShape
  pub number : ℕ
  pub into : Option ℕ
  pub next : ℕ
  pub unit_at : slice_get units site.caller ≡ Some unit
  pub is_lowered : IsLowered unit lowered
  pub is_cleaned : IsClean lowered site.graph
  pub here : slice_get site.graph.nodes number ≡ Some (Call into u site.operands next)

-- the variable that a node assigns, if there is one. The globals aside, a call assigns the variable of its result
abbrev pub assigned_var : Node → List ℕ
assigned_var (Start next) = []
assigned_var (Skip next) = []
assigned_var (Assign x rhs next) = x ∷ []
assigned_var (Print a next) = []
assigned_var (Guard test number next) = []
assigned_var (Call None unit operands next) = []
assigned_var (Call (Some x) unit operands next) = x ∷ []
assigned_var (Test test taken other) = []
assigned_var (Return a) = []

-- no node assigns the variable
abbrev pub IsNeverAssigned : List Node → ℕ → Type 0
IsNeverAssigned nodes x = is_in x (flat_map assigned_var nodes) ≡ false

-- the call gives the constant as argument i
abbrev pub GivesConstant : CallSite → ℕ → ℤ → Type 0
GivesConstant site i c = slice_get site.operands i ≡ Some (Const c)

-- unit u calls itself and passes its argument i on: the operand is the variable that has received it, and no node
-- assigns this variable
pub record PassesOn (u i : ℕ) (site : CallSite) : Type 0 where
  pub own : site.caller ≡ u
  pub variable : ℕ
  pub received : slice_get site.graph.received i ≡ Some variable
  pub kept : IsNeverAssigned site.graph.nodes variable
  pub operand : slice_get site.operands i ≡ Some (Var variable)

-- Some of these calls of unit u gives the constant c as argument i, and each gives it or passes the argument on. The
-- first unit is also entered from outside
pub record AlwaysGive (CallsOf : ℕ → CallSite → Type 0) (u i : ℕ) (c : ℤ) : Type 0 where
  pub later : 1 ≤ u
  pub some : (site : CallSite) × CallsOf u site × GivesConstant site i c
  pub each : (site : CallSite) → CallsOf u site → GivesConstant site i c ⊎ PassesOn u i site

-- the list has a constant at the number of each argument that is always the same constant, and at no other
abbrev pub AreConstants : (ℕ → CallSite → Type 0) → ℕ → List (Option ℤ) → Type 0
AreConstants CallsOf u constants = (i : ℕ) (c : ℤ)
    → (slice_get constants i ≡ Some (Some c)) ↔ AlwaysGive CallsOf u i c

-- ---- what becomes of a graph

-- the assignment of a constant to a variable, where there is one
abbrev pub constant_put : ℕ → Option ℤ → List Insertion
constant_put x None = []
constant_put x (Some c) = record { var = x; rhs = Plain (Const c) } ∷ []

-- the assignments of the constants to the variables that receive the arguments of their numbers
abbrev pub constant_puts : List ℕ → List (Option ℤ) → List Insertion
constant_puts [] constants = []
constant_puts (x ∷ received) [] = []
constant_puts (x ∷ received) (constant ∷ constants) =
    constant_put x constant ++ constant_puts received constants

-- the nodes with one more between Start and the node that it leads to
abbrev pub opened : List Node → List Node
opened nodes = slice_set nodes 0 (Start (length nodes))
    ++ Skip (start_succ (slice_get nodes 0)) ∷ []

-- the nodes with these assignments behind Start, in order; without any they stay as they are
abbrev pub put_behind_start : List Node → List Insertion → List Node
put_behind_start nodes [] = nodes
put_behind_start nodes (put ∷ puts) =
    stood (opened nodes) (length nodes) (put ∷ puts) (start_succ (slice_get nodes 0))

-- Behind Start of the graph of the unit of this number, the constants that its arguments always are stand assigned to
-- the variables that receive them; the nodes that are reached are kept
pub record KnowsArguments (CallsOf : ℕ → CallSite → Type 0) (u : ℕ)
    (graph known : GraphShape) : Type 0 where
  pub constants : List (Option ℤ)
  pub are : AreConstants CallsOf u constants
  pub made : IsMade graph.name graph.shared graph.vars graph.received
      (put_behind_start graph.nodes (constant_puts graph.received constants)) known

-- as the relation of a pass
abbrev pub Knowing : List UnitShape → PassRelation
Knowing units u graph known = KnowsArguments (IsCallOf units) u graph known

-- each unit is lowered, cleaned, told which of its arguments are always the same constant, cleaned and laid out
abbrev pub HasConstantArguments : ProgramShape → ProgramShape → Type 0
HasConstantArguments source target = IsPassedProgram (Knowing source.units) source target

-- ---- what the functions of this crate make

-- the graph in between: its nodes are those of the graph, with the assignments
pub record AssignsArguments (CallsOf : ℕ → CallSite → Type 0) (u : ℕ)
    (graph middle : GraphShape) : Type 0 where
  pub constants : List (Option ℤ)
  pub are : AreConstants CallsOf u constants
  pub nodes : middle.nodes ≡ put_behind_start graph.nodes (constant_puts graph.received constants)
  pub shared : middle.shared ≡ graph.shared
  pub received : middle.received ≡ graph.received

-- as the relation of a pass
abbrev pub ArgumentsAssigned : List UnitShape → PassRelation
ArgumentsAssigned units u graph middle = AssignsArguments (IsCallOf units) u graph middle
