-- What the calls of a program give, as it is gathered. Cited by contracts of private functions.
use Rattle.std.specs.Prelude.{◌≡◌, ◌⊎◌, ◌↔◌, ℕ, ◌<◌, ◌≤◌, true, false, if◌then◌else◌, nat_eq, List, [], ◌++◌, flat_map, length, map, replicate, slice_get, ℤ, Option, Some, None}
use Rattle.mir_base.specs.declared.instructions.Operand.{Operand}
use Rattle.mir_base.specs.declared.instructions.Operand.TheVariants.{Var, Const}
use Rattle.mir_base.specs.Shapes.{UnitShape}
use Rattle.mir_base.specs.UnitRuns.{UnitCheaper, UnitSame}
use Rattle.flow_graph.specs.declared.nodes.Node.{Node}
use Rattle.flow_graph.specs.declared.nodes.Node.TheVariants.{Call}
use Rattle.flow_graph.specs.Calls.{CallsAmong, NodesCall}
use Rattle.flow_graph.specs.Graphs.{GraphShape}
use Rattle.flow_graph.specs.Machines.{graph_machine, machine_of}
use Rattle.flow_graph.specs.Numbering.{is_in}
use Rattle.flow_graph.specs.Retained.{IsMade}
use Rattle.program_pass.specs.PassPrograms.{AllPassed, PassedAt}
use Rattle.constant_args.specs.declared.gathering.NotedCalls.{NotedCalls}
use Rattle.constant_args.specs.declared.states.ArgumentState.{ArgumentState}
use Rattle.constant_args.specs.declared.states.ArgumentState.TheVariants.{Open, Always, Varies}
use Rattle.constant_args.specs.ConstantArguments.{AreConstants, ArgumentsAssigned, CallSite, GivesConstant, Knowing, PassesOn, assigned_var, put_behind_start, constant_puts}

-- ---- the calls of the graphs

-- a node calls none but the first units
abbrev pub CallIsWithin : Node → ℕ → Type 0
CallIsWithin node count = (into : Option ℕ) (v : ℕ) (operands : List Operand) (next : ℕ)
    → node ≡ Call into v operands next → v < count

-- there is a graph, and their calls are of units that there are
pub record CallsExist (graphs : List GraphShape) : Type 0 where
  pub some : 0 < length graphs
  pub calls : (w : ℕ) (graph : GraphShape) (n : ℕ) (node : Node) → slice_get graphs w ≡ Some graph
      → slice_get graph.nodes n ≡ Some node → CallIsWithin node (length graphs)

-- before node n of graph w a node calls unit u like this
pub record IsCallBefore (graphs : List GraphShape) (w n u : ℕ) (site : CallSite) : Type 0 where
  pub number : ℕ
  pub into : Option ℕ
  pub next : ℕ
  pub graph_at : slice_get graphs site.caller ≡ Some site.graph
  pub here : slice_get site.graph.nodes number ≡ Some (Call into u site.operands next)
  pub before : (site.caller < w) ⊎ ((site.caller ≡ w) × (number < n))

-- ---- variables that are passed on

-- the variable, where it is none of the assigned ones
abbrev pub kept_var : List ℕ → ℕ → Option ℕ
kept_var assigned x = if is_in x assigned then None else Some x

-- each received variable that no node assigns, at the number of its argument
abbrev pub kept_vars : GraphShape → List (Option ℕ)
kept_vars graph = map (kept_var (flat_map assigned_var graph.nodes)) graph.received

-- those that unit w passes on to the unit that it calls
abbrev pub passed_to : ℕ → ℕ → List (Option ℕ) → List (Option ℕ)
passed_to called w kept = if nat_eq called w then kept else []

-- operand i is the variable that passes argument i on
pub record IsPassed (operands : List Operand) (kept : List (Option ℕ)) (i : ℕ) : Type 0 where
  pub variable : ℕ
  pub is_kept : slice_get kept i ≡ Some (Some variable)
  pub operand : slice_get operands i ≡ Some (Var variable)

-- ---- one call

-- the constant that an argument always is, where there is one
abbrev pub constant_in : ArgumentState → Option ℤ
constant_in Open = None
constant_in (Always c) = Some c
constant_in Varies = None

-- what an operand makes of a state: a constant, where it gives this constant, and no other was given before
pub record JoinsOperand (state : ArgumentState) (operand : Option Operand)
    (new : ArgumentState) : Type 0 where
  pub closed : new ≡ Open → ⊥
  pub gives : (c : ℤ) → (new ≡ Always c)
      ↔ ((operand ≡ Some (Const c)) × ((state ≡ Open) ⊎ (state ≡ Always c)))

-- what operand i makes of a state, unless it passes the argument on
pub record JoinsArgument (operands : List Operand) (kept : List (Option ℕ)) (i : ℕ)
    (state new : ArgumentState) : Type 0 where
  pub passed : IsPassed operands kept i → new ≡ state
  pub joined : (IsPassed operands kept i → ⊥) → JoinsOperand state (slice_get operands i) new

-- so of the first so many arguments
pub record JoinsArguments (count : ℕ) (operands : List Operand) (kept : List (Option ℕ))
    (old new : List ArgumentState) : Type 0 where
  pub long : length new ≡ length old
  pub joined : (i : ℕ) (a b : ArgumentState) → i < count → slice_get old i ≡ Some a
      → slice_get new i ≡ Some b → JoinsArgument operands kept i a b
  pub others : (i : ℕ) → count ≤ i → slice_get new i ≡ slice_get old i

-- the states before a call: nothing is given yet, where it is the first
abbrev pub states_before : NotedCalls → List Operand → List ArgumentState
states_before calls operands =
    if calls.called then calls.arguments.items
    else calls.arguments.items ++ replicate (length operands) Open

-- a call is noted
pub record NotesSite (operands : List Operand) (kept : List (Option ℕ)) (old new : NotedCalls)
    : Type 0 where
  pub called : new.called ≡ true
  pub joins : JoinsArguments (length (states_before old operands)) operands kept
      (states_before old operands) new.arguments.items

-- the call of this node of unit w is noted at its unit, where it is one; the other units stay
pub record NotesNode (node : Node) (w : ℕ) (kept : List (Option ℕ)) (old new : List NotedCalls)
    : Type 0 where
  pub long : length new ≡ length old
  pub noted : (into : Option ℕ) (v : ℕ) (operands : List Operand) (next : ℕ) (a b : NotedCalls)
      → node ≡ Call into v operands next → slice_get old v ≡ Some a → slice_get new v ≡ Some b
      → NotesSite operands (passed_to v w kept) a b
  pub others : (u : ℕ) → ((into : Option ℕ) (operands : List Operand) (next : ℕ)
      → node ≡ Call into u operands next → ⊥)
      → slice_get new u ≡ slice_get old u

-- ---- many calls

-- each of these calls gives the constant as argument i, or passes the argument on
abbrev pub EachGives : (CallSite → Type 0) → ℕ → ℕ → ℤ → Type 0
EachGives IsCall u i c = (site : CallSite) → IsCall site
    → GivesConstant site i c ⊎ PassesOn u i site

-- what these calls of unit u give argument i, by its state, where it has one
pub record IsStateBy (IsCall : CallSite → Type 0) (u i : ℕ) (state : Option ArgumentState)
    : Type 0 where
  pub open_each : state ≡ Some Open → (site : CallSite) → IsCall site → PassesOn u i site
  pub always_some : (c : ℤ) → state ≡ Some (Always c)
      → (site : CallSite) × IsCall site × GivesConstant site i c
  pub always_each : (c : ℤ) → state ≡ Some (Always c) → EachGives IsCall u i c
  pub varies : (state ≡ Some Open → ⊥) → ((c : ℤ) → state ≡ Some (Always c) → ⊥)
      → (c : ℤ) → EachGives IsCall u i c → ⊥

-- what these calls of unit u give it
pub record IsNotedBy (IsCall : CallSite → Type 0) (u : ℕ) (calls : NotedCalls) : Type 0 where
  pub uncalled : calls.called ≡ false
      → (calls.arguments.items ≡ []) × ((site : CallSite) → IsCall site → ⊥)
  pub called : calls.called ≡ true
      → (i : ℕ) → IsStateBy IsCall u i (slice_get calls.arguments.items i)

-- for each unit, what the calls before node n of graph w give
pub record AreNotedBefore (graphs : List GraphShape) (w n : ℕ) (noted : List NotedCalls)
    : Type 0 where
  pub long : length noted ≡ length graphs
  pub each : (u : ℕ) (calls : NotedCalls) → slice_get noted u ≡ Some calls
      → IsNotedBy (IsCallBefore graphs w n u) u calls

-- for each unit, the constants that its arguments always are
pub record AreAllConstants (graphs : List GraphShape) (noted : List NotedCalls) : Type 0 where
  pub long : length noted ≡ length graphs
  pub each : (u : ℕ) (calls : NotedCalls) → slice_get noted u ≡ Some calls
      → AreConstants (IsCallBefore graphs (length graphs) 0) u
      (map constant_in calls.arguments.items)

-- ---- what is made of a graph

-- the graph with these constants assigned behind Start
pub record KnowsMade (graph : GraphShape) (constants : List (Option ℤ)) (known : GraphShape)
    : Type 0 where
  pub nodes : List Node
  pub nodes_are : nodes ≡ put_behind_start graph.nodes (constant_puts graph.received constants)
  pub made : IsMade graph.name graph.shared graph.vars graph.received nodes known
  pub same : UnitSame (graph_machine graph.shared graph.received nodes) (machine_of known)
  pub cheaper : UnitCheaper (graph_machine graph.shared graph.received nodes) (machine_of known)
  pub behind_start_calls : CallsAmong (NodesCall nodes) (NodesCall graph.nodes)
  pub known_calls : CallsAmong (NodesCall known.nodes) (NodesCall nodes)

-- what was made of the unit of this number
abbrev pub KnowingUnit : List UnitShape → ℕ → UnitShape → Type 0
KnowingUnit units = PassedAt (Knowing units) (ArgumentsAssigned units) units

-- of all units
abbrev pub KnowingUnits : List UnitShape → List UnitShape → Type 0
KnowingUnits units = AllPassed (Knowing units) (ArgumentsAssigned units) units
