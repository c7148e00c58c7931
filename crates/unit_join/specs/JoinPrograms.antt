-- What the functions of this crate make, as they say it. Cited by contracts of private functions, and of `Leaves::of`.
use Rattle.std.specs.Prelude.{◌≡◌, ℕ, Bool, true, false, if◌then◌else◌, List, [], ◌∷◌, ◌++◌, length, slice_get, Option, Some, None}
use Rattle.mir_base.specs.declared.instructions.Inst.{Inst}
use Rattle.mir_base.specs.declared.instructions.Inst.TheVariants as insts
use Rattle.mir_base.specs.Shapes.{AllDiffer, ProgramShape, UnitShape}
use Rattle.mir_base.specs.UnitRuns.{UnitCheaper, UnitSame}
use Rattle.flow_graph.specs.declared.nodes.Node.{Node}
use Rattle.flow_graph.specs.Calls.{CallsAmong, NodesCall}
use Rattle.flow_graph.specs.Graphs.{GraphShape}
use Rattle.flow_graph.specs.Retained.{IsMade}
use Rattle.flow_graph.specs.Machines.{graph_machine, machine_of}
use Rattle.fresh_names.specs.FreshNames.{AreTemporaryNames}
use Rattle.program_pass.specs.PassPrograms.{AllPassed, CleanedLaid, IsPassedProgram, LoweredClean, PassKeeps, PassedAt}
use Rattle.unit_join.specs.Joins.{AreLeavesOf, IsJoinedIfShort, IsLeafUnit, JoinedBetween, JoinsLeaves, LeavesAreJoined, LeavesJoined, called_leaves, copies}

-- the entry of a unit: the graph of a leaf, which keeps it, and none of any other
abbrev pub LeafMade : UnitShape → Option GraphShape → Type 0
LeafMade unit None = IsLeafUnit unit → ⊥
LeafMade unit (Some leaf) = IsLeafUnit unit × (lowered : GraphShape)
    × LoweredClean unit lowered leaf

-- those of the first units of a program
abbrev pub EachLeaf : List UnitShape → List (Option GraphShape) → Type 0
EachLeaf units leaves = (u : ℕ) (unit : UnitShape) (entry : Option GraphShape)
    → slice_get units u ≡ Some unit
    → slice_get leaves u ≡ Some entry → LeafMade unit entry

-- the leaves of a program, with what they keep
pub record AreLeavesMade (units : List UnitShape) (leaves : List (Option GraphShape)) : Type 0 where
  pub long : length leaves ≡ length units
  pub are : EachLeaf units leaves

-- the graph with the copies of the variables of the leaves that it calls after its own
pub record HasLeafCopies (graph : GraphShape) (leaves : List (Option GraphShape))
    (wide : GraphShape) : Type 0 where
  pub names : List (List ℕ)
  pub are_names : AreTemporaryNames graph.vars
      (copies leaves (called_leaves leaves graph.nodes)) names
  pub differ : AllDiffer (graph.vars ++ names)
  pub is : wide ≡ record graph { vars = graph.vars ++ names }

-- the graph with the leaves in the places of these calls
pub record JoinMade (graph : GraphShape) (leaves : List (Option GraphShape)) (at_calls : List ℕ)
    (joined : GraphShape) : Type 0 where
  pub names : List (List ℕ)
  pub are_names : AreTemporaryNames graph.vars
      (copies leaves (called_leaves leaves graph.nodes)) names
  pub nodes : List Node
  pub are_joined : LeavesAreJoined leaves (called_leaves leaves graph.nodes) graph
      at_calls graph.nodes nodes
  pub made : IsMade graph.name graph.shared (graph.vars ++ names) graph.received nodes joined
  pub same : UnitSame (graph_machine graph.shared graph.received nodes) (machine_of joined)
  pub cheaper : UnitCheaper (graph_machine graph.shared graph.received nodes) (machine_of joined)
  pub node_calls : CallsAmong (NodesCall nodes) (NodesCall graph.nodes)
  pub joined_calls : CallsAmong (NodesCall joined.nodes) (NodesCall nodes)

-- the unit of a graph with the leaves that it calls joined into it, or of the graph itself
pub record JoinedLaid (leaves : List (Option GraphShape)) (graph : GraphShape)
    (unit : UnitShape) : Type 0 where
  pub passed : GraphShape
  pub is : IsJoinedIfShort graph leaves passed
  pub keeps : PassKeeps (JoinsLeaves leaves) graph passed
  pub laid : CleanedLaid passed unit

-- the program with its leaves joined into their callers, but for callers that would be too long
pub record IsJoinedProgram (source target : ProgramShape) : Type 0 where
  pub leaves : List (Option GraphShape)
  pub are_leaves : AreLeavesOf source.units leaves
  pub passed : IsPassedProgram (LeavesJoined leaves) source target

-- what was made of the unit of this number with these leaves
abbrev pub JoinedUnit : List (Option GraphShape) → List UnitShape → ℕ → UnitShape → Type 0
JoinedUnit leaves = PassedAt (LeavesJoined leaves) (JoinedBetween leaves)

-- and of all units
abbrev pub JoinedUnits : List (Option GraphShape) → List UnitShape → List UnitShape → Type 0
JoinedUnits leaves = AllPassed (LeavesJoined leaves) (JoinedBetween leaves)

-- ---- tests

-- the instruction is a call
abbrev pub is_call : Inst → Bool
is_call (insts.Call into unit operands) = true
is_call _ = false

-- none of them is
abbrev pub calls_none : List Inst → Bool
calls_none [] = true
calls_none (inst ∷ rest) = if is_call inst then false else calls_none rest

-- the unit, where there is one, as a list
abbrev pub some_unit : Option ℕ → List ℕ
some_unit None = []
some_unit (Some unit) = unit ∷ []
