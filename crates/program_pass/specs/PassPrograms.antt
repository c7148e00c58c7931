-- Programs of whose units each is lowered, cleaned, put through one pass, cleaned and laid out, where the pass may add
-- or take calls. Cited by contracts.
use Rattle.std.specs.Prelude.{◌≡◌, ℕ, Bool, List, length, map, take, slice_get, Some}
use Rattle.mir_base.specs.Runs.{Cheaper, Same}
use Rattle.mir_base.specs.Shapes.{ProgramShape, UnitShape, receives_in}
use Rattle.flow_graph.specs.Graphs.{AllWithin, CanMake, GraphShape, SharesVars}
use Rattle.flow_graph.specs.Keeps.{AsGraph, AsUnit, Keeps}
use Rattle.flow_graph.specs.Layouts.{IsLayout}
use Rattle.flow_graph.specs.Lowered.{CanLower, IsLowered}
use Rattle.flow_graph.specs.Passes.{GraphCalls, GraphCheaper, GraphSame}
use Rattle.flow_graph.specs.Retained.{marked}
use Rattle.jump_clean.specs.Cleaned.{IsClean}
use Rattle.mir_sim.specs.Machines.{Shallower}

-- the exact result of a pass on the graph of the unit of this number; or what its nodes are before the reached ones are
-- kept
abbrev pub PassRelation : Type 1
PassRelation = ℕ → GraphShape → GraphShape → Type 0

-- the unit of this number through the pass: lowered, cleaned, passed, cleaned and laid out
pub record IsPassedUnit (Exact : PassRelation) (unit : UnitShape) (number : ℕ)
    (target : UnitShape) : Type 0 where
  pub lowered : GraphShape
  pub cleaned : GraphShape
  pub passed : GraphShape
  pub swept : GraphShape
  pub is_lowered : IsLowered unit lowered
  pub is_cleaned : IsClean lowered cleaned
  pub is_passed : Exact number cleaned passed
  pub is_swept : IsClean passed swept
  pub is_laid : IsLayout swept target

-- no other program is one like this
abbrev pub IsOnly : (ProgramShape → Type 0) → ProgramShape → Type 0
IsOnly Is target = (other : ProgramShape) → Is other → target ≡ other

-- and no other graph
abbrev pub IsOnlyGraph : (GraphShape → Type 0) → GraphShape → Type 0
IsOnlyGraph Is graph = (other : GraphShape) → Is other → graph ≡ other

-- each unit of the source gives the unit of its number
abbrev pub EachUnit : (UnitShape → ℕ → UnitShape → Type 0) → List UnitShape → List UnitShape
    → Type 0
EachUnit Gives sources targets = (u : ℕ) (source target : UnitShape)
    → slice_get sources u ≡ Some source
    → slice_get targets u ≡ Some target → Gives source u target

-- the program of the units of this one through the pass, with its globals
pub record IsPassedProgram (Exact : PassRelation) (source target : ProgramShape) : Type 0 where
  pub globals : target.globals ≡ source.globals
  pub long : length target.units ≡ length source.units
  pub units : EachUnit (IsPassedUnit Exact) source.units target.units

-- what others see of a unit: its name, and how many arguments it receives
pub record UnitHead : Type 0 where
  pub name : List ℕ
  pub receives : ℕ

-- what they see of this one
abbrev pub head_of : UnitShape → UnitHead
head_of unit = record { name = unit.name; receives = receives_in unit.body }

-- and of each unit of a program, by number
abbrev pub heads_of : ProgramShape → List UnitHead
heads_of program = map head_of program.units

-- the second has the globals of the first, and units of the first in their order: each with its name and with as many
-- receives, and the first of them first
pub record KeepsHeads (first second : ProgramShape) : Type 0 where
  pub globals : second.globals ≡ first.globals
  pub stay : List Bool
  pub long : length stay ≡ length first.units
  pub heads : heads_of second ≡ marked stay (heads_of first)
  pub entry : slice_get (heads_of second) 0 ≡ slice_get (heads_of first) 0

-- the second is the same as the first, evaluates no more operators, and never has more frames; it has the globals of
-- the first, and its units are some of the first's, as others see them
pub record KeepsRuns (first second : ProgramShape) : Type 0 where
  pub same : Same first second
  pub cheaper : Cheaper first second
  pub shallower : Shallower first second
  pub heads : KeepsHeads first second

-- the target is this exact program, and no other is; it is the same, evaluates no more operators and never has more
-- frames
pub record Rewrites (Exact : ProgramShape → ProgramShape → Type 0)
    (source target : ProgramShape) : Type 0 where
  pub exact : Exact source target
  pub only : IsOnly (Exact source) target
  pub keeps : KeepsRuns source target

-- ---- what is kept, graph by graph

-- The result of a pass has the name and the globals of the graph. In between is a graph of the nodes that the pass
-- wrote, reached or not: the result does the same as this, evaluates no more operators, and makes no other calls; and
-- it makes none but those of the graph
pub record PassKeeps (Between : GraphShape → GraphShape → Type 0)
    (graph passed : GraphShape) : Type 0 where
  pub name : passed.name ≡ graph.name
  pub globals : take passed.shared passed.vars ≡ take graph.shared graph.vars
  pub middle : GraphShape
  pub between : Between graph middle
  pub shared : middle.shared ≡ graph.shared
  pub received : middle.received ≡ graph.received
  pub same : GraphSame middle passed
  pub cheaper : GraphCheaper middle passed
  pub middle_calls : GraphCalls graph middle
  pub calls : GraphCalls middle passed

-- ---- what the functions of passes make

-- the graph of the unit, lowered and cleaned
pub record LoweredClean (unit : UnitShape) (lowered cleaned : GraphShape) : Type 0 where
  pub is_lowered : IsLowered unit lowered
  pub within : AllWithin lowered.nodes
  pub is_cleaned : IsClean lowered cleaned
  pub keeps : Keeps (AsUnit unit) (AsGraph cleaned)
  pub can : CanMake cleaned.vars cleaned.received cleaned.nodes
  pub shares : SharesVars cleaned.shared cleaned.vars cleaned.received

-- a graph cleaned and laid out
pub record CleanedLaid (graph : GraphShape) (target : UnitShape) : Type 0 where
  pub within : AllWithin graph.nodes
  pub swept : GraphShape
  pub is_swept : IsClean graph swept
  pub is_laid : IsLayout swept target
  pub keeps : Keeps (AsGraph graph) (AsUnit target)
  pub lowers : CanLower target.shared target.body

-- the unit through the pass, and what it keeps
pub record UnitPassed (Exact Between : PassRelation) (unit : UnitShape) (number : ℕ)
    (target : UnitShape) : Type 0 where
  pub lowered : GraphShape
  pub cleaned : GraphShape
  pub passed : GraphShape
  pub front : LoweredClean unit lowered cleaned
  pub is_passed : Exact number cleaned passed
  pub keeps : PassKeeps (Between number) cleaned passed
  pub back : CleanedLaid passed target

-- of the unit of this number
abbrev pub PassedAt : PassRelation → PassRelation → List UnitShape → ℕ → UnitShape → Type 0
PassedAt Exact Between sources number target = (source : UnitShape)
    → slice_get sources number ≡ Some source
    → UnitPassed Exact Between source number target

-- of each unit of a program
pub record AllPassed (Exact Between : PassRelation)
    (sources targets : List UnitShape) : Type 0 where
  pub long : length targets ≡ length sources
  pub units : EachUnit (UnitPassed Exact Between) sources targets
