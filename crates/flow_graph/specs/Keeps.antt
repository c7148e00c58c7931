-- What a pass keeps of a unit: its name, its globals, what it does, what it counts at most, and that it calls no other
-- units. Cited by contracts of the passes.
use Rattle.std.specs.Prelude.{◌≡◌, ℕ, List, [], ◌∷◌, take}
use Rattle.mir_base.specs.Shapes.{UnitShape}
use Rattle.mir_base.specs.UnitRuns.{Machine, UnitCheaper, UnitSame, unit_machine}
use Rattle.flow_graph.specs.Calls.{BodyCalls, CallsAmong, NodesCall}
use Rattle.flow_graph.specs.Graphs.{GraphShape}
use Rattle.flow_graph.specs.Machines.{machine_of}

-- a unit in one of its two forms: as instructions, or as a graph
pub data Form : Type 0 where
  AsUnit : (shape : UnitShape) → Form
  AsGraph : (shape : GraphShape) → Form

-- its name
abbrev pub form_name : Form → List ℕ
form_name (AsUnit shape) = shape.name
form_name (AsGraph shape) = shape.name

-- the names of its globals
abbrev pub form_globals : Form → List (List ℕ)
form_globals (AsUnit shape) = take shape.shared shape.vars
form_globals (AsGraph shape) = take shape.shared shape.vars

-- what it does, as a machine
abbrev pub form_machine : Form → Machine
form_machine (AsUnit shape) = unit_machine shape
form_machine (AsGraph shape) = machine_of shape

-- it calls this unit with so many arguments
abbrev pub FormCalls : Form → ℕ → ℕ → Type 0
FormCalls (AsUnit shape) called count = BodyCalls shape.body called count
FormCalls (AsGraph shape) called count = NodesCall shape.nodes called count

-- the second has the name and the globals of the first, receives equally many arguments and does the same, evaluates no
-- more operators, and makes no calls but those of the first
pub record Keeps (first second : Form) : Type 0 where
  pub name : form_name second ≡ form_name first
  pub globals : form_globals second ≡ form_globals first
  pub same : UnitSame (form_machine first) (form_machine second)
  pub cheaper : UnitCheaper (form_machine first) (form_machine second)
  pub calls : CallsAmong (FormCalls second) (FormCalls first)

-- each of these forms keeps the one before it, and the first of them keeps this one
abbrev pub KeepInTurn : Form → List Form → Type 0
KeepInTurn first [] = Unit {0}
KeepInTurn first (next ∷ forms) = Keeps first next × KeepInTurn next forms
