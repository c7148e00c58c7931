-- The graphs of a unit on its way to its leaves, and how long it becomes. Cited by contracts, those of the crates above
-- too.
use Rattle.std.specs.Prelude.{◌≡◌, ℕ, List, length, slice_get, Option, Some}
use Rattle.mir_base.specs.Shapes.{UnitShape}
use Rattle.flow_graph.specs.Graphs.{GraphShape}
use Rattle.flow_graph.specs.Layouts.{IsLayout}
use Rattle.program_pass.specs.declared.units.Front.{Front}
use Rattle.program_pass.specs.PassPrograms.{PassRelation}
use Rattle.program_pass.specs.Steps.{ArePassSteps, AreSweptSteps}
use Rattle.unit_join.specs.declared.steps.JoinSteps.{JoinSteps}
use Rattle.unit_join.specs.Joins.{IsJoined}

-- all leaves that the graph calls are joined into it, however long its unit becomes
abbrev pub AllJoined : List (Option GraphShape) → PassRelation
AllJoined leaves unit graph joined = IsJoined graph leaves joined

-- the unit of this number is lowered, cleaned, joined with all leaves that it calls, and cleaned like this; laid out it
-- has so many instructions
pub record IsJoinMade (leaves : List (Option GraphShape)) (unit : UnitShape) (number : ℕ)
    (made : JoinSteps)
    : Type 0 where
  pub are : ArePassSteps (AllJoined leaves) unit number made.steps
  pub laid : UnitShape
  pub is_laid : IsLayout made.steps.swept laid
  pub insts : made.insts ≡ length laid.body

-- so is the one of these units that has this number
abbrev pub IsJoinMadeAt : List (Option GraphShape) → List UnitShape → ℕ → JoinSteps → Type 0
IsJoinMadeAt leaves units number made = (unit : UnitShape) → slice_get units number ≡ Some unit
    → IsJoinMade leaves unit number made

-- ---- for the function that makes them

-- the first graphs are these, this is what the pass made of them, and laid out they have so many instructions
pub record AreLaidSteps (front : Front) (joined : GraphShape) (made : JoinSteps) : Type 0 where
  pub steps : AreSweptSteps front joined made.steps
  pub laid : UnitShape
  pub is_laid : IsLayout made.steps.swept laid
  pub insts : made.insts ≡ length laid.body
