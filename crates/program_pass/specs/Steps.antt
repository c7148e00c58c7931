-- The graphs of a unit on its way through a pass, but for the unit that is laid out. Cited by contracts, those of the
-- crates above too.
use Rattle.std.specs.Prelude.{◌≡◌, ℕ, List, slice_get, Some}
use Rattle.mir_base.specs.Shapes.{UnitShape}
use Rattle.flow_graph.specs.Graphs.{GraphShape}
use Rattle.flow_graph.specs.Lowered.{IsLowered}
use Rattle.jump_clean.specs.Cleaned.{IsClean}
use Rattle.program_pass.specs.declared.steps.PassSteps.{PassSteps}
use Rattle.program_pass.specs.declared.units.Front.{Front}
use Rattle.program_pass.specs.PassPrograms.{PassRelation}

-- the unit of this number is lowered, cleaned, passed and cleaned like this
pub record ArePassSteps (Exact : PassRelation) (unit : UnitShape) (number : ℕ)
    (steps : PassSteps) : Type 0 where
  pub is_lowered : IsLowered unit steps.lowered
  pub is_cleaned : IsClean steps.lowered steps.cleaned
  pub is_passed : Exact number steps.cleaned steps.passed
  pub is_swept : IsClean steps.passed steps.swept

-- so is the one of these units that has this number
abbrev pub AreStepsAt : PassRelation → List UnitShape → ℕ → PassSteps → Type 0
AreStepsAt Exact units number steps = (unit : UnitShape) → slice_get units number ≡ Some unit
    → ArePassSteps Exact unit number steps

-- ---- for the function that makes them

-- the first graphs are these, and this is what the pass made of them
pub record AreSweptSteps (front : Front) (passed : GraphShape) (steps : PassSteps) : Type 0 where
  pub lowered : steps.lowered ≡ front.lowered
  pub cleaned : steps.cleaned ≡ front.cleaned
  pub passed_is : steps.passed ≡ passed
  pub is_swept : IsClean steps.passed steps.swept
