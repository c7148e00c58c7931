-- The steps of a unit that gets its leaves are those of the join of all leaves.
use Rattle.std.proofs.Common.{ℕ, List, Option, sym, subst}
use Rattle.mir_base.specs.Shapes.{UnitShape}
use Rattle.flow_graph.specs.Graphs.{GraphShape}
use Rattle.flow_graph.specs.Lowered.{IsLowered}
use Rattle.jump_clean.specs.Cleaned.{IsClean}
use Rattle.program_pass.specs.declared.units.Front.{Front}
use Rattle.program_pass.specs.PassPrograms.{LoweredClean}
use Rattle.program_pass.specs.Steps.{ArePassSteps, AreSweptSteps}
use Rattle.program_pass.specs.declared.steps.PassSteps.{PassSteps}
use Rattle.unit_join.specs.declared.steps.JoinSteps.{JoinSteps}
use Rattle.unit_join.specs.Joins.{IsJoined}
use Rattle.unit_join.specs.JoinSteps.{AllJoined, AreLaidSteps, IsJoinMade}

-- the graphs alone
steps_made : (leaves : List (Option GraphShape)) (unit : UnitShape) (number : ℕ) (front : Front) (joined : GraphShape) (steps : PassSteps) → LoweredClean unit front.lowered front.cleaned → IsJoined front.cleaned leaves joined → AreSweptSteps front joined steps → ArePassSteps (AllJoined leaves) unit number steps
steps_made leaves unit number front joined steps front_is joins are =
    record {
      is_lowered = subst (IsLowered unit) (sym are.lowered) front_is.is_lowered;
      is_cleaned = subst (λ g. IsClean g steps.cleaned) (sym are.lowered) (subst (IsClean front.lowered) (sym are.cleaned) front_is.is_cleaned);
      is_passed = subst (λ g. IsJoined g leaves steps.passed) (sym are.cleaned) (subst (IsJoined front.cleaned leaves) (sym are.passed_is) joins);
      is_swept = are.is_swept;
    }

-- with how long the unit becomes
pub join_made : (leaves : List (Option GraphShape)) (unit : UnitShape) (number : ℕ) (front : Front) (joined : GraphShape) (made : JoinSteps) → LoweredClean unit front.lowered front.cleaned → IsJoined front.cleaned leaves joined → AreLaidSteps front joined made → IsJoinMade leaves unit number made
join_made leaves unit number front joined made front_is joins is =
    record { are = steps_made leaves unit number front joined made.steps front_is joins is.steps; laid = is.laid; is_laid = is.is_laid; insts = is.insts }
