-- The text of the tables of a unit. Cited by contracts.
use Rattle.std.specs.Prelude.{◌≡◌, ℕ, List, ◌++◌, length, slice_get, Some}
use Rattle.mir_opt.specs.declared.stages.Stage.{Stage}
use Rattle.mir_opt.specs.declared.stages.Stage.TheVariants.{Result}
use Rattle.mir_opt.specs.declared.trails.UnitTrail.{UnitTrail}
use Rattle.mir_opt.specs.Links.{IsBack, IsSafeMotion}
use Rattle.mir_opt.specs.Stages.{before_rounds}
use Rattle.pass_table.specs.Rounds.{IsRoundAt}
use Rattle.pass_table.specs.Stages.{IsStageText}
use Rattle.table_text.specs.Lines.{unit_line}
use Rattle.table_text.specs.Turns.{InTurn}

-- what a linked trail says of the code motion of a unit
abbrev pub IsUnitMotion : UnitTrail → Type 0
IsUnitMotion unit = IsSafeMotion unit.copied unit.split unit.table unit.placement unit.moved

-- and of what comes behind it too
pub record IsUnitLinked (unit : UnitTrail) : Type 0 where
  pub motion : IsUnitMotion unit
  pub back : IsBack unit.moved unit.recopied unit.rounds.graphs unit.swept

-- the text is that of the stage of this number among these
pub record IsStageAt (units : List (List ℕ)) (unit : UnitTrail) (stages : List Stage) (number : ℕ)
    (text : List ℕ) : Type 0 where
  pub stage : Stage
  pub stands : slice_get stages number ≡ Some stage
  pub is : IsStageText units unit stage text

-- the tables of a unit, among units of these names: its stages before the rounds, these, and the last one
pub record IsUnitText (units : List (List ℕ)) (unit : UnitTrail) (text : List ℕ) : Type 0 where
  pub front : List ℕ
  pub rounds : List ℕ
  pub last : List ℕ
  pub begins : InTurn (IsStageAt units unit before_rounds) (length before_rounds) front
  pub sinks : InTurn (IsRoundAt units unit) (length unit.rounds.graphs) rounds
  pub ends : IsStageText units unit Result last
  pub text_is : text ≡ unit_line unit.lowered.name ++ front ++ rounds ++ last
