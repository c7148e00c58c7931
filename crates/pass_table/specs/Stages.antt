-- The text of the tables of one stage of a unit. Cited by contracts.
use Rattle.std.specs.Prelude.{◌≡◌, ℕ, ◌-◌, List, [], ◌++◌, codes, length}
use Rattle.mir_opt.specs.declared.stages.Stage.{Stage}
use Rattle.mir_opt.specs.declared.stages.Stage.TheVariants.{Lower, Clean, Fold, Number, Copies, Split, Motion, CopiesAfterMotion, Round, Result}
use Rattle.mir_opt.specs.declared.trails.UnitTrail.{UnitTrail}
use Rattle.mir_opt.specs.Stages.{graph_at, stage_name}
use Rattle.pass_table.specs.Copies.{IsCopiesText}
use Rattle.pass_table.specs.Motion.{IsMotionText}
use Rattle.pass_table.specs.Patterns.{IsPatternsText}
use Rattle.pass_table.specs.States.{IsStateLine}
use Rattle.pass_table.specs.Terms.{IsTermsText}
use Rattle.table_text.specs.Nodes.{graph_text}
use Rattle.table_text.specs.Turns.{InTurn}

-- the line with the name of the pass that makes a stage; none makes the first
abbrev pub pass_line : Stage → List ℕ
pass_line Lower = []
pass_line Clean = codes "pass clean\n"
pass_line Fold = codes "pass fold\n"
pass_line Number = codes "pass number\n"
pass_line Copies = codes "pass copies\n"
pass_line Split = codes "pass split\n"
pass_line Motion = codes "pass motion\n"
pass_line CopiesAfterMotion = codes "pass copies\n"
pass_line (Round number) = codes "pass sink\n"
pass_line Result = codes "pass clean\n"

-- the line with the name of a stage
abbrev pub stage_line : Stage → List ℕ
stage_line stage = codes "stage " ++ stage_name stage ++ codes "\n"

-- the text is that of what the pass finds out that makes a stage, of the graph that goes in; cleaning and splitting
-- find out nothing
abbrev pub IsFound : UnitTrail → Stage → List ℕ → Type 0
IsFound unit Lower text = text ≡ []
IsFound unit Clean text = text ≡ []
IsFound unit Fold text = InTurn (IsStateLine unit.cleaned) (length unit.cleaned.nodes) text
IsFound unit Number text = IsTermsText unit.folded text
IsFound unit Copies text = IsCopiesText unit.numbered text
IsFound unit Split text = text ≡ []
IsFound unit Motion text = IsMotionText unit text
IsFound unit CopiesAfterMotion text = IsCopiesText unit.moved text
IsFound unit (Round number) text = IsPatternsText (graph_at unit (Round (number - 1))) text
IsFound unit Result text = text ≡ []

-- the text is that of what is found out so, behind the name of the pass
pub record IsFoundText (unit : UnitTrail) (stage : Stage) (text : List ℕ) : Type 0 where
  pub found : List ℕ
  pub is_found : IsFound unit stage found
  pub text_is : text ≡ pass_line stage ++ found

-- the graph at a stage behind its name, among units of these names
abbrev pub shown_text : List (List ℕ) → UnitTrail → Stage → List ℕ
shown_text units unit stage = stage_line stage ++ graph_text units (graph_at unit stage)

-- the text is that of what is found out so, and then of the graph at this stage
pub record IsStageText (units : List (List ℕ)) (unit : UnitTrail) (stage : Stage)
    (text : List ℕ) : Type 0 where
  pub found : List ℕ
  pub is_found : IsFoundText unit stage found
  pub text_is : text ≡ found ++ shown_text units unit stage
