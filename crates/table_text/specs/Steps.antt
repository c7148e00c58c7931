-- The graphs of a unit on its way through a pass, and what is told between them. Cited by contracts, those of the crates
-- above too.
use Rattle.std.specs.Prelude.{◌≡◌, ℕ, List, ◌++◌, codes, length, slice_get, Some}
use Rattle.mir_base.specs.Shapes.{ProgramShape, UnitShape}
use Rattle.flow_graph.specs.Graphs.{GraphShape}
use Rattle.program_pass.specs.declared.steps.PassSteps.{PassSteps}
use Rattle.program_pass.specs.PassPrograms.{PassRelation}
use Rattle.program_pass.specs.Steps.{ArePassSteps}
use Rattle.table_text.specs.Lines.{names_of_units, unit_line}
use Rattle.table_text.specs.Nodes.{stage_text}
use Rattle.table_text.specs.Turns.{IsTableText}

-- ---- graphs

-- the line with the name of a pass
abbrev pub pass_line : List ℕ → List ℕ
pass_line pass = codes "pass " ++ pass ++ codes "\n"

-- the name of a unit and its first graph, among units of these names
abbrev pub start_text : List (List ℕ) → GraphShape → List ℕ
start_text names lowered = unit_line lowered.name ++ stage_text names (codes "lower") lowered

-- the same with its second graph, which has clean jumps
abbrev pub front_text : List (List ℕ) → GraphShape → GraphShape → List ℕ
front_text names lowered cleaned =
    start_text names lowered ++ codes "pass clean\n" ++ stage_text names (codes "clean") cleaned

-- its last two graphs: what the pass of this name made, and the same with clean jumps
abbrev pub back_text : List (List ℕ) → List ℕ → GraphShape → GraphShape → List ℕ
back_text names pass passed swept =
    stage_text names pass passed ++ codes "pass clean\n" ++ stage_text names (codes "result") swept

-- ---- passes over the units of a program

-- what the text says that tells what is found out of the graph of the unit of this number, among these units
abbrev pub FoundRelation : Type 1
FoundRelation = List UnitShape → ℕ → GraphShape → List ℕ → Type 0

-- the graphs of a unit on its way through the pass of this name, and between them what is found out
abbrev pub steps_text : List (List ℕ) → List ℕ → PassSteps → List ℕ → List ℕ
steps_text names pass steps found =
    front_text names steps.lowered steps.cleaned ++ pass_line pass ++ found
    ++ back_text names pass steps.passed steps.swept

-- the text is that of the unit of this number among these: of the graphs that the pass makes of it, and of what is found
-- out of the one with clean jumps
pub record IsStepsText (pass : List ℕ) (Exact : PassRelation) (Finds : FoundRelation)
    (units : List UnitShape)
    (number : ℕ) (text : List ℕ) : Type 0 where
  pub unit : UnitShape
  pub steps : PassSteps
  pub found : List ℕ
  pub stands : slice_get units number ≡ Some unit
  pub steps_are : ArePassSteps Exact unit number steps
  pub is_found : Finds units number steps.cleaned found
  pub text_is : text ≡ steps_text (names_of_units units) pass steps found

-- the first line of the tables of a pass
abbrev pub table_line : List ℕ → List ℕ
table_line pass = codes "tables 1 " ++ pass ++ codes "\n"

-- the text is that of each unit of the program in turn
abbrev pub ShowsPass : List ℕ → PassRelation → FoundRelation → ProgramShape → List ℕ → Type 0
ShowsPass pass Exact Finds program text =
    IsTableText (table_line pass) (IsStepsText pass Exact Finds program.units)
    (length program.units) text

-- ---- for the function that writes one unit

-- the text is that of these graphs, with what is found out of the one with clean jumps between them
pub record ShowsSteps (pass : List ℕ) (Finds : GraphShape → List ℕ → Type 0) (names : List (List ℕ))
    (steps : PassSteps) (text : List ℕ) : Type 0 where
  pub found : List ℕ
  pub is_found : Finds steps.cleaned found
  pub text_is : text ≡ steps_text names pass steps found
