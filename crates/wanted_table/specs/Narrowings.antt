-- The text of the tables of wanted bits. Cited by contracts, those of the crates above too.
use Rattle.std.specs.Prelude.{◌≡◌, ℕ, List, ◌++◌, codes, length, slice_get, Some}
use Rattle.mir_base.specs.Shapes.{ProgramShape, UnitShape}
use Rattle.program_pass.specs.declared.steps.PassSteps.{PassSteps}
use Rattle.program_pass.specs.PassPrograms.{PassRelation}
use Rattle.program_pass.specs.Steps.{ArePassSteps}
use Rattle.table_text.specs.Lines.{names_of_units, unit_line}
use Rattle.table_text.specs.Nodes.{stage_text}
use Rattle.table_text.specs.Turns.{InTurn}
use Rattle.wanted_bits.specs.Narrowed.{IsNarrowed}
use Rattle.wanted_table.specs.WantedLines.{AreWantedLines}

-- the pass makes of a graph that in which no bits are computed that are not wanted, whatever the number of the unit
abbrev pub MakesNarrowed : PassRelation
MakesNarrowed number graph made = IsNarrowed graph made

-- the name of a unit and its first graph, among units of these names
abbrev pub text_begun : List (List ℕ) → PassSteps → List ℕ
text_begun names steps =
    unit_line steps.lowered.name ++ stage_text names (codes "lower") steps.lowered

-- the same with its second graph
abbrev pub text_before : List (List ℕ) → PassSteps → List ℕ
text_before names steps =
    text_begun names steps ++ codes "pass clean\n" ++ stage_text names (codes "clean") steps.cleaned

-- its last two graphs, where the first of them has this name
abbrev pub text_behind : List (List ℕ) → List ℕ → PassSteps → List ℕ
text_behind names label steps =
    stage_text names label steps.passed
    ++ codes "pass clean\n" ++ stage_text names (codes "result") steps.swept

-- the text is that of these graphs, with a line for each node of the cleaned one between them
pub record ShowsSteps (names : List (List ℕ)) (steps : PassSteps) (text : List ℕ) : Type 0 where
  pub lines : List ℕ
  pub are : AreWantedLines steps.cleaned lines
  pub text_is : text
      ≡ text_before names steps ++ codes "pass wanted\n" ++ lines
      ++ text_behind names (codes "wanted") steps

-- the text is that of the unit of this number among these: of the graphs that the pass makes of it, and of what is
-- wanted before the nodes of its cleaned graph
pub record IsNarrowedAt (units : List UnitShape) (number : ℕ) (text : List ℕ) : Type 0 where
  pub unit : UnitShape
  pub steps : PassSteps
  pub stands : slice_get units number ≡ Some unit
  pub steps_are : ArePassSteps MakesNarrowed unit number steps
  pub shows : ShowsSteps (names_of_units units) steps text

-- the text is that of each unit of the program in turn
pub record ShowsWanted (program : ProgramShape) (text : List ℕ) : Type 0 where
  pub units : List ℕ
  pub are : InTurn (IsNarrowedAt program.units) (length program.units) units
  pub text_is : text ≡ codes "tables 1 wanted\n" ++ units
