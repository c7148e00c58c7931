-- The text of the tables of what the units of a program want of one another. Cited by contracts, those of the crates
-- above too.
use Rattle.std.specs.Prelude.{◌≡◌, ℕ, List, ◌++◌, codes, length, slice_get, Some}
use Rattle.mir_base.specs.Shapes.{ProgramShape, UnitShape}
use Rattle.node_list.specs.Lists.{list_at}
use Rattle.program_pass.specs.declared.steps.PassSteps.{PassSteps}
use Rattle.program_pass.specs.PassPrograms.{PassRelation}
use Rattle.program_pass.specs.Steps.{ArePassSteps}
use Rattle.table_text.specs.Lines.{names_of_units}
use Rattle.table_text.specs.Turns.{InTurn}
use Rattle.wanted_bits.specs.declared.around.Around.{Around}
use Rattle.wanted_bits.specs.Asking.{asked_by}
use Rattle.wanted_bits.specs.Narrowed.{IsNarrowedBy}
use Rattle.wanted_bits.specs.Wanted.{Asked}
use Rattle.program_wanted.specs.Demands.{Demands, asked_at}
use Rattle.program_wanted.specs.WantedPrograms.{AreProgramDemands, NarrowedTo}
use Rattle.wanted_table.specs.Narrowings.{text_before, text_behind}
use Rattle.wanted_table.specs.WantedLines.{AreWantedLinesBy, entered_line, returned_line}

-- the first two graphs of a unit, and how many bits are asked for of each global and of each argument where it is
-- entered, and of each global and of its result where it returns
abbrev pub text_asked : List (List ℕ) → (globals arguments back : List ℕ) → PassSteps → List ℕ
text_asked names globals arguments back steps =
    text_before names steps ++ codes "pass demanded\n"
    ++ entered_line steps.cleaned.shared (length steps.cleaned.received) globals arguments
    ++ returned_line steps.cleaned.shared back

-- the text is that of these graphs, with these numbers between them, and a line for each node of the cleaned graph,
-- where so many bits are asked for around the unit
pub record ShowsAsked (names : List (List ℕ)) (asked : Asked) (globals arguments back : List ℕ)
    (steps : PassSteps) (text : List ℕ) : Type 0 where
  pub lines : List ℕ
  pub are : AreWantedLinesBy asked steps.cleaned lines
  pub text_is : text
      ≡ text_asked names globals arguments back steps ++ lines
      ++ text_behind names (codes "demanded") steps

-- the text is that of the unit of this number among these: of the graphs that the pass makes of it by these demands,
-- and of what is wanted before the nodes of its cleaned graph
pub record IsDemandedAt (demands : Demands) (units : List UnitShape) (number : ℕ) (text : List ℕ)
    : Type 0 where
  pub unit : UnitShape
  pub steps : PassSteps
  pub stands : slice_get units number ≡ Some unit
  pub steps_are : ArePassSteps (NarrowedTo demands) unit number steps
  pub shows : ShowsAsked (names_of_units units) (asked_at demands steps.cleaned.shared number)
      (list_at demands.globals number) (list_at demands.arguments number)
      (list_at demands.backs number) steps text

-- the text is that of each unit of the program in turn, by the least demands
pub record ShowsDemanded (program : ProgramShape) (text : List ℕ) : Type 0 where
  pub demands : Demands
  pub least : AreProgramDemands program demands
  pub units : List ℕ
  pub are : InTurn (IsDemandedAt demands program.units) (length program.units) units
  pub text_is : text ≡ codes "tables 1 demanded\n" ++ units

-- ---- for the functions that write it

-- the pass makes of a graph what is narrowed to what is asked for around its unit, whatever the number of the unit
abbrev pub MakesAsked : Around → PassRelation
MakesAsked around number graph made = IsNarrowedBy (asked_by graph.shared around) graph made
