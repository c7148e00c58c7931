-- The text of the tables of bounds. Cited by contracts, those of the crates above too.
use Rattle.std.specs.Prelude.{List, ℕ, codes, length}
use Rattle.mir_base.specs.Shapes.{ProgramShape}
use Rattle.program_pass.specs.PassPrograms.{PassRelation}
use Rattle.table_text.specs.Steps.{FoundRelation, ShowsPass}
use Rattle.table_text.specs.Turns.{InTurn}
use Rattle.value_bounds.specs.Bounded.{IsBounded}
use Rattle.bound_table.specs.BoundLines.{IsBoundLine}

-- the pass makes of a graph that in which its bounds are used, whatever the number of the unit
abbrev pub MakesBounded : PassRelation
MakesBounded number graph made = IsBounded graph made

-- the text has a line for each node of the graph: what is known before it
abbrev pub TellsBounds : FoundRelation
TellsBounds units number graph text = InTurn (IsBoundLine graph) (length graph.nodes) text

-- the text is that of each unit of the program in turn: of the graphs that the pass makes of it, and of what is known
-- before the nodes of its cleaned graph
abbrev pub ShowsBounds : ProgramShape → List ℕ → Type 0
ShowsBounds program text = ShowsPass (codes "bounds") MakesBounded TellsBounds program text
