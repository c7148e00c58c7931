-- The program in which no unit computes what no other needs of it. Cited by contracts.
use Rattle.std.specs.Prelude.{ℕ, List}
use Rattle.mir_base.specs.Shapes.{ProgramShape, UnitShape}
use Rattle.flow_graph.specs.Graphs.{GraphShape}
use Rattle.program_pass.specs.Fronts.{AreGraphsOf}
use Rattle.program_pass.specs.PassPrograms.{AllPassed, IsPassedProgram, PassRelation, PassedAt}
use Rattle.wanted_bits.specs.Made.{IsMadeNarrowed}
use Rattle.wanted_bits.specs.Narrowed.{IsNarrowedBy}
use Rattle.program_wanted.specs.Demands.{AreLeastDemands, Demands, asked_at}

-- the least demands that serve all units of a program
pub record AreProgramDemands (program : ProgramShape) (demands : Demands) : Type 0 where
  pub graphs : List GraphShape
  pub are_graphs : AreGraphsOf program.units graphs
  pub least : AreLeastDemands graphs demands

-- each graph is narrowed to what is asked for around its unit
abbrev pub NarrowedTo : Demands → PassRelation
NarrowedTo demands u graph narrowed = IsNarrowedBy (asked_at demands graph.shared u) graph narrowed

-- each unit is lowered, cleaned, narrowed to what is asked for around it by the least demands, cleaned and laid out
pub record IsWantedProgram (source target : ProgramShape) : Type 0 where
  pub graphs : List GraphShape
  pub are_graphs : AreGraphsOf source.units graphs
  pub demands : Demands
  pub least : AreLeastDemands graphs demands
  pub passed : IsPassedProgram (NarrowedTo demands) source target

-- ---- what the functions of this crate make

-- the graph in between is narrowed too
abbrev pub NarrowsTo : Demands → PassRelation
NarrowsTo demands u graph middle = IsMadeNarrowed (asked_at demands graph.shared u) graph middle

-- what was made of the unit of this number
abbrev pub WantedUnit : Demands → List UnitShape → ℕ → UnitShape → Type 0
WantedUnit demands = PassedAt (NarrowedTo demands) (NarrowsTo demands)

-- of all units
abbrev pub WantedUnits : Demands → List UnitShape → List UnitShape → Type 0
WantedUnits demands = AllPassed (NarrowedTo demands) (NarrowsTo demands)
