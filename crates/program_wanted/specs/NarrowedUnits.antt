-- The graphs of the units of a program, and those to which they are narrowed. Cited by contracts.
use Rattle.std.specs.Prelude.{◌≡◌, ℕ, List, length, slice_get, Option, Some}
use Rattle.mir_base.specs.Shapes.{ProgramShape, UnitShape}
use Rattle.flow_graph.specs.Graphs.{GraphShape}
use Rattle.flow_graph.specs.Layouts.{IsLayout}
use Rattle.jump_clean.specs.Cleaned.{IsClean}
use Rattle.wanted_bits.specs.declared.picking.Shift.{Shift}
use Rattle.wanted_bits.specs.MostRemoved.{TellShifts}
use Rattle.wanted_bits.specs.Narrowed.{IsNarrowedBy}
use Rattle.wanted_bits.specs.Wanted.{AreLeastWantedBy}
use Rattle.program_wanted.specs.Demands.{AreLeastDemands, Demands, asked_at}
use Rattle.program_pass.specs.Fronts.{AreGraphsOf}

-- the unit is this graph, cleaned and laid out
abbrev pub IsLaidFrom : GraphShape → UnitShape → Type 0
IsLaidFrom graph unit = (swept : GraphShape) × (IsClean graph swept × IsLayout swept unit)

-- the graphs of the source's units, and what they are narrowed to by the least demands; laid out, these are the units
-- of the target
pub record AreNarrowedUnits (source target : ProgramShape) (graphs narrowed : List GraphShape)
    : Type 0 where
  pub are_graphs : AreGraphsOf source.units graphs
  pub demands : Demands
  pub least : AreLeastDemands graphs demands
  pub long : length narrowed ≡ length graphs
  pub are_narrowed : (u : ℕ) (graph made : GraphShape) → slice_get graphs u ≡ Some graph
      → slice_get narrowed u ≡ Some made → IsNarrowedBy (asked_at demands graph.shared u) graph made
  pub are_laid : (u : ℕ) (made : GraphShape) (unit : UnitShape) → slice_get narrowed u ≡ Some made
      → slice_get target.units u ≡ Some unit → IsLaidFrom made unit

-- the least numbers of wanted bits of each unit, by number, where so many are asked for around units
pub record AreUnitNumbers (graphs : List GraphShape) (demands : Demands)
    (shifts : ℕ → ℕ → ℕ → Option Shift) (wanted : ℕ → ℕ → ℕ → ℕ) : Type 0 where
  pub tell : (u : ℕ) (graph : GraphShape) → slice_get graphs u ≡ Some graph
      → TellShifts graph (shifts u)
  pub least : (u : ℕ) (graph : GraphShape) → slice_get graphs u ≡ Some graph
      → AreLeastWantedBy (asked_at demands graph.shared u) graph (shifts u) (wanted u)
