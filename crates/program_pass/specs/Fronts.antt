-- The graphs of all units of a program, with clean jumps. Cited by contracts, those of the crates above too.
use Rattle.std.specs.Prelude.{◌≡◌, ℕ, List, length, slice_get, Some}
use Rattle.mir_base.specs.Shapes.{UnitShape}
use Rattle.flow_graph.specs.Graphs.{GraphShape}
use Rattle.flow_graph.specs.Lowered.{IsLowered}
use Rattle.jump_clean.specs.Cleaned.{IsClean}
use Rattle.program_pass.specs.PassPrograms.{LoweredClean}

-- the graph of a unit with clean jumps
abbrev pub IsGraphOf : UnitShape → GraphShape → Type 0
IsGraphOf unit graph = (lowered : GraphShape) × (IsLowered unit lowered × IsClean lowered graph)

-- the graphs of the units
pub record AreGraphsOf (units : List UnitShape) (graphs : List GraphShape) : Type 0 where
  pub long : length graphs ≡ length units
  pub are : (u : ℕ) (unit : UnitShape) (graph : GraphShape) → slice_get units u ≡ Some unit
      → slice_get graphs u ≡ Some graph → IsGraphOf unit graph

-- the graphs of the units, with what they keep
pub record AreFronts (units : List UnitShape) (graphs : List GraphShape) : Type 0 where
  pub long : length graphs ≡ length units
  pub are : (u : ℕ) (unit : UnitShape) (graph : GraphShape) → slice_get units u ≡ Some unit
      → slice_get graphs u ≡ Some graph → (lowered : GraphShape) × LoweredClean unit lowered graph
