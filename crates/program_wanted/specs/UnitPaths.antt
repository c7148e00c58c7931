-- That no path through a unit is dearer once it is narrowed. Cited by contracts.
use Rattle.std.specs.Prelude.{◌≡◌, ℕ, List, slice_get, Some}
use Rattle.mir_base.specs.Shapes.{ProgramShape}
use Rattle.flow_graph.specs.Graphs.{GraphShape}
use Rattle.flow_graph.specs.Passes.{GraphCheaper}
use Rattle.wanted_bits.specs.NarrowedPaths.{KeepsPaths}
use Rattle.program_wanted.specs.NarrowedUnits.{AreNarrowedUnits}

-- The two graphs have the same paths from Start to a Return, and on none does the second evaluate more operators; nor
-- does it from one entry, with the same answers to its calls
pub record HasNoDearer (graph narrowed : GraphShape) : Type 0 where
  pub paths : KeepsPaths graph narrowed
  pub cheaper : GraphCheaper graph narrowed

-- so it is of each unit
pub record ProgramPathsKept (source target : ProgramShape) : Type 0 where
  pub graphs : List GraphShape
  pub narrowed : List GraphShape
  pub units : AreNarrowedUnits source target graphs narrowed
  pub paths : (u : ℕ) (graph made : GraphShape) → slice_get graphs u ≡ Some graph
      → slice_get narrowed u ≡ Some made → HasNoDearer graph made
