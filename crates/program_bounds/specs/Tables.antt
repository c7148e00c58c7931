-- What is known over the units of a program, as the code has it. Cited by contracts.
use Rattle.std.specs.Prelude.{ℕ, Bool, List, map}
use Rattle.flow_graph.specs.Graphs.{GraphShape}
use Rattle.unit_callers.specs.Calling.{AreUnitCallers}
use Rattle.cond_flow.specs.States.{Knows}
use Rattle.program_bounds.specs.declared.known.Tables.{Tables}
use Rattle.program_bounds.specs.Facts.{ProgramFacts}
use Rattle.program_bounds.specs.Stale.{FreshAreServed}
use Rattle.program_bounds.specs.Sweeps.{FitTogether, IsProgress, Serves, Sweeps}

-- as the definitions have it
abbrev pub facts_of : Tables → ProgramFacts
facts_of tables = record { entries = tables.entries.items; backs = map Knows tables.backs.items }

-- the units that are not stale are served, and what was made of them is exact
abbrev pub AreFresh : List GraphShape → Tables → Type 0
AreFresh graphs tables =
    FreshAreServed graphs (facts_of tables) tables.stale.items tables.made.items

-- units can be served: their graphs fit together, these are the callers of each, the facts are on the way to the surest,
-- and all units that are not stale are served
pub record CanServe (graphs : List GraphShape) (callers : List (List ℕ)) (tables : Tables)
    : Type 0 where
  pub fit : FitTogether graphs
  pub are_callers : AreUnitCallers graphs callers
  pub progress : IsProgress graphs (facts_of tables)
  pub fresh : AreFresh graphs tables

-- a unit has been served
abbrev pub ServesUnit : List GraphShape → ℕ → (old new : Tables) → Bool → Type 0
ServesUnit graphs u old new raised = Serves graphs u (facts_of old) (facts_of new) raised

-- all units have been
abbrev pub SweepsUnits : List GraphShape → (old new : Tables) → Bool → Type 0
SweepsUnits graphs old new raised = Sweeps graphs (facts_of old) (facts_of new) raised
