-- What holds while units are served, one after another. Cited by contracts of private functions.
use Rattle.std.specs.Prelude.{ℕ, Bool, List}
use Rattle.flow_graph.specs.Graphs.{GraphShape}
use Rattle.unit_callers.specs.Calling.{AreUnitCallers}
use Rattle.wanted_bits.specs.declared.preparing.Prepared.{Prepared}
use Rattle.program_wanted.specs.declared.raising.UnitAsks.{UnitAsks}
use Rattle.program_wanted.specs.Demands.{Demands}
use Rattle.program_wanted.specs.Preparing.{AreAskLists, ArePrepared}
use Rattle.program_wanted.specs.Stale.{FreshAreServed}
use Rattle.program_wanted.specs.Sweeps.{FitTogether, IsProgress}

-- what stays while units are served: they fit together, and so much is made of them and known of who calls them
pub record CanServe (graphs : List GraphShape) (ready : List Prepared) (calling : List (List ℕ))
    : Type 0 where
  pub fit : FitTogether graphs
  pub prepared : ArePrepared graphs ready
  pub callers : AreUnitCallers graphs calling

-- and what changes: the demands are on the way to the least, all units but the stale ones are served by them, and each
-- has room for what it asks for
pub record IsServing (graphs : List GraphShape) (demands : Demands) (stale : List Bool)
    (lists : List UnitAsks) : Type 0 where
  pub progress : IsProgress graphs demands
  pub fresh : FreshAreServed graphs demands stale
  pub asks : AreAskLists graphs lists
