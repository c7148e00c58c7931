use Rattle.program_wanted.specs.Serving.{IsServing}
use Rattle.program_wanted.specs.Sweeps.{demands_room}
use Rattle.program_wanted.specs.Tables.{demands_of}
use Rattle.program_wanted.proofs.demands.sweep_on.Given as goal

abbrev pub invariant-loop-stale : goal.invariant-loop-stale
invariant-loop-stale l = IsServing l.graphs.items (demands_of l.tables) l.stale.items l.asks.items

abbrev pub decreases-loop-stale : goal.decreases-loop-stale
decreases-loop-stale l = demands_room (demands_of l.tables)
