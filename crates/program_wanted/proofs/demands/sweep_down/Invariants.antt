use Rattle.std.proofs.Common.{◌<◌}
use Rattle.program_wanted.specs.Serving.{IsServing}
use Rattle.program_wanted.specs.Sweeps.{SweepsTo}
use Rattle.program_wanted.specs.Tables.{demands_of}
use Rattle.program_wanted.proofs.demands.sweep_down.Given as goal

abbrev pub invariant-loop-unit : goal.invariant-loop-unit
invariant-loop-unit l = record {
  swept : SweepsTo l.graphs.items (λ v. v < l.unit) (demands_of l.initial.tables) (demands_of l.tables) l.raised;
  serving : IsServing l.graphs.items (demands_of l.tables) l.stale.items l.asks.items;
}
