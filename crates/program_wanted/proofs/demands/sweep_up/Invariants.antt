use Rattle.std.proofs.Common.{◌<◌, ◌≤◌, ◌+◌, length}
use Rattle.program_wanted.specs.Serving.{IsServing}
use Rattle.program_wanted.specs.Sweeps.{SweepsTo}
use Rattle.program_wanted.specs.Tables.{demands_of}
use Rattle.program_wanted.proofs.demands.sweep_up.Given as goal

abbrev pub invariant-loop-count : goal.invariant-loop-count
invariant-loop-count l = record {
  swept : SweepsTo l.graphs.items (λ v. (v < length l.graphs.items) × (length l.graphs.items ≤ v + l.count)) (demands_of l.initial.tables) (demands_of l.tables) l.raised;
  serving : IsServing l.graphs.items (demands_of l.tables) l.stale.items l.asks.items;
}
