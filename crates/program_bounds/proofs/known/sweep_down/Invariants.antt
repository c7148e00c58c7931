use Rattle.std.proofs.Common.{◌<◌}
use Rattle.program_bounds.specs.Sweeps.{SweepsTo}
use Rattle.program_bounds.specs.Tables.{AreFresh, facts_of}
use Rattle.program_bounds.proofs.known.sweep_down.Given as goal

abbrev pub invariant-loop-unit : goal.invariant-loop-unit
invariant-loop-unit l = record {
  swept : SweepsTo l.graphs.items (λ v. v < l.unit) (facts_of l.initial.tables) (facts_of l.tables) l.raised;
  fresh : AreFresh l.graphs.items l.tables;
}
