use Rattle.std.proofs.Common.{◌<◌, ◌≤◌, ◌+◌, length}
use Rattle.program_bounds.specs.Sweeps.{SweepsTo}
use Rattle.program_bounds.specs.Tables.{AreFresh, facts_of}
use Rattle.program_bounds.proofs.known.sweep_up.Given as goal

abbrev pub invariant-loop-count : goal.invariant-loop-count
invariant-loop-count l = record {
  swept : SweepsTo l.graphs.items (λ v. (v < length l.graphs.items) × (length l.graphs.items ≤ v + l.count)) (facts_of l.initial.tables) (facts_of l.tables) l.raised;
  fresh : AreFresh l.graphs.items l.tables;
}
