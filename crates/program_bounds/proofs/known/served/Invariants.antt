use Rattle.program_bounds.specs.Sweeps.{IsProgress, facts_room}
use Rattle.program_bounds.specs.Tables.{AreFresh, facts_of}
use Rattle.program_bounds.proofs.known.served.Given as goal

abbrev pub invariant-loop-tables : goal.invariant-loop-tables
invariant-loop-tables l = record {
  progress : IsProgress l.graphs.items (facts_of l.tables);
  fresh : AreFresh l.graphs.items l.tables;
}

abbrev pub decreases-loop-tables : goal.decreases-loop-tables
decreases-loop-tables l = facts_room (facts_of l.tables)
