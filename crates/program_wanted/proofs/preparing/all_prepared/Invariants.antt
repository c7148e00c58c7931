use Rattle.program_wanted.specs.Preparing.{ArePreparedBelow}
use Rattle.program_wanted.proofs.preparing.all_prepared.Given as goal

abbrev pub invariant-loop-unit : goal.invariant-loop-unit
invariant-loop-unit l = ArePreparedBelow l.graphs.items l.unit l.all.items
