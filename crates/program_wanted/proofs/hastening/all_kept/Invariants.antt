use Rattle.program_wanted.specs.Hastening.{AreKeptBelow}
use Rattle.program_wanted.proofs.hastening.all_kept.Given as goal

abbrev pub invariant-loop-unit : goal.invariant-loop-unit
invariant-loop-unit l = AreKeptBelow l.graphs.items l.prepared.items l.unit l.all.items
