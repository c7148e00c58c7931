use Rattle.constant_args.specs.Gathered.{AreNotedBefore}
use Rattle.constant_args.proofs.gathering.note_calls.Given as goal

abbrev pub invariant-loop-n : goal.invariant-loop-n
invariant-loop-n l = AreNotedBefore l.graphs.items l.unit l.n l.noted.items
