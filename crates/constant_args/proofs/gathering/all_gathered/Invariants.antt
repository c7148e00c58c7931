use Rattle.constant_args.specs.Gathered.{AreNotedBefore}
use Rattle.constant_args.proofs.gathering.all_gathered.Given as goal

abbrev pub invariant-loop-unit : goal.invariant-loop-unit
invariant-loop-unit l = AreNotedBefore l.graphs.items l.unit 0 l.noted.items
