use Rattle.std.proofs.Common.{◌-◌, length}
use Rattle.sink_rounds.proofs.RoundsSoFar.{AreSoFar}
use Rattle.sink_rounds.proofs.repeating.rounds.Given as goal

abbrev pub invariant-rounds : goal.invariant-rounds
invariant-rounds l = AreSoFar l.graph l.rounds.items l.last

abbrev pub decreases-rounds : goal.decreases-rounds
decreases-rounds l = 15 - length l.rounds.items
