use Rattle.std.proofs.Common.{◌-◌}
use Rattle.sink_rounds.proofs.RoundsSoFar.{AreBefore}
use Rattle.sink_rounds.proofs.repeating.last_of_rounds.Given as goal

abbrev pub invariant-rounds : goal.invariant-rounds
invariant-rounds l = AreBefore l.fn.graph l.before l.last

abbrev pub decreases-rounds : goal.decreases-rounds
decreases-rounds l = 15 - l.before
