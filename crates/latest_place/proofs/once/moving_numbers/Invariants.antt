use Rattle.latest_place.proofs.once.moving_numbers.Given as goal
use Rattle.latest_place.proofs.Moving.{AreListedTo}

abbrev pub invariant-loop-number : goal.invariant-loop-number
invariant-loop-number l = AreListedTo l.seen.items l.number l.numbers.items
