use Rattle.value_number.specs.Candidates.{Cover, candidate_count}
use Rattle.value_number.proofs.numbers.least.Given as goal

abbrev pub invariant-loop-candidates : goal.invariant-loop-candidates
invariant-loop-candidates l = Cover l.numbers l.number l.candidates

abbrev pub decreases-loop-candidates : goal.decreases-loop-candidates
decreases-loop-candidates l = candidate_count l.candidates
