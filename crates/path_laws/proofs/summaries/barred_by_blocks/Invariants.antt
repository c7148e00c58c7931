use Rattle.path_laws.specs.Problem.{HaveBarred}
use Rattle.path_laws.proofs.summaries.barred_by_blocks.Given as goal

abbrev pub invariant-loop-block : goal.invariant-loop-block
invariant-loop-block l = HaveBarred l.problem l.block l.stops
