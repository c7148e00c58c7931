use Rattle.path_laws.specs.Problem.{bars_in, orders}
use Rattle.path_laws.proofs.RowsPassed.{AreStoppedTo}
use Rattle.path_laws.proofs.summaries.push_barred_by.Given as goal

abbrev pub invariant-loop-place : goal.invariant-loop-place
invariant-loop-place l = AreStoppedTo l.block l.problem.bits (orders l.problem) (bars_in l.problem) l.place l.stops
