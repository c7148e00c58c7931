use Rattle.path_laws.specs.Problem.{orders}
use Rattle.path_laws.proofs.RowsPassed.{IsThrough}
use Rattle.path_laws.proofs.summaries.seed_of.Given as goal

abbrev pub invariant-loop-place : goal.invariant-loop-place
invariant-loop-place l = IsThrough l.problem (orders l.problem l.block) l.place l.row
