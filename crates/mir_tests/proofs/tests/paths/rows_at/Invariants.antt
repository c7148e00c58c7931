use Rattle.std.proofs.Common.{length}
use Rattle.path_laws.specs.Paths.{AreRows}
use Rattle.mir_tests.proofs.tests.paths.rows_at.Given as goal

abbrev pub invariant-loop-word : goal.invariant-loop-word
invariant-loop-word l = AreRows (length l.graph.nodes) 1 l.rows
