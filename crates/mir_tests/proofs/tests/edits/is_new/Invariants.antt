use Rattle.std.proofs.Common.{ℕ, ◌<◌, ◌≢◌, slice_get, Some}
use Rattle.mir_tests.proofs.tests.edits.is_new.Given as goal

abbrev pub invariant-loop-n : goal.invariant-loop-n
invariant-loop-n l = (i : ℕ) → i < l.n → slice_get l.names i ≢ Some l.name
