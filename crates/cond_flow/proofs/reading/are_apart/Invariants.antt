use Rattle.std.proofs.Common.{◌≡◌, ℕ, ◌<◌, slice_get, Some}
use Rattle.cond_flow.specs.Reading.{IsApart}
use Rattle.cond_flow.proofs.reading.are_apart.Given as goal

abbrev pub invariant-loop-i : goal.invariant-loop-i
invariant-loop-i l = (j k : ℕ) → j < l.i → slice_get l.variables j ≡ Some k → IsApart l.graph.shared l.graph.nodes l.list k
