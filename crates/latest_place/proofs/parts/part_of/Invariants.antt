use Rattle.std.proofs.Common.{◌≡◌, ◌<◌, ℕ, length, slice_get, Some}
use Rattle.latest_place.proofs.parts.part_of.Given as goal

abbrev pub invariant-loop-k : goal.invariant-loop-k
invariant-loop-k l = record {
  long : length l.exprs.items ≡ l.k;
  each : (k i : ℕ) → k < l.k → slice_get l.numbers k ≡ Some i → slice_get l.exprs.items k ≡ slice_get l.table i;
}
