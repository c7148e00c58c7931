use Rattle.std.proofs.Common.{◌≡◌, ◌<◌, ℕ, slice_get}
use Rattle.unit_equal.proofs.units.same_items.Given as goal

abbrev pub invariant-loop-n : goal.invariant-loop-n
invariant-loop-n g l = (k : ℕ) → k < l.n → slice_get l.a k ≡ slice_get l.b k
