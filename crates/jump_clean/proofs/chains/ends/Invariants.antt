use Rattle.std.proofs.Common.{◌≡◌, ℕ, ◌<◌, ◌≤◌, length, slice_index_or}
use Rattle.jump_clean.specs.Chains.{IsEnd}
use Rattle.jump_clean.specs.Following.{AreFound}
use Rattle.jump_clean.proofs.chains.ends.Given as goal

abbrev pub invariant-loop-n : goal.invariant-loop-n
invariant-loop-n l = record {
  found : AreFound l.nodes l.found.items;
  long : length l.ends.items ≡ l.n;
  within : l.n ≤ length l.nodes;
  are : (k : ℕ) → k < l.n → IsEnd l.nodes k (slice_index_or l.ends.items k 0);
}
