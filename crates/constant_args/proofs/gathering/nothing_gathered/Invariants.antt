use Rattle.std.proofs.Common.{◌≡◌, ℕ, [], Some, false, length, slice_get}
use Rattle.constant_args.specs.declared.gathering.NotedCalls.{NotedCalls}
use Rattle.constant_args.proofs.gathering.nothing_gathered.Given as goal

abbrev pub invariant-loop-made : goal.invariant-loop-made
invariant-loop-made l = record {
  long : length l.noted.items ≡ l.made;
  none : (u : ℕ) (calls : NotedCalls) → slice_get l.noted.items u ≡ Some calls → (calls.called ≡ false) × (calls.arguments.items ≡ []);
}
