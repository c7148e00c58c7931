use Rattle.std.proofs.Common.{◌≡◌, length}
use Rattle.cond_flow.proofs.telling.nothing.Given as goal

abbrev pub invariant-loop : goal.invariant-loop
invariant-loop g l = length l.all.items ≡ l.counter
