use Rattle.std.proofs.Common.{◌≡◌, length}
use Rattle.cond_flow.proofs.rewriting.skips.Given as goal

abbrev pub invariant-loop-n : goal.invariant-loop-n
invariant-loop-n l = length l.skips.items ≡ l.n
