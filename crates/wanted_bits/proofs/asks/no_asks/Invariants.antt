use Rattle.std.proofs.Common.{◌≡◌, length}
use Rattle.wanted_bits.proofs.asks.no_asks.Given as goal

abbrev pub invariant-loop-made : goal.invariant-loop-made
invariant-loop-made l = length l.asks.items ≡ l.made
