use Rattle.std.proofs.Common.{◌≡◌, None, replicate}
use Rattle.wanted_bits.proofs.kept.none_asked.Given as goal

abbrev pub invariant-loop-made : goal.invariant-loop-made
invariant-loop-made l = l.asks.items ≡ replicate l.made None
