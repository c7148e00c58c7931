use Rattle.std.proofs.Common.{◌≡◌, map}
use Rattle.mir_base.specs.Frames.{shared_vars}
use Rattle.wanted_bits.specs.Asks.{kept_bits}
use Rattle.wanted_bits.specs.Walking.{bits_at}
use Rattle.wanted_bits.proofs.asks.handed_back.Given as goal

abbrev pub invariant-loop-x : goal.invariant-loop-x
invariant-loop-x l = l.widths ≡ map (kept_bits l.into (bits_at l.bits)) (shared_vars l.x)
