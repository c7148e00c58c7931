use Rattle.std.proofs.Common.{◌≡◌, ◌++◌, drop}
use Rattle.wanted_bits.specs.Asking.{argument_at}
use Rattle.wanted_bits.specs.Narrowed.{all_handed}
use Rattle.wanted_bits.proofs.narrowing.handed_over.Given as goal

abbrev pub invariant-loop-i : goal.invariant-loop-i
invariant-loop-i l = l.made.items ++ all_handed (argument_at l.around l.unit) l.i (drop l.i l.operands) ≡ all_handed (argument_at l.around l.unit) 0 l.operands
