use Rattle.std.proofs.Common.{◌≡◌, drop}
use Rattle.wanted_bits.specs.Asking.{argument_at}
use Rattle.wanted_bits.specs.Walking.{among_raised}
use Rattle.wanted_bits.proofs.walking.enter_arguments.Given as goal

abbrev pub invariant-loop-i : goal.invariant-loop-i
invariant-loop-i l = among_raised (argument_at l.around l.unit) l.i (drop l.i l.operands) l.bits ≡ among_raised (argument_at l.around l.unit) 0 l.operands l.initial.bits
