use Rattle.std.proofs.Common.{◌≡◌, drop, length}
use Rattle.wanted_bits.specs.Touching.{taken_bits}
use Rattle.wanted_bits.proofs.raises.take_listed.Given as goal

abbrev pub invariant-loop-i : goal.invariant-loop-i
invariant-loop-i l = record {
  long : length l.bits ≡ length l.initial.bits;
  taken : taken_bits l.others (drop l.i l.variables) l.bits ≡ taken_bits l.others l.variables l.initial.bits;
}
