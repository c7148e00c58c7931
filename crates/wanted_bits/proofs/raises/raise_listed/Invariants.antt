use Rattle.std.proofs.Common.{◌≡◌, ◌↔◌, drop, false}
use Rattle.wanted_bits.specs.NewsShapes.{KeepsRaised}
use Rattle.wanted_bits.specs.Touching.{raised_bits}
use Rattle.wanted_bits.specs.WalkLaws.{FewerEach}
use Rattle.wanted_bits.proofs.raises.raise_listed.Given as goal

abbrev pub invariant-loop-i : goal.invariant-loop-i
invariant-loop-i l = record {
  raised : raised_bits l.others (drop l.i l.variables) l.bits ≡ raised_bits l.others l.variables l.initial.bits;
  above : FewerEach l.initial.bits l.bits;
  tells : (l.changed ≡ false) ↔ (l.bits ≡ l.initial.bits);
  keeps : KeepsRaised l.initial.news l.initial.bits l.news l.bits;
}
