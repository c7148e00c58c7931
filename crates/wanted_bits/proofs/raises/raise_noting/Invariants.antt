use Rattle.std.proofs.Common.{get_or}
use Rattle.wanted_bits.specs.NewsShapes.{KeepsRaised}
use Rattle.wanted_bits.proofs.Raising.{RaisedTo}
use Rattle.wanted_bits.proofs.raises.raise_noting.Given as goal

abbrev pub invariant-loop-x : goal.invariant-loop-x
invariant-loop-x l = record {
  raised : RaisedTo l.initial.bits (λ k. get_or l.others k 0) l.bits l.changed l.x;
  keeps : KeepsRaised l.initial.news l.initial.bits l.news l.bits;
}
