use Rattle.std.proofs.Common.{get_or}
use Rattle.wanted_bits.proofs.Raising.{RaisedTo}
use Rattle.wanted_bits.proofs.lists.raise_each.Given as goal

abbrev pub invariant-loop-x : goal.invariant-loop-x
invariant-loop-x l = RaisedTo l.initial.bits (λ k. get_or l.others k 0) l.bits l.changed l.x
