use Rattle.std.proofs.Common.{◌≡◌, true, pos}
use Rattle.cond_flow.specs.Joining.{SameItems}
use Rattle.cond_flow.proofs.code_joins.are_same_numbers.Given as goal

abbrev pub invariant-loop-i : goal.invariant-loop-i
invariant-loop-i l = l.same ≡ true → SameItems (pos 0) l.numbers l.others l.start l.i
