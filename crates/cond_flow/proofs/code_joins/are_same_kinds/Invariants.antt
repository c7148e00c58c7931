use Rattle.std.proofs.Common.{◌≡◌, true}
use Rattle.cond_flow.specs.Joining.{SameItems}
use Rattle.cond_flow.proofs.code_joins.are_same_kinds.Given as goal

abbrev pub invariant-loop-i : goal.invariant-loop-i
invariant-loop-i l = l.same ≡ true → SameItems 0 l.kinds l.others l.start l.i
