use Rattle.unread_div.specs.Flags.{AreFlagsBelow}
use Rattle.unread_div.specs.Unread.{IsDeadDivision}
use Rattle.unread_div.proofs.dead.dead_by.Given as goal

abbrev pub invariant-loop-n : goal.invariant-loop-n
invariant-loop-n l = AreFlagsBelow (IsDeadDivision l.graph) l.n l.dead.items
