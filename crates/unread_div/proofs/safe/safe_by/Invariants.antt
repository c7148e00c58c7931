use Rattle.unread_div.specs.Flags.{AreFlagsBelow}
use Rattle.unread_div.specs.Unread.{IsUnreadAt}
use Rattle.unread_div.proofs.safe.safe_by.Given as goal

abbrev pub invariant-loop-n : goal.invariant-loop-n
invariant-loop-n l = AreFlagsBelow (IsUnreadAt l.graph) l.n l.flags.items
