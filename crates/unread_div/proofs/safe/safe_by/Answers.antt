use Rattle.unread_div.specs.Unread.{IsUnreadAt}
use Rattle.unread_div.proofs.Flagging.{flags_more}
use Rattle.unread_div.proofs.safe.safe_by.Goals as goal

pub loop-n-preserved : goal.loop-n-preserved
loop-n-preserved c =
    flags_more (IsUnreadAt c.args.graph.now) c.loop-n.n c.in_ok-is_unread.field-0 c.loop-n.flags.items c.push.new.self.items
    c.in_ok-is_unread.ensures c.in_ok-push.ensures.items c.loop-n.invariant
