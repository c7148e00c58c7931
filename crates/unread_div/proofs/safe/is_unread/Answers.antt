use Rattle.std.proofs.Common.{◌∙◌, sym}
use Rattle.unread_div.proofs.Flagging.{unread_says}
use Rattle.unread_div.proofs.safe.is_unread.Goals as goal

pub returns-in_ok-never-in-Some : goal.returns-in_ok-never-in-Some
returns-in_ok-never-in-Some c =
    unread_says c.args.graph.now c.args.n c.node.result.now c.in-Some.b c.in_ok-never-in-Some.never c.node.ensures
    (sym c.divisor_in.ensures ∙ c.in-Some.is) (c.requires.dead.0 c.if-dead.true) c.in_ok-never-in-Some.ensures
