use Rattle.std.proofs.Common.{false, replicate, sym, ap, ◌∙◌, subst}
use Rattle.unread_div.specs.Flags.{NoDivision, TellDeadDivisions}
use Rattle.unread_div.proofs.Flagging.{none_divides}
use Rattle.unread_div.proofs.dead.dead_divisions.Goals as goal

pub returns-in_ok-none : goal.returns-in_ok-none
returns-in_ok-none c =
    let graph = c.args.graph.now in
    subst (TellDeadDivisions graph) (sym (c.in_ok-none.ensures.items_if_clones_equal (λ y e. e) ∙ ap (λ k. replicate k false) c.len.ensures))
    (none_divides graph (subst NoDivision c.nodes.ensures.value (c.has_division.ensures c.if-has_division.false)))
