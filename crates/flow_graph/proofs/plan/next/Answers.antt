use Rattle.std.proofs.Common.{◌∙◌, ◌-◌, ap, sym, subst, arith, length, reverse, cond, Some}
use Rattle.flow_graph.specs.declared.plan.Item.TheVariants.{Placed, Jump}
use Rattle.flow_graph.specs.Graphs.{IsBelow}
use Rattle.flow_graph.specs.Plans.{after_node}
use Rattle.flow_graph.proofs.Scans.{item_within, follower_within, next_is}
use Rattle.flow_graph.proofs.plan.next.Goals as goal

pub follower-requires : goal.follower-requires
follower-requires c = item_within _ c.args.items.now (length c.args.items.now - 1) c.in-Some.item.now c.requires.items (sym c.in-Some.ensures.value)

pub go_on-requires : goal.go_on-requires
go_on-requires c =
    let lt : IsBelow (length c.args.nodes.now) (Some c.in-Some-follower.node) = subst (IsBelow (length c.args.nodes.now)) (sym c.in-Some-follower.ensures) (follower_within c.args.nodes.now c.in-Some.item.now c.requires.within) in
    omega (arith, lt, c.requires.placed.long)

pub returns-in-Some-follower-clause-item : goal.returns-in-Some-follower-clause-item
returns-in-Some-follower-clause-item c =
    let n = c.in-Some-follower.node in
    let plan = reverse c.args.items.now in
    let lt : IsBelow (length c.args.nodes.now) (Some n) = subst (IsBelow (length c.args.nodes.now)) (sym c.in-Some-follower.ensures) (follower_within c.args.nodes.now c.in-Some.item.now c.requires.within) in
    let e = ap Some (c.go_on.ensures ∙ ap (λ b. cond b (Jump n) (Placed n)) (c.requires.placed.are n lt)) ∙ ap (after_node c.args.nodes.now plan) c.in-Some-follower.ensures in
    next_is c.args.nodes.now c.args.first c.args.items.now c.in-Some.item.now _ (sym c.in-Some.ensures.value) e
