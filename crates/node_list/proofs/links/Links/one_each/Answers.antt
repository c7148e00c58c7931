use Rattle.std.proofs.Common.{List, ℕ, length, ap, subst, sym, ◌∙◌}
use Rattle.node_list.specs.Lists.{is_listed, list_at}
use Rattle.node_list.specs.Rings.{HoldLinks}
use Rattle.node_list.proofs.Own.{own_from, own_length, own_list, own_listed, own_refilled}
use Rattle.node_list.proofs.Writes.{Refilled}
use Rattle.node_list.proofs.links.Links.one_each.Goals as goal
use Rattle.node_list.proofs.links.Links.one_each.Goals.{In_ok-prev}

refilled : (c : In_ok-prev) → Refilled c.args.nodes c.args.lists (own_from 0 c.args.lists) c.in_ok-next.next.items c.in_ok-next.next.items
refilled c = own_refilled c.args.nodes c.args.lists c.in_ok-next.next.items c.requires c.in_ok-next.ensures

pub invariant_of-result : goal.invariant_of-result
invariant_of-result c =
    let links = refilled (goal.at.invariant_of-result c).In_ok-prev in
    subst (HoldLinks c.args.nodes c.args.lists c.in_ok-next.next.items) (sym (c.in_ok-prev.ensures.items ∙ c.as_slice.ensures.value)) links.held

pub returns-clause-count : goal.returns-clause-count
returns-clause-count c =
    let links = refilled (goal.at.returns-clause-count c).In_ok-prev in
    ap (λ (l : List (List ℕ)). length l) links.lists_are ∙ own_length c.args.lists

pub returns-clause-each : goal.returns-clause-each
returns-clause-each c = λ s lt.
    let links = refilled (goal.at.returns-clause-each c).In_ok-prev in
    ap (λ (l : List (List ℕ)). list_at l s) links.lists_are ∙ own_list c.args.lists s lt

pub returns-clause-listed : goal.returns-clause-listed
returns-clause-listed c = λ n.
    let links = refilled (goal.at.returns-clause-listed c).In_ok-prev in
    ap (λ (l : List (List ℕ)). is_listed l n) links.lists_are ∙ own_listed c.args.lists n
