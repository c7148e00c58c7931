use Rattle.std.proofs.Common.{◌≡◌, ◌<◌, not, eqb, length, get_or, arith, ap, ◌∙◌}
use Rattle.std.proofs.lemmas.List.{get_or_read}
use Rattle.node_list.specs.Lists.{Lists, is_listed}
use Rattle.node_list.specs.ListedLaws.{some_listed}
use Rattle.node_list.proofs.Writes.{lists_of, tells}
use Rattle.node_list.proofs.links.Links.is_listed.Goals as goal

pub returns-clause-listed : goal.returns-clause-listed
returns-clause-listed c =
    let low : c.args.node < c.self.inside.nodes = rw (ap (λ (l : Lists). l.nodes) c.self.view_is) c.requires in
    let within : c.args.node < length c.self.inside.next.items = rw c.self.invariant.next_len (omega arith) in
    let read : c.index.result.now ≡ get_or c.self.inside.next.items c.args.node 0 = get_or_read c.self.inside.next.items c.args.node c.index.result.now within c.index.ensures 0 in
    ap (λ k. not (eqb k c.args.node)) read
    ∙ tells c.self.inside.nodes c.self.inside.lists c.self.inside.next.items c.self.inside.prev.items c.self.invariant c.args.node low
    ∙ ap (λ (l : Lists). is_listed l.lists c.args.node) c.self.view_is

pub returns-clause-once : goal.returns-clause-once
returns-clause-once c = let same : lists_of c.self.inside.nodes c.self.inside.lists c.self.inside.next.items ≡ c.args.self.now.lists = ap (λ (l : Lists). l.lists) c.self.view_is in rw (← same) c.self.invariant.linked.once

pub returns-clause-in_range : goal.returns-clause-in_range
returns-clause-in_range c =
    λ n h.
    let same : lists_of c.self.inside.nodes c.self.inside.lists c.self.inside.next.items ≡ c.args.self.now.lists = ap (λ (l : Lists). l.lists) c.self.view_is in
    let low : n < c.self.inside.nodes = c.self.invariant.linked.within n (rw same (some_listed c.args.self.now.lists n h)) in
    rw (← ap (λ (l : Lists). l.nodes) c.self.view_is) low
