use Rattle.std.proofs.Common.{◌≡◌, ◌<◌, ◌++◌, length, map, take, drop, ap}
use Rattle.node_list.specs.Lists.{Lists, times, without}
use Rattle.node_list.specs.ListedLaws.{some_listed}
use Rattle.node_list.proofs.Counts.{listed_cut}
use Rattle.node_list.proofs.Writes.{Refilled, InRange, after_cut, lists_of, link_in}
use Rattle.node_list.proofs.links.Links.unlink.Goals as goal
use Rattle.node_list.proofs.links.Links.unlink.Goals.{After-deref_mut, After-untie}

same : (c : After-deref_mut) → lists_of c.self.inside.nodes c.self.inside.lists c.self.inside.next.items ≡ c.args.self.now.lists
same c = ap (λ (l : Lists). l.lists) c.self.view_is

listed : (c : After-deref_mut) → 0 < times (lists_of c.self.inside.nodes c.self.inside.lists c.self.inside.next.items) c.args.node
listed c = rw (same c) (some_listed c.args.self.now.lists c.args.node c.requires)

within : (c : After-deref_mut) → InRange (length c.self.inside.prev.items) c.self.inside.next.items c.self.inside.prev.items c.args.node
within c = link_in c.self.inside.nodes c.self.inside.lists c.self.inside.next.items c.self.inside.prev.items c.self.invariant c.args.node (listed c)

pub untie-requires-clause-next_in : goal.untie-requires-clause-next_in
untie-requires-clause-next_in c = rw (c.deref_mut.ensures.value, c.deref_mut-2.ensures.value) (within (goal.at.untie-requires-clause-next_in c).After-deref_mut).next

pub untie-requires-clause-prev_in : goal.untie-requires-clause-prev_in
untie-requires-clause-prev_in c = rw c.deref_mut-2.ensures.value (within (goal.at.untie-requires-clause-prev_in c).After-deref_mut).prev

done : (c : After-untie) → Refilled c.self.inside.nodes c.self.inside.lists (map (without c.args.node) c.args.self.now.lists)
    (take c.self.inside.next.len (c.untie.new.next ++ drop (length c.untie.new.next) c.self.inside.next.items)) (take c.self.inside.prev.len (c.untie.new.prev ++ drop (length c.untie.new.prev) c.self.inside.prev.items))
done c =
    let known = (goal.at.After-untie c).After-deref_mut in
    rw (← same known) (after_cut c.self.inside.nodes c.self.inside.lists c.self.inside.next.items c.self.inside.prev.items c.untie.new.next c.untie.new.prev c.self.inside.next.len c.self.inside.prev.len
    c.self.invariant c.self.inside.next.ok.0 c.self.inside.prev.ok.0 c.args.node (listed known)
    (rw (c.deref_mut.ensures.value, c.deref_mut-2.ensures.value) at c.untie.ensures.next)
    (rw (c.deref_mut.ensures.value, c.deref_mut-2.ensures.value) at c.untie.ensures.prev))

pub invariant_of-self : goal.invariant_of-self
invariant_of-self c = (done (goal.at.invariant_of-self c).After-untie).held

pub returns-clause-unlinked : goal.returns-clause-unlinked
returns-clause-unlinked c = (done (goal.at.returns-clause-unlinked c).After-untie).lists_are

pub returns-clause-listed : goal.returns-clause-listed
returns-clause-listed c = rw (done (goal.at.returns-clause-listed c).After-untie).lists_are (listed_cut c.args.self.now.lists c.args.node)
