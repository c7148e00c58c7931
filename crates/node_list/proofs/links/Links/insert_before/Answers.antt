use Rattle.std.proofs.Common.{◌≡◌, ◌<◌, ◌++◌, length, map, take, drop, ap}
use Rattle.node_list.specs.Lists.{Lists, times, inserted_before}
use Rattle.node_list.specs.ListedLaws.{none_listed, some_listed}
use Rattle.node_list.proofs.Counts.{listed_put}
use Rattle.node_list.proofs.Writes.{Refilled, after_middle, lists_of, link_in}
use Rattle.node_list.proofs.links.Links.insert_before.Goals as goal
use Rattle.node_list.proofs.links.Links.insert_before.Goals.{After-deref_mut, After-tie_before}

same : (c : After-deref_mut) → lists_of c.self.inside.nodes c.self.inside.lists c.self.inside.next.items ≡ c.args.self.now.lists
same c = ap (λ (l : Lists). l.lists) c.self.view_is

listed : (c : After-deref_mut) → 0 < times (lists_of c.self.inside.nodes c.self.inside.lists c.self.inside.next.items) c.args.node
listed c = rw (same c) (some_listed c.args.self.now.lists c.args.node c.requires.node)

pub tie_before-requires-clause-prev_in : goal.tie_before-requires-clause-prev_in
tie_before-requires-clause-prev_in c =
    rw c.deref_mut-2.ensures.value
    (link_in c.self.inside.nodes c.self.inside.lists c.self.inside.next.items c.self.inside.prev.items c.self.invariant c.args.node (listed (goal.at.tie_before-requires-clause-prev_in c).After-deref_mut)).prev

done : (c : After-tie_before) → Refilled c.self.inside.nodes c.self.inside.lists (map (inserted_before c.args.node c.args.new) c.args.self.now.lists)
    (take c.self.inside.next.len (c.tie_before.new.next ++ drop (length c.tie_before.new.next) c.self.inside.next.items)) (take c.self.inside.prev.len (c.tie_before.new.prev ++ drop (length c.tie_before.new.prev) c.self.inside.prev.items))
done c =
    let known = (goal.at.After-tie_before c).After-deref_mut in
    rw (← same known) (after_middle c.self.inside.nodes c.self.inside.lists c.self.inside.next.items c.self.inside.prev.items c.tie_before.new.next c.tie_before.new.prev c.self.inside.next.len c.self.inside.prev.len
    c.self.invariant c.self.inside.next.ok.0 c.self.inside.prev.ok.0 c.args.node c.args.new (listed known) (rw (ap (λ (l : Lists). l.nodes) c.self.view_is) c.requires.in_range)
    (rw (same known) (none_listed c.args.self.now.lists c.args.new c.requires.free))
    (rw (c.deref_mut.ensures.value, c.deref_mut-2.ensures.value) at c.tie_before.ensures.next)
    (rw c.deref_mut-2.ensures.value at c.tie_before.ensures.prev))

pub invariant_of-self : goal.invariant_of-self
invariant_of-self c = (done (goal.at.invariant_of-self c).After-tie_before).held

pub returns-clause-inserted : goal.returns-clause-inserted
returns-clause-inserted c = (done (goal.at.returns-clause-inserted c).After-tie_before).lists_are

pub returns-clause-listed : goal.returns-clause-listed
returns-clause-listed c = rw (done (goal.at.returns-clause-listed c).After-tie_before).lists_are
    (listed_put c.args.self.now.lists c.args.node c.args.new (some_listed c.args.self.now.lists c.args.node c.requires.node) (none_listed c.args.self.now.lists c.args.new c.requires.free))
