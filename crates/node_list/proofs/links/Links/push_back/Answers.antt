use Rattle.std.proofs.Common.{◌≡◌, ◌+◌, ◌<◌, ◌^◌, ◌++◌, ◌∷◌, [], length, set, take, drop, arith, ap}
use Rattle.node_list.specs.Lists.{Lists, list_at}
use Rattle.node_list.specs.ListedLaws.{none_listed}
use Rattle.node_list.proofs.Counts.{listed_end}
use Rattle.node_list.proofs.Writes.{RingIn, index_fits, ring_in, Refilled, after_end, lists_of}
use Rattle.node_list.proofs.links.Links.push_back.Goals as goal
use Rattle.node_list.proofs.links.Links.push_back.Goals.{After-deref_mut, After-tie_before}

same : (c : After-deref_mut) → lists_of c.self.inside.nodes c.self.inside.lists c.self.inside.next.items ≡ c.args.self.now.lists
same c = ap (λ (l : Lists). l.lists) c.self.view_is

ring : (c : After-deref_mut) → RingIn c.self.inside.nodes c.self.inside.lists c.self.inside.next.items c.args.list
ring c = ring_in c.self.inside.nodes c.self.inside.lists c.self.inside.next.items c.self.inside.prev.items c.self.invariant c.args.self.now c.args.list c.self.view_is c.requires.list

pub overflow_add-self-inside : goal.overflow_add-self-inside
overflow_add-self-inside c =
    let fits : c.self.inside.nodes + c.args.list < 2 ^ 64 =
    index_fits (c.self.inside.nodes + c.args.list) c.self.inside.next.len c.self.inside.next.cap (length c.self.inside.next.items) (ring (goal.at.overflow_add-self-inside c).After-deref_mut).number c.self.inside.next.ok.0 c.self.inside.next.ok.1 c.self.inside.next.small in
    omega arith

pub tie_before-requires-clause-place_in : goal.tie_before-requires-clause-place_in
tie_before-requires-clause-place_in c =
    rw (c.deref_mut-2.ensures.value, c.self.invariant.prev_len, ← c.self.invariant.next_len) (ring (goal.at.tie_before-requires-clause-place_in c).After-deref_mut).number

done : (c : After-tie_before) → Refilled c.self.inside.nodes c.self.inside.lists (set c.args.self.now.lists c.args.list (list_at c.args.self.now.lists c.args.list ++ c.args.node ∷ []))
    (take c.self.inside.next.len (c.tie_before.new.next ++ drop (length c.tie_before.new.next) c.self.inside.next.items)) (take c.self.inside.prev.len (c.tie_before.new.prev ++ drop (length c.tie_before.new.prev) c.self.inside.prev.items))
done c =
    let known = (goal.at.After-tie_before c).After-deref_mut in
    rw (← same known) (after_end c.self.inside.nodes c.self.inside.lists c.self.inside.next.items c.self.inside.prev.items c.tie_before.new.next c.tie_before.new.prev c.self.inside.next.len c.self.inside.prev.len
    c.self.invariant c.self.inside.next.ok.0 c.self.inside.prev.ok.0 c.args.list c.args.node (ring known).low (rw (ap (λ (l : Lists). l.nodes) c.self.view_is) c.requires.in_range)
    (rw (same known) (none_listed c.args.self.now.lists c.args.node c.requires.free))
    (rw (c.deref_mut.ensures.value, c.deref_mut-2.ensures.value) at c.tie_before.ensures.next)
    (rw c.deref_mut-2.ensures.value at c.tie_before.ensures.prev))

pub invariant_of-self : goal.invariant_of-self
invariant_of-self c = (done (goal.at.invariant_of-self c).After-tie_before).held

pub returns-clause-pushed : goal.returns-clause-pushed
returns-clause-pushed c = (done (goal.at.returns-clause-pushed c).After-tie_before).lists_are

pub returns-clause-listed : goal.returns-clause-listed
returns-clause-listed c = rw (done (goal.at.returns-clause-listed c).After-tie_before).lists_are
    (listed_end c.args.self.now.lists c.args.list c.args.node c.requires.list)
