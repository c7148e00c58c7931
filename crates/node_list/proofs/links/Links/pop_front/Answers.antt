use Rattle.std.proofs.Common.{◌≡◌, ℕ, ◌+◌, ◌<◌, ◌≤◌, ◌^◌, ◌++◌, ◌∷◌, List, length, map, take, drop, get_or, arith, ap, ◌∙◌, refl}
use Rattle.std.proofs.lemmas.List.{get_or_read}
use Rattle.node_list.specs.Lists.{Lists, list_at, times_in, times, without}
use Rattle.node_list.proofs.Counts.{listed_cut, times_in_cons_same, times_in_le}
use Rattle.node_list.proofs.Writes.{RingIn, index_fits, ring_in, Refilled, InRange, PopsFirst, after_cut, leads_first, leads_none, link_in, lists_of, pops_first}
use Rattle.node_list.proofs.links.Links.pop_front.Goals as goal
use Rattle.node_list.proofs.links.Links.pop_front.Goals.{After-self, After-index-node, After-untie, Then-node-self}

same : (c : After-self) → lists_of c.self.inside.nodes c.self.inside.lists c.self.inside.next.items ≡ c.args.self.now.lists
same c = ap (λ (l : Lists). l.lists) c.self.view_is

ring : (c : After-self) → RingIn c.self.inside.nodes c.self.inside.lists c.self.inside.next.items c.args.list
ring c = ring_in c.self.inside.nodes c.self.inside.lists c.self.inside.next.items c.self.inside.prev.items c.self.invariant c.args.self.now c.args.list c.self.view_is c.requires

pub overflow_add-self-inside : goal.overflow_add-self-inside
overflow_add-self-inside c =
    let fits : c.self.inside.nodes + c.args.list < 2 ^ 64 =
    index_fits (c.self.inside.nodes + c.args.list) c.self.inside.next.len c.self.inside.next.cap (length c.self.inside.next.items) (ring (goal.at.overflow_add-self-inside c).After-self).number c.self.inside.next.ok.0 c.self.inside.next.ok.1 c.self.inside.next.small in
    omega arith

pub index-node-requires : goal.index-node-requires
index-node-requires c = rw c.self.inside.next.ok.0 (ring (goal.at.index-node-requires c).After-self).number

node_is : (c : After-index-node) → c.index-node.result.now ≡ get_or c.self.inside.next.items (c.self.inside.nodes + c.args.list) 0
node_is c = get_or_read c.self.inside.next.items (c.self.inside.nodes + c.args.list) c.index-node.result.now (ring (goal.at.After-index-node c).After-self).number c.index-node.ensures 0

-- the node stands in the list, at its front
first : (c : Then-node-self) → (rest : List ℕ) × (list_at (lists_of c.self.inside.nodes c.self.inside.lists c.self.inside.next.items) c.args.list ≡ c.index-node.result.now ∷ rest)
first c =
    let known = (goal.at.Then-node-self c).After-index-node in
    rw (node_is known) (leads_first c.self.inside.nodes c.self.inside.lists c.self.inside.next.items c.self.inside.prev.items c.self.invariant c.args.list (ring (goal.at.Then-node-self c).After-self).low
    (rw (node_is known) at c.if-node-self.true))

listed : (c : Then-node-self) → 0 < times (lists_of c.self.inside.nodes c.self.inside.lists c.self.inside.next.items) c.index-node.result.now
listed c =
    let lists = lists_of c.self.inside.nodes c.self.inside.lists c.self.inside.next.items in
    let node = c.index-node.result.now in
    let here : times_in node (list_at lists c.args.list) ≡ 1 + times_in node (first c).0 = ap (times_in node) (first c).1 ∙ times_in_cons_same node (first c).0 in
    let le : times_in node (list_at lists c.args.list) ≤ times lists node = times_in_le lists c.args.list node in
    omega arith

within : (c : Then-node-self) → InRange (length c.self.inside.prev.items) c.self.inside.next.items c.self.inside.prev.items c.index-node.result.now
within c = link_in c.self.inside.nodes c.self.inside.lists c.self.inside.next.items c.self.inside.prev.items c.self.invariant c.index-node.result.now (listed c)

pub untie-requires-clause-next_in : goal.untie-requires-clause-next_in
untie-requires-clause-next_in c = rw (c.deref_mut.ensures.value, c.deref_mut-then-node-self.ensures.value) (within (goal.at.untie-requires-clause-next_in c).Then-node-self).next

pub untie-requires-clause-prev_in : goal.untie-requires-clause-prev_in
untie-requires-clause-prev_in c = rw c.deref_mut-then-node-self.ensures.value (within (goal.at.untie-requires-clause-prev_in c).Then-node-self).prev

done : (c : After-untie) → Refilled c.self.inside.nodes c.self.inside.lists (map (without c.index-node.result.now) c.args.self.now.lists)
    (take c.self.inside.next.len (c.untie.new.next ++ drop (length c.untie.new.next) c.self.inside.next.items)) (take c.self.inside.prev.len (c.untie.new.prev ++ drop (length c.untie.new.prev) c.self.inside.prev.items))
done c =
    rw (← same (goal.at.After-untie c).After-self) (after_cut c.self.inside.nodes c.self.inside.lists c.self.inside.next.items c.self.inside.prev.items c.untie.new.next c.untie.new.prev c.self.inside.next.len c.self.inside.prev.len
    c.self.invariant c.self.inside.next.ok.0 c.self.inside.prev.ok.0 c.index-node.result.now (listed (goal.at.After-untie c).Then-node-self)
    (rw (c.deref_mut.ensures.value, c.deref_mut-then-node-self.ensures.value) at c.untie.ensures.next)
    (rw (c.deref_mut.ensures.value, c.deref_mut-then-node-self.ensures.value) at c.untie.ensures.prev))

pops : (c : Then-node-self) → PopsFirst c.args.self.now.lists (map (without c.index-node.result.now) c.args.self.now.lists) c.args.list c.index-node.result.now
pops c =
    let known = (goal.at.Then-node-self c).After-self in
    rw (← same known) (pops_first (lists_of c.self.inside.nodes c.self.inside.lists c.self.inside.next.items) c.args.list c.index-node.result.now (first c).0
    (rw (same known) c.requires) (first c).1 (c.self.invariant.linked.once c.index-node.result.now))

pub invariant_of-self : goal.invariant_of-self
invariant_of-self c = (done (goal.at.invariant_of-self c).After-untie).held

pub returns-then-node-self-clause-empty : goal.returns-then-node-self-clause-empty
returns-then-node-self-clause-empty c =
    rw (done (goal.at.returns-then-node-self-clause-empty c).After-untie).lists_are (pops (goal.at.returns-then-node-self-clause-empty c).Then-node-self).first

pub returns-then-node-self-clause-others : goal.returns-then-node-self-clause-others
returns-then-node-self-clause-others c =
    rw (done (goal.at.returns-then-node-self-clause-others c).After-untie).lists_are (pops (goal.at.returns-then-node-self-clause-others c).Then-node-self).others

pub returns-then-node-self-clause-listed : goal.returns-then-node-self-clause-listed
returns-then-node-self-clause-listed c =
    rw (done (goal.at.returns-then-node-self-clause-listed c).After-untie).lists_are (listed_cut c.args.self.now.lists c.index-node.result.now)

pub returns-else-node-self-clause-empty : goal.returns-else-node-self-clause-empty
returns-else-node-self-clause-empty c =
    let known = (goal.at.returns-else-node-self-clause-empty c).After-index-node in
    let before = (goal.at.returns-else-node-self-clause-empty c).After-self in
    (rw (← same before) (leads_none c.self.inside.nodes c.self.inside.lists c.self.inside.next.items c.self.inside.prev.items c.self.invariant c.args.list (ring before).low (rw (node_is known) at c.if-node-self.false)), refl)
