use Rattle.std.proofs.Common.{◌≡◌, ℕ, ◌+◌, ◌<◌, ◌^◌, List, length, get_or, slice_get, arith, ap, ◌∙◌, sym}
use Rattle.node_list.specs.Lists.{Lists, list_at}
use Rattle.node_list.proofs.Ahead.{begins_with, begins_not, read_is}
use Rattle.node_list.proofs.Writes.{RingIn, index_fits, ring_in, lists_of}
use Rattle.node_list.proofs.links.Links.first.Goals as goal
use Rattle.node_list.proofs.links.Links.first.Goals.{After-self}

same : (c : After-self) → lists_of c.self.inside.nodes c.self.inside.lists c.self.inside.next.items ≡ c.args.self.now.lists
same c = ap (λ (l : Lists). l.lists) c.self.view_is

ring : (c : After-self) → RingIn c.self.inside.nodes c.self.inside.lists c.self.inside.next.items c.args.list
ring c = ring_in c.self.inside.nodes c.self.inside.lists c.self.inside.next.items c.self.inside.prev.items c.self.invariant c.args.self.now c.args.list c.self.view_is c.requires

pub overflow_add-ring : goal.overflow_add-ring
overflow_add-ring c =
    let fits : c.self.inside.nodes + c.args.list < 2 ^ 64 =
    index_fits (c.self.inside.nodes + c.args.list) c.self.inside.next.len c.self.inside.next.cap (length c.self.inside.next.items) (ring (goal.at.overflow_add-ring c).After-self).number c.self.inside.next.ok.0 c.self.inside.next.ok.1 c.self.inside.next.small in
    omega arith

pub node_at-requires : goal.node_at-requires
node_at-requires c = rw c.deref.ensures.value (ring (goal.at.node_at-requires c).After-self).number

pub returns : goal.returns
returns c =
    let known = (goal.at.returns c).After-self in
    let at = c.self.inside.nodes + c.args.list in
    let items = c.self.inside.next.items in
    read_is c.node_at.result c.self.inside.nodes (get_or items at 0) _ (rw c.deref.ensures.value at c.node_at.ensures)
    (λ lt. ap (λ (l : List (List ℕ)). slice_get (list_at l c.args.list) 0) (sym (same known)) ∙ begins_with c.self.inside.nodes c.self.inside.lists items c.self.inside.prev.items c.self.invariant c.args.list (ring known).low lt)
    (λ le. ap (λ (l : List (List ℕ)). slice_get (list_at l c.args.list) 0) (sym (same known)) ∙ begins_not c.self.inside.nodes c.self.inside.lists items c.self.inside.prev.items c.self.invariant c.args.list (ring known).low le)
