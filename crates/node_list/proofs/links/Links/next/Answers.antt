use Rattle.std.proofs.Common.{◌≡◌, ℕ, ◌<◌, List, get_or, ap, ◌∙◌, subst, sym}
use Rattle.node_list.specs.Lists.{Lists, times, node_after}
use Rattle.node_list.proofs.Ahead.{leads_after, leads_out, read_is}
use Rattle.node_list.specs.ListedLaws.{some_listed}
use Rattle.node_list.proofs.Writes.{lists_of}
use Rattle.node_list.proofs.links.Links.next.Goals as goal
use Rattle.node_list.proofs.links.Links.next.Goals.{After-self}

same : (c : After-self) → lists_of c.self.inside.nodes c.self.inside.lists c.self.inside.next.items ≡ c.args.self.now.lists
same c = ap (λ (l : Lists). l.lists) c.self.view_is

listed : (c : After-self) → 0 < times (lists_of c.self.inside.nodes c.self.inside.lists c.self.inside.next.items) c.args.node
listed c = subst (λ l. 0 < times l c.args.node) (sym (same c)) (some_listed c.args.self.now.lists c.args.node c.requires)

pub returns : goal.returns
returns c =
    let known = (goal.at.returns c).After-self in
    let items = c.self.inside.next.items in
    read_is c.node_at.result c.self.inside.nodes (get_or items c.args.node 0) _ (rw c.deref.ensures.value at c.node_at.ensures)
    (λ lt. ap (λ (l : List (List ℕ)). node_after l c.args.node) (sym (same known)) ∙ leads_after c.self.inside.nodes c.self.inside.lists items c.self.inside.prev.items c.self.invariant c.args.node (listed known) lt)
    (λ le. ap (λ (l : List (List ℕ)). node_after l c.args.node) (sym (same known)) ∙ leads_out c.self.inside.nodes c.self.inside.lists items c.self.inside.prev.items c.self.invariant c.args.node (listed known) le)
