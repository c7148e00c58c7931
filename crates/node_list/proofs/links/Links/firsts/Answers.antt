use Rattle.std.proofs.Common.{◌≡◌, ◌-◌, List, ℕ, length, take, drop, slice_get, ap, sym, ◌∙◌}
use Rattle.node_list.specs.Lists.{Lists, list_at}
use Rattle.node_list.proofs.Ahead.{firsts_get, firsts_length}
use Rattle.node_list.proofs.Writes.{all_len, lists_of}
use Rattle.node_list.proofs.links.Links.firsts.Goals as goal
use Rattle.node_list.proofs.links.Links.firsts.Goals.{After-deref}

-- the lists that are shown
same : (c : After-deref) → lists_of c.self.inside.nodes c.self.inside.lists c.self.inside.next.items ≡ c.args.self.now.lists
same c = ap (λ (l : Lists). l.lists) c.self.view_is

pub returns-clause-long : goal.returns-clause-long
returns-clause-long c =
    let known = (goal.at.returns-clause-long c).After-deref in
    ap (λ (l : List ℕ). length (take (length l - c.self.inside.nodes) (drop c.self.inside.nodes l))) c.deref.ensures.value
    ∙ firsts_length c.self.inside.nodes c.self.inside.lists c.self.inside.next.items c.self.inside.prev.items c.self.invariant
    ∙ sym (all_len c.self.inside.nodes c.self.inside.lists c.self.inside.next.items c.self.inside.prev.items c.self.invariant)
    ∙ ap (λ (l : List (List ℕ)). length l) (same known)

pub returns-clause-each : goal.returns-clause-each
returns-clause-each c = λ list node first.
    let known = (goal.at.returns-clause-each c).After-deref in
    ap (λ (l : List ℕ). slice_get (take (length l - c.self.inside.nodes) (drop c.self.inside.nodes l)) list) c.deref.ensures.value
    ∙ firsts_get c.self.inside.nodes c.self.inside.lists c.self.inside.next.items c.self.inside.prev.items c.self.invariant list node
    (ap (λ (l : List (List ℕ)). slice_get (list_at l list) 0) (same known) ∙ first)
