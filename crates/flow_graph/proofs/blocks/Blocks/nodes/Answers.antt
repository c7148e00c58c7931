use Rattle.std.proofs.Common.{◌≡◌, ◌+◌, ◌<◌, length, sym, subst, ap, arith}
use Rattle.flow_graph.specs.Blocks.{BlocksShape, parts_at}
use Rattle.flow_graph.proofs.Blocking.{ends_at, length_cut}
use Rattle.flow_graph.proofs.blocks.Blocks.nodes.Goals as goal
use Rattle.flow_graph.proofs.blocks.Blocks.nodes.Goals.{After-items}

within : (c : After-items) → c.args.block + 1 < length c.self.inside.starts
within c =
    let long = length_cut (length c.self.inside.order) c.self.inside.order c.self.inside.starts c.self.invariant.starts_are in
    let lists : length (parts_at c.self.inside.order c.self.inside.starts) ≡ length c.args.self.now.lists = ap (λ (b : BlocksShape). length b.lists) c.self.view_is in
    omega (arith, long, lists, c.requires)

pub bounds-first-requires : goal.bounds-first-requires
bounds-first-requires c = subst (λ l. c.args.block + 1 < length l) (sym c.items.ensures) (within c)

pub part-requires-clause-ordered : goal.part-requires-clause-ordered
part-requires-clause-ordered c =
    let b = ends_at (length c.self.inside.order) c.args.block c.self.inside.order c.self.inside.starts c.self.invariant.starts_are (within (goal.at.part-requires-clause-ordered c).After-items) in
    rw (c.bounds-first.ensures.first, c.bounds-first.ensures.end, c.items.ensures) b.0

pub part-requires-clause-within : goal.part-requires-clause-within
part-requires-clause-within c =
    let b = ends_at (length c.self.inside.order) c.args.block c.self.inside.order c.self.inside.starts c.self.invariant.starts_are (within (goal.at.part-requires-clause-within c).After-items) in
    rw (c.bounds-first.ensures.end, c.items.ensures, c.items-2.ensures) b.1

pub returns : goal.returns
returns c =
    let lists : parts_at c.self.inside.order c.self.inside.starts ≡ c.args.self.now.lists = ap (λ (b : BlocksShape). b.lists) c.self.view_is in
    let at = ends_at (length c.self.inside.order) c.args.block c.self.inside.order c.self.inside.starts c.self.invariant.starts_are (within (goal.at.returns c).After-items) in
    rw (← lists, c.part.ensures, c.items-2.ensures, c.bounds-first.ensures.first, c.bounds-first.ensures.end, c.items.ensures) at.2
