use Rattle.std.proofs.Common.{◌≡◌, length, ap, arith}
use Rattle.flow_graph.specs.Blocks.{BlocksShape, parts_at}
use Rattle.flow_graph.proofs.Blocking.{length_cut}
use Rattle.flow_graph.proofs.blocks.Blocks.len.Goals as goal

pub returns : goal.returns
returns c =
    let long = length_cut (length c.self.inside.order) c.self.inside.order c.self.inside.starts c.self.invariant.starts_are in
    let starts : length c.items.result.now ≡ length c.self.inside.starts = ap length c.items.ensures in
    let lists : length (parts_at c.self.inside.order c.self.inside.starts) ≡ length c.args.self.now.lists = ap (λ (b : BlocksShape). length b.lists) c.self.view_is in
    omega (arith, long, starts, lists)
