use Rattle.std.proofs.Common.{◌-◌, ◌<◌, length, sym, subst, arith}
use Rattle.flow_graph.specs.BlockLaws.{chain_some}
use Rattle.cond_flow.proofs.Steps.{chain_at}
use Rattle.cond_flow.proofs.flow.leave.Goals as goal

pub node-requires : goal.node-requires
node-requires g c =
    let some = chain_some c.args.graph.now.nodes c.args.list.now c.requires in
    subst (λ n. n < length c.args.graph.now.nodes) (sym c.last-last.ensures) (chain_at c.args.graph.now.nodes c.args.list.now (length c.args.list.now - 1) c.requires (omega (arith, some)))
