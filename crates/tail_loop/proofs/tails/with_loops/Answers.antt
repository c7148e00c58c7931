use Rattle.std.proofs.Common.{◌≤◌, length, subst}
use Rattle.flow_graph.specs.Graphs.{CanMake}
use Rattle.tail_loop.proofs.Makes.{loops_can, tail_made}
use Rattle.tail_loop.proofs.tails.with_loops.Goals as goal

pub with_nodes-requires : goal.with_nodes-requires
with_nodes-requires c =
    let graph = c.args.graph.now in
    loops_can graph c.args.unit c.args.calls.now c.in_ok-wide.wide c.in_ok-nodes.nodes.items (subst (CanMake graph.vars graph.received) c.nodes-nodes.ensures.value c.nodes-nodes.ensures.graph.can) c.requires.fit (subst (λ n. n ≤ length graph.vars) c.shared-shared.ensures.value c.shared-shared.ensures.shares.count) c.in_ok-wide.ensures c.in_ok-nodes.ensures

pub returns : goal.returns
returns c =
    let graph = c.args.graph.now in
    let is = c.in_ok-tailed.ensures in
    tail_made graph c.args.unit c.args.calls.now c.in_ok-wide.wide c.in_ok-nodes.nodes.items (subst (CanMake graph.vars graph.received) c.nodes-nodes.ensures.value c.nodes-nodes.ensures.graph.can) c.requires.fit (subst (λ n. n ≤ length graph.vars) c.shared-shared.ensures.value c.shared-shared.ensures.shares.count) c.in_ok-wide.ensures c.in_ok-nodes.ensures
    c.in_ok-tailed.tailed is.made is.same is.cheaper is.calls
