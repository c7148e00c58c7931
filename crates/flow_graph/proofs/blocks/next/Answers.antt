use Rattle.std.proofs.Common.{◌<◌, sym, ap, subst, ◌∙◌, slice_get}
use Rattle.flow_graph.specs.Edges.{EdgesShape}
use Rattle.flow_graph.specs.Graphs.{IsGraph, succs_at}
use Rattle.flow_graph.specs.BlockLaws.{only_is}
use Rattle.flow_graph.proofs.blocks.next.Goals as goal

pub only_pred-requires : goal.only_pred-requires
only_pred-requires c =
    let leaves = only_is (succs_at c.args.graph.now.nodes c.args.node) c.in-Some.next (sym (c.only_succ.ensures c.args.graph.now.nodes c.requires.edges) ∙ c.in-Some.is) in
    let graph = subst (IsGraph c.args.graph.now.vars c.args.graph.now.received) c.nodes-nodes.ensures.value c.nodes-nodes.ensures.graph in
    let within = (graph.can.succs c.args.node 0 c.in-Some.next (ap (λ l. slice_get l 0) leaves)).1 in
    subst (λ n. c.in-Some.next < n) (sym (ap (λ (e : EdgesShape). e.nodes) c.requires.edges)) within
