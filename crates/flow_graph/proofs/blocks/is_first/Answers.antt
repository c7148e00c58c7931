use Rattle.std.proofs.Common.{◌<◌, sym, ap, subst, ◌∙◌, slice_get}
use Rattle.flow_graph.specs.Edges.{EdgesShape, preds_among, preds_of}
use Rattle.flow_graph.specs.EdgeLaws.{pred_is}
use Rattle.flow_graph.specs.Blocks.{only}
use Rattle.flow_graph.specs.BlockLaws.{edge_within, only_is}
use Rattle.flow_graph.proofs.blocks.is_first.Goals as goal

pub only_succ-requires : goal.only_succ-requires
only_succ-requires c =
    let one = c.only_pred.ensures ∙ ap (λ (e : EdgesShape). only (preds_among c.args.node e.edges)) c.requires.edges in
    let enters = only_is (preds_of c.args.graph.now.nodes c.args.node) c.in-Some.before (sym one ∙ c.in-Some.is) in
    subst (λ n. c.in-Some.before < n) (sym (ap (λ (e : EdgesShape). e.nodes) c.requires.edges))
    (edge_within c.args.graph.now.nodes c.in-Some.before c.args.node (pred_is c.args.graph.now.nodes c.args.node 0 c.in-Some.before (ap (λ l. slice_get l 0) enters)))
