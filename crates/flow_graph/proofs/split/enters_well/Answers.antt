use Rattle.std.proofs.Common.{◌∙◌, ap, sym, subst, length}
use Rattle.mir_base.specs.Shapes.{AllBelow}
use Rattle.flow_graph.specs.Edges.{EdgesShape, preds_among}
use Rattle.flow_graph.specs.EdgeLaws.{preds_below}
use Rattle.flow_graph.proofs.split.enters_well.Goals as goal

pub all_skips-requires : goal.all_skips-requires
all_skips-requires c =
    let e = c.preds-preds.ensures ∙ ap (λ (x : EdgesShape). preds_among c.args.node x.edges) c.requires.edges in
    subst (AllBelow (length c.args.nodes.now)) (sym e) (preds_below c.args.nodes.now c.args.node)
