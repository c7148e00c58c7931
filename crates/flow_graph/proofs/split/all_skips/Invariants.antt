use Rattle.std.proofs.Common.{◌≡◌, drop, length}
use Rattle.mir_base.specs.Shapes.{AllBelow}
use Rattle.flow_graph.specs.Edges.{all_skips as all_skips_in}
use Rattle.flow_graph.proofs.split.all_skips.Given as goal

abbrev pub invariant-loop-pred : goal.invariant-loop-pred
invariant-loop-pred l = record {
  rest : all_skips_in l.nodes l.to l.preds ≡ all_skips_in l.nodes l.to (drop l.pred-index l.preds);
  below : AllBelow (length l.nodes) (drop l.pred-index l.preds);
}
