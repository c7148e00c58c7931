use Rattle.std.proofs.Common.{◌≡◌, ◌∙◌, List, ap, sym, subst, map, Bool}
use Rattle.flow_graph.specs.declared.nodes.Node.{Node}
use Rattle.flow_graph.specs.Graphs.{IsGraph, SharesVars}
use Rattle.flow_graph.specs.Retained.{AreRetained, MarkReached, redirected, marked_below, marked}
use Rattle.flow_graph.proofs.Made.{make_graph}
use Rattle.flow_graph.proofs.retain.make.Goals as goal

retained_with : (raw raw' nodes : List Node) (marks marks' : List Bool) → raw' ≡ raw → marks' ≡ marks → MarkReached raw' marks → nodes ≡ map (redirected (marked_below marks')) (marked marks' raw) → AreRetained raw nodes
retained_with raw raw' nodes marks marks' e e' m is = record {
  marks = marks;
  are_marks = subst (λ r. MarkReached r marks) e m;
  are = is ∙ ap (λ l. map (redirected (marked_below l)) (marked l raw)) e';
}

pub invariant_of-result : goal.invariant_of-result
invariant_of-result c =
    let raw = c.args.nodes.items in
    let made = c.in_ok-retained.retained.items in
    let retained = retained_with raw c.as_slice.result.now made c.in_ok-marks.marks.items c.as_slice-2.result.now c.as_slice.ensures.value c.as_slice-2.ensures.value c.in_ok-marks.ensures c.in_ok-retained.ensures in
    let g = make_graph c.args.vars c.args.received.items raw made c.requires.can retained in
    subst (λ r. IsGraph c.args.vars r made × SharesVars c.args.shared c.args.vars r) (sym c.of.ensures) (g, c.requires.shares)
