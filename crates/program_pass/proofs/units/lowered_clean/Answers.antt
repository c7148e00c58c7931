use Rattle.std.proofs.Common.{subst}
use Rattle.flow_graph.specs.Graphs.{CanMake, SharesVars}
use Rattle.flow_graph.specs.Keeps.{AsGraph, AsUnit}
use Rattle.flow_graph.specs.KeepsLaws.{keeps_trans}
use Rattle.program_pass.proofs.units.lowered_clean.Goals as goal

pub returns : goal.returns
returns c =
    let cleaned = c.in_ok-cleaned.cleaned in
    let lowered = c.in_ok-lowered.lowered in
    let lowered_can = subst (CanMake lowered.vars lowered.received) c.nodes-lowered.ensures.value c.nodes-lowered.ensures.graph.can in
    record {
      is_lowered = c.in_ok-lowered.ensures.lowered;
      within = λ m slot s edge. (lowered_can.succs m slot s edge).1;
      is_cleaned = c.in_ok-cleaned.ensures.clean;
      keeps = keeps_trans (AsUnit c.args.unit.now) (AsGraph c.in_ok-lowered.lowered) (AsGraph cleaned) c.in_ok-lowered.ensures.keeps c.in_ok-cleaned.ensures.keeps;
      can = subst (CanMake cleaned.vars cleaned.received) c.nodes-cleaned.ensures.value c.nodes-cleaned.ensures.graph.can;
      shares = subst (λ n. SharesVars n cleaned.vars cleaned.received) c.shared-shared.ensures.value c.shared-shared.ensures.shares;
    }
