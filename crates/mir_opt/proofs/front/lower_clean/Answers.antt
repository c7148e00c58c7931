use Rattle.std.proofs.Common.{subst}
use Rattle.flow_graph.specs.Graphs.{AllWithin}
use Rattle.mir_opt.proofs.front.lower_clean.Goals as goal

pub returns : goal.returns
returns c = record {
  start = record { lowers = c.in_ok-lowered.ensures.lowered; cleans = c.in_ok-cleaned.ensures.clean };
  within = subst AllWithin c.nodes-nodes.ensures.value (λ m slot s edge. (c.nodes-nodes.ensures.graph.can.succs m slot s edge).1);
  lowered_keeps = c.in_ok-lowered.ensures.keeps;
  cleaned_keeps = c.in_ok-cleaned.ensures.keeps;
  lowered_divides = c.in_ok-lowered.ensures.divides;
  divides = c.in_ok-cleaned.ensures.divides;
}
