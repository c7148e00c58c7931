use Rattle.std.proofs.Common.{subst}
use Rattle.flow_graph.specs.Graphs.{AllWithin}
use Rattle.flow_graph.specs.Keeps.{AsGraph, AsUnit}
use Rattle.flow_graph.specs.KeepsLaws.{keeps_trans}
use Rattle.program_pass.proofs.units.into_laid_out.Goals as goal

pub returns : goal.returns
returns c = record {
  within = subst AllWithin c.nodes-nodes.ensures.value (λ m slot s edge. (c.nodes-nodes.ensures.graph.can.succs m slot s edge).1);
  swept = c.in_ok-swept.swept;
  is_swept = c.in_ok-swept.ensures.clean;
  is_laid = c.in_ok-unit.ensures.layout;
  keeps = keeps_trans (AsGraph c.args.graph) (AsGraph c.in_ok-swept.swept) (AsUnit c.in_ok-unit.unit) c.in_ok-swept.ensures.keeps c.in_ok-unit.ensures.keeps;
  lowers = c.in_ok-unit.ensures.lowers;
}
