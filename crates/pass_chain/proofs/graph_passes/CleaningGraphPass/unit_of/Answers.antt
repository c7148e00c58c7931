use Rattle.std.proofs.Common.{refl, sym}
use Rattle.flow_graph.specs.Keeps.{AsGraph}
use Rattle.flow_graph.specs.KeepsLaws.{keeps_refl}
use Rattle.pass_chain.proofs.graph_passes.CleaningGraphPass.unit_of.Goals as goal

pub returns : goal.returns
returns c = record {
  passed = c.args.graph.now;
  result = record { is = refl; only = λ other is. sym is };
  keeps = keeps_refl (AsGraph c.args.graph.now);
  laid = c.in_ok-unit.ensures;
}
