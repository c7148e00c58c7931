use Rattle.std.proofs.Common.{◌∙◌}
use Rattle.flow_graph.specs.Keeps.{AsGraph}
use Rattle.flow_graph.specs.KeepsLaws.{keeps_trans}
use Rattle.pass_chain.specs.PassLaws.{sinks_only}
use Rattle.pass_chain.proofs.graph_passes.SinkingGraphPass.unit_of.Goals as goal

pub returns : goal.returns
returns c =
    let graph = c.args.graph.now in
    let split = c.in_ok-split.split in
    let last = c.in_ok-last.last in
    let made = c.in_ok-last.ensures.exact in
    record {
      passed = last;
      result = record {
        is = record { split = split; rounds = made.rounds; splits = c.in_ok-split.ensures.exact; are_rounds = made.are_rounds; last = made.is };
        only = λ other is. made.is ∙ sinks_only graph split made.rounds c.in_ok-split.ensures.exact made.only other is;
      };
      keeps = keeps_trans (AsGraph graph) (AsGraph split) (AsGraph last) c.in_ok-split.ensures.keeps c.in_ok-last.ensures.keeps.keeps;
      laid = c.in_ok-unit.ensures;
    }
