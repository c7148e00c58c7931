use Rattle.std.proofs.Common.{subst}
use Rattle.flow_graph.specs.DividingLaws.{unchanged_trans}
use Rattle.flow_graph.specs.Graphs.{AllWithin}
use Rattle.flow_graph.specs.Keeps.{AsGraph}
use Rattle.flow_graph.specs.KeepsLaws.{keeps_trans}
use Rattle.graph_edit.specs.NoMoreLaws.{no_more_trans}
use Rattle.sink_rounds.proofs.repeating.sunk_and_pruned.Goals as goal

pub returns : goal.returns
returns c = record {
  round = record { sunk = c.in_ok-sunk.sunk; is_sunk = c.in_ok-sunk.ensures.exact; is_pruned = c.in_ok-pruned.ensures.exact };
  flow = c.in_ok-pruned.ensures.flow;
  keeps = record {
    keeps = keeps_trans (AsGraph c.args.graph.now) (AsGraph c.in_ok-sunk.sunk) (AsGraph c.in_ok-pruned.pruned) c.in_ok-sunk.ensures.keeps.keeps c.in_ok-pruned.ensures.keeps;
    divides = unchanged_trans c.args.graph.now.nodes c.in_ok-sunk.sunk.nodes c.in_ok-pruned.pruned.nodes c.in_ok-sunk.ensures.keeps.divides c.in_ok-pruned.ensures.divides;
    no_more = no_more_trans c.args.graph.now c.in_ok-sunk.sunk c.in_ok-pruned.pruned c.in_ok-sunk.ensures.keeps.no_more c.in_ok-pruned.ensures.no_more;
    is_split = c.in_ok-pruned.ensures.split c.in_ok-sunk.ensures.keeps.is_split;
    within = subst AllWithin c.nodes-nodes.ensures.value (λ m slot s edge. (c.nodes-nodes.ensures.graph.can.succs m slot s edge).1);
  };
}
