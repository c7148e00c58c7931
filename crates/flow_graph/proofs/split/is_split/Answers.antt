use Rattle.flow_graph.proofs.Splits.{split_by}
use Rattle.flow_graph.proofs.split.is_split.Goals as goal

pub returns : goal.returns
returns c = split_by c.args.graph.now.nodes c.nodes.result.now c.all_enter_well.result c.nodes.ensures.value c.all_enter_well.ensures
