use Rattle.flow_graph.specs.Graphs.{IsGraph}
use Rattle.pass_table.proofs.RoundLaws.{moved_split}
use Rattle.pass_table.proofs.rounds.sunk_is_split.Goals as goal

pub returns : goal.returns
returns c =
    let unit = c.args.unit.now in
    let is_graph : IsGraph unit.split.vars unit.split.received unit.split.nodes = rw (← c.nodes-nodes.ensures.value) c.nodes-nodes.ensures.graph in
    c.copied_splits.ensures (moved_split unit.split unit.table unit.placement unit.moved is_graph c.requires.motion.flattened c.split_splits.ensures)
