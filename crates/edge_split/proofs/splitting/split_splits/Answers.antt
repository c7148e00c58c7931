use Rattle.flow_graph.specs.Graphs.{IsGraph}
use Rattle.edge_split.proofs.Splits.{edge_split_splits}
use Rattle.edge_split.proofs.splitting.split_splits.Goals as goal

pub returns : goal.returns
returns c =
    let graph = c.args.graph.now in
    let is_graph : IsGraph c.args.graph.now.vars c.args.graph.now.received c.args.graph.now.nodes = rw (← c.nodes-nodes.ensures.value) c.nodes-nodes.ensures.graph in
    edge_split_splits graph is_graph c.args.made.now c.requires
