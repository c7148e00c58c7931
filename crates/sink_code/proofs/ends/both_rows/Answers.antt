use Rattle.std.proofs.Common.{◌<◌, List, length, subst}
use Rattle.flow_graph.specs.declared.nodes.Node.{Node}
use Rattle.sink_code.proofs.ends.both_rows.Goals as goal

pub push_both-requires-clause-node : goal.push_both-requires-clause-node
push_both-requires-clause-node c = subst (λ (l : List Node). c.loop-node.node < length l) c.nodes-count.ensures.value c.loop-node-test.true
