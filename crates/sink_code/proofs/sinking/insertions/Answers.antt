use Rattle.std.proofs.Common.{List, subst}
use Rattle.flow_graph.specs.declared.nodes.Node.{Node}
use Rattle.flow_graph.specs.Graphs.{IsGraph}
use Rattle.sink_code.proofs.OnceInOrder.{once_puts}
use Rattle.sink_code.proofs.sinking.insertions.Goals as goal

pub returns-clause-puts : goal.returns-clause-puts
returns-clause-puts c =
    let graph = c.args.graph.now in
    let is_graph : IsGraph graph.vars graph.received graph.nodes = subst (λ (l : List Node). IsGraph graph.vars graph.received l) c.nodes-nodes.ensures.value c.nodes-nodes.ensures.graph in
    once_puts graph is_graph c.in_ok-found.found.items c.in_ok-puts.puts.items c.in_ok-found.ensures c.in_ok-puts.ensures
