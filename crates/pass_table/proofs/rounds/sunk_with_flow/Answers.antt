use Rattle.std.proofs.Common.{List, subst}
use Rattle.flow_graph.specs.declared.nodes.Node.{Node}
use Rattle.flow_graph.specs.Graphs.{IsGraph}
use Rattle.pass_table.proofs.rounds.sunk_with_flow.Goals as goal

pub returns : goal.returns
returns c =
    let graph = c.in_ok-graph.graph in
    record {
      is_graph = subst (λ (l : List Node). IsGraph graph.vars graph.received l) c.nodes-nodes.ensures.value c.nodes-nodes.ensures.graph;
      is_sunk = c.in_ok-graph.ensures.exact;
      is_split = c.in_ok-graph.ensures.keeps.is_split;
      flow = c.in_ok-flow.ensures;
    }
