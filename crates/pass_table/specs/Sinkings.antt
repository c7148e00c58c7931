-- A graph whose assignments have sunk, with its edges and its blocks. Cited by contracts of private functions.
use Rattle.flow_graph.specs.Edges.{IsSplit}
use Rattle.flow_graph.specs.Graphs.{GraphShape, IsGraph}
use Rattle.graph_edit.specs.GraphFlows.{IsFlowOf}
use Rattle.sink_code.specs.SunkGraphs.{IsSunk}
use Rattle.pass_table.specs.declared.rounds.Sinking.{Sinking}

-- it is the graph in which the assignments of this one have sunk, it is split, and the edges and blocks are its own
pub record IsSinkingOf (graph : GraphShape) (sinking : Sinking) : Type 0 where
  pub is_graph : IsGraph sinking.graph.vars sinking.graph.received sinking.graph.nodes
  pub is_sunk : IsSunk graph sinking.graph
  pub is_split : IsSplit sinking.graph.nodes
  pub flow : IsFlowOf sinking.graph.nodes sinking.flow
