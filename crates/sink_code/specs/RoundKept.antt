-- What a round keeps of a split graph, and each half of it: the sinking, and the removal of what is dead. Cited by
-- contracts, those of sink_rounds and mir_opt too.
use Rattle.flow_graph.specs.Edges.{IsSplit}
use Rattle.flow_graph.specs.Graphs.{AllWithin, GraphShape}
use Rattle.flow_graph.specs.Passes.{GraphDividesUnchanged, GraphKeeps}
use Rattle.graph_edit.specs.NoMore.{HasNoMore}

-- the second graph keeps all of the unit that the first does, and each dividing assignment with its operands; on the
-- corresponding path of each full path no plain or movable assignment stands more often; it is split, and its edges
-- lead to nodes
pub record RoundKeeps (graph round : GraphShape) : Type 0 where
  pub keeps : GraphKeeps graph round
  pub divides : GraphDividesUnchanged graph round
  pub no_more : HasNoMore graph round
  pub is_split : IsSplit round.nodes
  pub within : AllWithin round.nodes
