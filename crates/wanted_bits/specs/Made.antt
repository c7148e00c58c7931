-- What is made of a graph by what is asked for around its unit, and what that keeps. Cited by contracts.
use Rattle.flow_graph.specs.Graphs.{GraphShape}
use Rattle.flow_graph.specs.Passes.{GraphCalls, GraphDividesUnchanged}
use Rattle.wanted_bits.specs.MostRemoved.{RemovesMostBy}
use Rattle.wanted_bits.specs.Found.{AreFoundNodes}
use Rattle.wanted_bits.specs.Narrowed.{IsNarrowedBy, IsOnlyNarrowedBy, NarrowedStaysSplit}
use Rattle.wanted_bits.specs.Wanted.{Asked}

-- the narrowed graph, and no other is; no removal of assignments that keeps what is wanted takes one that stays in it;
-- each dividing assignment stays, a split graph stays split, and it makes no other calls. Its nodes are what those of
-- the graph become by shifts that hold
pub record IsMadeNarrowed (asked : Asked) (graph narrowed : GraphShape) : Type 0 where
  pub narrowed_is : IsNarrowedBy asked graph narrowed
  pub only : IsOnlyNarrowedBy asked graph narrowed
  pub most : RemovesMostBy asked graph narrowed
  pub divides : GraphDividesUnchanged graph narrowed
  pub split : NarrowedStaysSplit graph narrowed
  pub calls : GraphCalls graph narrowed
  pub found : AreFoundNodes asked graph narrowed.nodes
