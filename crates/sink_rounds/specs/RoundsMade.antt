-- A round with its edges and blocks, and with what is known of its layout. Cited by contracts of private functions.
use Rattle.flow_graph.specs.Graphs.{GraphShape}
use Rattle.sink_rounds.specs.declared.repeating.MadeRound.{MadeRound}
use Rattle.sink_rounds.specs.declared.repeating.PrunedRound.{PrunedRound}
use Rattle.graph_edit.specs.GraphFlows.{IsFlowOf}
use Rattle.sink_rounds.specs.Outlines.{IsOutlineOf, MayBeFlow}
use Rattle.sink_rounds.specs.RoundGraphs.{IsRound, SaysChanged}
use Rattle.sink_code.specs.RoundKept.{RoundKeeps}
use Rattle.sink_rounds.specs.Steps.{IsBestStep}

-- it is a round of the graph, with its edges and its blocks
pub record IsPrunedRound (graph : GraphShape) (made : PrunedRound) : Type 0 where
  pub round : IsRound graph made.graph
  pub flow : IsFlowOf made.graph.nodes made.flow
  pub keeps : RoundKeeps graph made.graph

-- it is one with what is known of its layout too, and says whether this is another; its edges and blocks may be gone
pub record IsMadeRound (graph : GraphShape) (made : MadeRound) : Type 0 where
  pub round : IsRound graph made.graph
  pub flow : MayBeFlow made.graph.nodes made.flow
  pub outline : IsOutlineOf made.graph made.outline
  pub changed : SaysChanged graph made.graph made.changed
  pub keeps : RoundKeeps graph made.graph
  pub best : IsBestStep graph made.graph
