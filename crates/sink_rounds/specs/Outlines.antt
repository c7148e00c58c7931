-- What tells the layouts of two graphs apart before they are made: graphs with one layout have equally many assignments.
-- Cited by contracts of private functions.
use Rattle.std.specs.Prelude.{◌≡◌, Bool, true, false, count_by, List, Option, Some, None}
use Rattle.mir_base.specs.Shapes.{UnitShape}
use Rattle.flow_graph.specs.declared.nodes.Node.{Node}
use Rattle.flow_graph.specs.declared.nodes.Node.TheVariants.{Assign}
use Rattle.flow_graph.specs.Graphs.{GraphShape}
use Rattle.flow_graph.specs.Layouts.{IsLayout}
use Rattle.graph_edit.specs.declared.flow.GraphFlow.{GraphFlow}
use Rattle.graph_edit.specs.GraphFlows.{IsFlowOf}
use Rattle.sink_rounds.specs.declared.outlines.Compared.{Compared}
use Rattle.sink_rounds.specs.declared.outlines.Outline.{Outline}
use Rattle.sink_rounds.specs.RoundGraphs.{SaysChanged}

-- it is an assignment
abbrev pub is_assign : Node → Bool
is_assign (Assign x rhs next) = true
is_assign _ = false

-- it has the number of the assignments of the graph, and where it has a unit, this is its layout
pub record IsOutlineOf (graph : GraphShape) (outline : Outline) : Type 0 where
  pub assigns : outline.assigns ≡ count_by is_assign graph.nodes
  pub laid : (unit : UnitShape) → outline.unit ≡ Some unit → IsLayout graph unit

-- what there is are the edges and the blocks of a graph with these nodes
abbrev pub MayBeFlow : List Node → Option GraphFlow → Type 0
MayBeFlow nodes None = Unit {0}
MayBeFlow nodes (Some flow) = IsFlowOf nodes flow

-- it says whether the two graphs have different layouts, and what is known of that of the second
pub record IsCompared (first second : GraphShape) (compared : Compared) : Type 0 where
  pub changed : SaysChanged first second compared.changed
  pub outline : IsOutlineOf second compared.outline
  pub flow : MayBeFlow second.nodes compared.flow
