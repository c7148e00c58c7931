-- Graphs with other nodes in the place of the old ones. Cited by contracts, here and above.
use Rattle.std.specs.Prelude.{◌≡◌, List}
use Rattle.flow_graph.specs.declared.nodes.Node.{Node}
use Rattle.flow_graph.specs.Graphs.{CanMake, GraphShape}

-- the graph with nodes of which this is so
pub record HasNodes (are : List Node → Type 0) (graph made : GraphShape) : Type 0 where
  pub name_is : made.name ≡ graph.name
  pub shared_is : made.shared ≡ graph.shared
  pub vars_are : made.vars ≡ graph.vars
  pub received_are : made.received ≡ graph.received
  pub nodes_are : are made.nodes

-- a graph can be made of these nodes, as it can of those of the graph
abbrev pub CanStandIn : GraphShape → List Node → Type 0
CanStandIn graph nodes = CanMake graph.vars graph.received graph.nodes
    → CanMake graph.vars graph.received nodes
