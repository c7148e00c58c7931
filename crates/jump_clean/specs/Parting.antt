-- A graph taken apart: its nodes, and a graph that has all else of it. Cited by contracts of private functions.
use Rattle.std.specs.Prelude.{◌≡◌, List, Option, Some, None}
use Rattle.flow_graph.specs.declared.nodes.Node.{Node}
use Rattle.flow_graph.specs.Edges.{EdgesShape, edges_of}
use Rattle.flow_graph.specs.Graphs.{GraphShape}
use Rattle.jump_clean.specs.declared.cleaning.InParts.{InParts}
use Rattle.jump_clean.specs.Cleaned.{AreCleaned}
use Rattle.jump_clean.specs.Reductions.{HaveNoJumps}

-- a graph has all but the nodes of another
pub record IsFrameOf (graph frame : GraphShape) : Type 0 where
  pub name : frame.name ≡ graph.name
  pub shared : frame.shared ≡ graph.shared
  pub vars : frame.vars ≡ graph.vars
  pub received : frame.received ≡ graph.received

-- the nodes are those of the graph, and all else of it stands in the frame
pub record AreParts (graph : GraphShape) (parts : InParts) : Type 0 where
  pub frame : IsFrameOf graph parts.frame
  pub nodes : parts.nodes.items ≡ graph.nodes

-- the nodes are the cleaned ones of the graph, and all else of it stands in the frame
pub record AreCleanParts (graph : GraphShape) (parts : InParts) : Type 0 where
  pub frame : IsFrameOf graph parts.frame
  pub nodes : AreCleaned graph.nodes parts.nodes.items

-- they are the edges of the nodes, or there are none, and no node is a jump
abbrev pub AreJumpEdges : List Node → Option EdgesShape → Type 0
AreJumpEdges nodes None = HaveNoJumps nodes
AreJumpEdges nodes (Some edges) = edges ≡ edges_of nodes
