-- Passes by held assignments: graphs in which each node becomes what the right sides that hold before it make of it. Cited
-- by contracts, here and above.
use Rattle.std.specs.Prelude.{◌≡◌, ℕ, ◌<◌, Bool, List, length, slice_get, Option, Some, option_map}
use Rattle.mir_base.specs.declared.instructions.Rhs.{Rhs}
use Rattle.mir_base.specs.FrameLaws.{ValuesFit}
use Rattle.mir_base.specs.Frames.{Frame}
use Rattle.mir_base.specs.Shapes.{AllBelow, rhs_vars}
use Rattle.flow_graph.specs.declared.nodes.Node.{Node}
use Rattle.flow_graph.specs.Graphs.{GraphShape, node_vars}
use Rattle.flow_graph.specs.Machines.{node_transition}
use Rattle.flow_graph.specs.NodeByNode.{IsInPlace}
use Rattle.held_assign.specs.declared.held.HeldAssigns.{HeldAssigns}
use Rattle.held_assign.specs.CheapRuns.{AsCheap}
use Rattle.held_assign.specs.HeldValues.{AgreesThere}
use Rattle.held_assign.specs.Holding.{IsHeldRhs}
use Rattle.held_assign.specs.InPlace.{HasNodes}
use Rattle.held_assign.specs.Rows.{held_at}

-- ---- what a pass makes, which picks assignments, and where `becomes` tells what a node becomes by the right side that
-- holds for each variable

-- each node by the picked right sides that hold before it, all decided on the nodes as they were
pub record AreMadeByHeld (picked : ℕ → Rhs → Bool) (becomes : (ℕ → Option Rhs) → Node → Node)
    (graph : GraphShape) (nodes : List Node) : Type 0 where
  pub held : ℕ → ℕ → Option Rhs
  pub is_held : (n v : ℕ) → n < length graph.nodes → IsHeldRhs picked graph n v (held n v)
  pub nodes_are : (n : ℕ)
      → slice_get nodes n ≡ option_map (becomes (held n)) (slice_get graph.nodes n)

-- the graph with these nodes in the place of the old ones
abbrev pub IsMadeByHeld : (ℕ → Rhs → Bool) → ((ℕ → Option Rhs) → Node → Node)
    → GraphShape → GraphShape → Type 0
IsMadeByHeld picked becomes graph made =
    HasNodes (AreMadeByHeld picked becomes graph) graph made

-- no other graph is made so
abbrev pub IsOnlyMadeByHeld : (ℕ → Rhs → Bool) → ((ℕ → Option Rhs) → Node → Node)
    → GraphShape → GraphShape → Type 0
IsOnlyMadeByHeld picked becomes graph made =
    (other : GraphShape) → IsMadeByHeld picked becomes graph other → other ≡ made

-- ---- what is asked of a pass

-- the new node stands in the place of the old one: it leads where that does, calls the same, and no other kind is Start
abbrev pub StandsInPlace : ((ℕ → Option Rhs) → Node → Node) → Type 0
StandsInPlace becomes = (held : ℕ → Option Rhs) (node : Node) → IsInPlace node (becomes held node)

-- it has variables of the old node and of what holds alone
abbrev pub ReadsWhatHolds : ((ℕ → Option Rhs) → Node → Node) → Type 0
ReadsWhatHolds becomes = (k : ℕ) (held : ℕ → Option Rhs)
    → ((v : ℕ) (rhs : Rhs) → held v ≡ Some rhs → AllBelow k (rhs_vars rhs))
    → (node : Node) → AllBelow k (node_vars node) → AllBelow k (node_vars (becomes held node))

-- where what holds agrees, it does what the old node does and counts no more
abbrev pub DoesAsTheOld : (ℕ → Rhs → Bool) → ((ℕ → Option Rhs) → Node → Node) → Type 0
DoesAsTheOld picked becomes = (graph : GraphShape) (frame : Frame) (held : ℕ → Option Rhs)
    → ((v : ℕ) → IsHeldRhs picked graph frame.place v (held v))
    → AgreesThere graph frame → ValuesFit frame.values
    → (node : Node) → AsCheap (node_transition graph.shared graph.received (Some node) frame)
    (node_transition graph.shared graph.received (Some (becomes held node)) frame)

-- ---- what the code makes

-- this is what the node of the number becomes by the rows of what holds, and none where there is no node
abbrev pub IsMadeByRow : ((ℕ → Option Rhs) → Node → Node) → HeldAssigns → List Node → ℕ
    → Option Node → Type 0
IsMadeByRow becomes held old n made =
    made ≡ option_map (becomes (held_at held n)) (slice_get old n)

-- each new node is what the old one of its number becomes
abbrev pub AreMadeByRows : ((ℕ → Option Rhs) → Node → Node) → HeldAssigns → List Node → List Node
    → Type 0
AreMadeByRows becomes held old nodes =
    (n : ℕ) → IsMadeByRow becomes held old n (slice_get nodes n)
