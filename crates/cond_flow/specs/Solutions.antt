-- States of the nodes of a graph, and the least ones. Cited by contracts.
use Rattle.std.specs.Prelude.{◌≡◌, ◌<◌, ℕ, List, length, slice_get, Some}
use Rattle.flow_graph.specs.declared.nodes.Node.{Node}
use Rattle.flow_graph.specs.Graphs.{GraphShape, IsEdge}
use Rattle.cond_flow.specs.Rules.{Rules}
use Rattle.cond_flow.specs.States.{NodeState, Knows, BelowState, size_of}
use Rattle.cond_flow.specs.Passing.{first_known, passed_along}
use Rattle.cond_flow.specs.Blockwise.{Along}

-- a state for each node, each about as many variables as `zeros`, which is known before Start, so that this is below the
-- state of Start, and what passes along each edge is below the state of the node to which the edge leads
pub record AreStates {K : Type 0} (below : K → K → Type 0) (along : Along K) (zeros : List K)
    (nodes : List Node)
    (states : ℕ → NodeState K) : Type 0 where
  pub sizes : (n : ℕ) → n < length nodes → size_of (states n) ≡ length zeros
  pub start : BelowState below (Knows zeros) (states 0)
  pub edges : (n slot s : ℕ) (node : Node) → slice_get nodes n ≡ Some node → IsEdge nodes n slot s
      → BelowState below (along node slot (states n)) (states s)

-- and the least such states: at each node they are below any other such states
pub record AreLeastStates {K : Type 0} (below : K → K → Type 0) (along : Along K) (zeros : List K)
    (nodes : List Node)
    (states : ℕ → NodeState K) : Type 0 where
  pub are : AreStates below along zeros nodes states
  pub least : (others : ℕ → NodeState K) → AreStates below along zeros nodes others → (n : ℕ)
      → n < length nodes
      → BelowState below (states n) (others n)

-- the least states of the nodes of a graph
abbrev pub HasLeastStates : {K : Type 0} → (K → K → Type 0) → Rules K → GraphShape
    → (ℕ → NodeState K) → Type 0
HasLeastStates below rules graph states =
    AreLeastStates below (passed_along rules graph.shared graph.received)
    (first_known rules graph.shared (length graph.vars)) graph.nodes states
