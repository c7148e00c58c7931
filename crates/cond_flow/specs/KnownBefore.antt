-- The least states of a graph as `LeastStates` has them, and what is known before a node. Cited by contracts.
use Rattle.std.specs.Prelude.{◌≡◌, ℕ, List, length, slice_get, take, Option, Some, None, Vec}
use Rattle.std.specs.Option.{option_map}
use Rattle.flow_graph.specs.Blocks.{AreBlocksOf, BlocksShape}
use Rattle.flow_graph.specs.Graphs.{GraphShape}
use Rattle.cond_flow.specs.Rules.{Rules}
use Rattle.cond_flow.specs.States.{NodeState, Unreached, Knows}
use Rattle.cond_flow.specs.Passing.{passed_along}
use Rattle.cond_flow.specs.Solutions.{HasLeastStates}
use Rattle.cond_flow.specs.Blockwise.{AreLeastOver, through_nodes}

-- ---- the states of the blocks

-- blocks, and the state of each
pub record StatesShape (K : Type 0) : Type 0 where
  pub blocks : BlocksShape
  pub values : List (NodeState K)

-- these are the blocks of the graph, and the least states of them
pub record AreStatesOf {K : Type 0} (below : K → K → Type 0) (rules : Rules K) (graph : GraphShape)
    (states : StatesShape K) : Type 0 where
  pub blocks : AreBlocksOf graph.nodes states.blocks
  pub least : AreLeastOver below rules graph states.blocks states.values

-- ---- what is known before a node

-- the state that is told: no run comes to the node, in a graph with so many variables, or this is known of each
abbrev pub state_of_known : {K : Type 0} → ℕ → Option (List K) → NodeState K
state_of_known size None = Unreached size
state_of_known size (Some known) = Knows known

-- the least states of the graph say this of the node; so a list has one entry for each variable
pub record IsKnownBefore {K : Type 0} (below : K → K → Type 0) (rules : Rules K)
    (graph : GraphShape) (node : ℕ)
    (known : Option (List K)) : Type 0 where
  pub states : ℕ → NodeState K
  pub least : HasLeastStates below rules graph states
  pub here : states node ≡ state_of_known (length graph.vars) known

-- and nothing else
abbrev pub IsOnlyKnownBefore : {K : Type 0} → (K → K → Type 0) → Rules K → GraphShape → ℕ
    → Option (List K) → Type 0
IsOnlyKnownBefore {K = K} below rules graph node known = (other : Option (List K))
    → IsKnownBefore below rules graph node other → other ≡ known

-- t is what passes to the node from the first of these nodes, which has the state s
pub record PassesTo {K : Type 0} (rules : Rules K) (graph : GraphShape) (list : List ℕ) (node : ℕ)
    (s t : NodeState K) : Type 0 where
  pub place : ℕ
  pub stands : slice_get list place ≡ Some node
  pub passes : t
      ≡ through_nodes (passed_along rules graph.shared graph.received)
      graph.nodes (take place list) s

-- of each of these nodes, by their numbers, the least states of the graph say this
abbrev pub AreKnownBefore : {K : Type 0} → {A : Type 0} → (K → K → Type 0) → Rules K → GraphShape
    → List (Option (Vec K A)) → Type 0
AreKnownBefore {K = K} {A = A} below rules graph all =
    (n : ℕ) (known : Option (Vec K A)) → slice_get all n ≡ Some known
    → IsKnownBefore below rules graph n (option_map (λ list. list.items) known)
