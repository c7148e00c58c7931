-- The states as a flow over blocks: a state for each block, which is that of its first node. Cited by contracts of
-- private functions and by the ghost members of `StateFlow`.
use Rattle.std.specs.Prelude.{◌≡◌, ℕ, ◌+◌, ◌*◌, ◌-◌, ◌<◌, ◌/◌, ◌%◌, nat_eq, List, [], ◌∷◌, length, slice_get, slice_index_or, take, Option, Some, None}
use Rattle.fix_solve.specs.Net.{Net, HoldsLeast}
use Rattle.flow_graph.specs.declared.nodes.Node.{Node}
use Rattle.flow_graph.specs.Blocks.{BlocksShape, IsBlocks, StandsIn}
use Rattle.flow_graph.specs.Graphs.{GraphShape, IsEdge, node_succs}
use Rattle.flow_graph.specs.NumberTables.{number_at}
use Rattle.node_list.specs.Lists.{list_at}
use Rattle.cond_flow.specs.States.{NodeState, Unreached, BelowState, size_of, state_where}
use Rattle.cond_flow.specs.Rules.{Rules}
use Rattle.cond_flow.specs.Passing.{first_known, passed_along}

-- what passes along the edge at a slot of a node
abbrev pub Along : Type 0 → Type 0
Along K = Node → ℕ → NodeState K → NodeState K

-- it keeps the number of variables and rises, and nothing passes where no run comes to or no edge is
pub record AlongLaws {K : Type 0} (below : K → K → Type 0) (along : Along K) : Type 0 where
  pub sized : (node : Node) (slot : ℕ) (s : NodeState K) → size_of (along node slot s) ≡ size_of s
  pub rises : (node : Node) (slot : ℕ) (s t : NodeState K) → BelowState below s t
      → BelowState below (along node slot s) (along node slot t)
  pub no_edge : (node : Node) (slot : ℕ) (s : NodeState K) → slice_get (node_succs node) slot ≡ None
      → along node slot s ≡ Unreached (size_of s)
  pub unreached : (node : Node) (slot n : ℕ) → along node slot (Unreached n) ≡ Unreached n

-- ---- what passes through a block

-- what passes along the edge at this slot of a node that may be absent
abbrev pub along_at : {K : Type 0} → Along K → Option Node → ℕ → NodeState K → NodeState K
along_at along None slot s = s
along_at along (Some node) slot s = along node slot s

-- what passes through these nodes, one after the other
abbrev pub through_nodes : {K : Type 0} → Along K → List Node → List ℕ → NodeState K → NodeState K
through_nodes along nodes [] s = s
through_nodes along nodes (n ∷ list) s =
    through_nodes along nodes list (along_at along (slice_get nodes n) 0 s)

-- the last of these nodes
abbrev pub last_of : List ℕ → ℕ
last_of list = slice_index_or list (length list - 1) 0

-- what passes from the first of these nodes along the edge at this slot of the last
abbrev pub out_of : {K : Type 0} → Along K → List Node → List ℕ → ℕ → NodeState K → NodeState K
out_of along nodes list slot s =
    along_at along (slice_get nodes (last_of list)) slot
    (through_nodes along nodes (take (length list - 1) list) s)

-- the nodes of the block of this number
abbrev pub block_at : List (List ℕ) → ℕ → List ℕ
block_at = list_at

-- ---- the flow

-- the block to which the edge at this slot of a node leads, or any where there is no such edge
pub record IsTargetOf (nodes : List Node) (lists : List (List ℕ))
    (node slot target : ℕ) : Type 0 where
  pub within : target < length lists
  pub leads : (s : ℕ) → IsEdge nodes node slot s → StandsIn lists target s

-- the same for the first edges, those of the blocks below this number: two for each block
pub record AreTargetsBelow (nodes : List Node) (lists : List (List ℕ)) (below : ℕ)
    (targets : List ℕ) : Type 0 where
  pub long : length targets ≡ 2 * below
  pub each : (e : ℕ) → e < 2 * below
      → IsTargetOf nodes lists (last_of (block_at lists (e / 2))) (e % 2) (number_at targets e)

-- the same for all edges
abbrev pub AreTargets : List Node → List (List ℕ) → List ℕ → Type 0
AreTargets nodes lists targets = AreTargetsBelow nodes lists (length lists) targets

-- these are the blocks, the number of the block of Start, and for each slot of the last node of each block the number
-- of the block to which its edge leads
pub record IsStateNet (nodes : List Node) (lists : List (List ℕ)) (entry : ℕ)
    (targets : List ℕ) : Type 0 where
  pub blocks : IsBlocks nodes lists
  pub entry_is : StandsIn lists entry 0
  pub targets_are : AreTargets nodes lists targets

-- the flow: edge e is that at slot `e % 2` of the last node of block `e / 2`, and `zeros` is known before Start
abbrev pub state_net : {K : Type 0} → ℕ → Along K → List K → List Node → List (List ℕ) → ℕ → List ℕ
    → Net (NodeState K)
state_net height along zeros nodes lists entry targets = record {
  nodes = length lists;
  edges = length targets;
  source = λ e. e / 2;
  target = λ e. number_at targets e;
  start = λ b. 2 * b;
  stop = λ b. 2 * b + 2;
  size = length zeros;
  height = height * length zeros + 1;
  first = λ b. state_where (nat_eq b entry) zeros;
  transfer = λ e s. out_of along nodes (block_at lists (e / 2)) (e % 2) s;
}

-- the flow of a graph and its blocks
abbrev pub net_in : {K : Type 0} → Rules K → GraphShape → BlocksShape → ℕ → List ℕ
    → Net (NodeState K)
net_in rules graph blocks entry targets =
    state_net rules.height (passed_along rules graph.shared graph.received)
    (first_known rules graph.shared (length graph.vars)) graph.nodes blocks.lists entry targets

-- the least states of the blocks of a graph
pub record AreLeastOver {K : Type 0} (below : K → K → Type 0) (rules : Rules K) (graph : GraphShape)
    (blocks : BlocksShape) (states : List (NodeState K)) : Type 0 where
  pub entry : ℕ
  pub targets : List ℕ
  pub is_net : IsStateNet graph.nodes blocks.lists entry targets
  pub long : length states ≡ length blocks.lists
  pub least : HoldsLeast (BelowState below) (net_in rules graph blocks entry targets) states
