-- What holds while the nodes of the blocks are rewritten. Cited by contracts of private functions.
use Rattle.std.specs.Prelude.{◌≡◌, ℕ, ◌<◌, List, length, slice_get, slice_index_or, take, ◌⊎◌, Some}
use Rattle.flow_graph.specs.declared.nodes.Node.{Node}
use Rattle.flow_graph.specs.Graphs.{GraphShape}
use Rattle.cond_flow.specs.Rules.{Rules}
use Rattle.cond_flow.specs.States.{NodeState, Unreached}
use Rattle.cond_flow.specs.Passing.{passed_along}
use Rattle.cond_flow.specs.Becoming.{becomes_at, nodes_become}
use Rattle.cond_flow.specs.Blockwise.{Along, through_nodes}
use Rattle.cond_flow.specs.Solutions.{HasLeastStates}

-- the states of these nodes are what passes to each from the first, which has the state s
abbrev pub AreThrough : {K : Type 0} → Along K → List Node → List ℕ → NodeState K
    → (ℕ → NodeState K) → Type 0
AreThrough along nodes list s states = (i n : ℕ) → slice_get list i ≡ Some n
    → states n ≡ through_nodes along nodes (take i list) s

-- node n has become what it becomes by its state
abbrev pub HasBecome : {K : Type 0} → Rules K → (ℕ → NodeState K) → List Node → List Node → ℕ
    → Type 0
HasBecome rules states nodes made n = (node : Node) → slice_get nodes n ≡ Some node
    → slice_get made n ≡ Some (becomes_at rules (states n) node)

-- node n is one of the first `count` of these
abbrev pub IsAmong : List ℕ → ℕ → ℕ → Type 0
IsAmong list count n = (i : ℕ) × (i < count) × (slice_get list i ≡ Some n)

-- Each node among the first `count` of the list has been rewritten by the state before it, which is the state at the first
-- node of the block passed through the nodes between; every other node is as it was.
pub record RewritesBlock {K : Type 0} (rules : Rules K) (along : Along K) (nodes : List Node)
    (list : List ℕ)
    (s : NodeState K) (count : ℕ) (old new : List Node) : Type 0 where
  pub long : length new ≡ length old
  pub become : (states : ℕ → NodeState K) → AreThrough along nodes list s states → (n : ℕ)
      → HasBecome rules states nodes old n ⊎ IsAmong list count n
      → HasBecome rules states nodes new n

-- the same of the nodes of a block of a graph
abbrev pub RewritesIn : {K : Type 0} → Rules K → GraphShape → List ℕ → NodeState K → ℕ → List Node
    → List Node → Type 0
RewritesIn rules graph list s count old new =
    RewritesBlock rules (passed_along rules graph.shared graph.received) graph.nodes
    list s count old new

-- the state of the block of this number
abbrev pub value_of : {K : Type 0} → List (NodeState K) → ℕ → NodeState K
value_of values b = slice_index_or values b (Unreached 0)

-- the states of the nodes are what passes to each from the first node of its block
abbrev pub AreThroughBlocks : {K : Type 0} → Along K → List Node → List (List ℕ)
    → List (NodeState K)
    → (ℕ → NodeState K) → Type 0
AreThroughBlocks along nodes lists values states =
    (b : ℕ) (list : List ℕ) → slice_get lists b ≡ Some list
    → AreThrough along nodes list (value_of values b) states

-- the nodes of the blocks below this number have become what they become
pub record RewritesBlocks {K : Type 0} (rules : Rules K) (along : Along K) (nodes : List Node)
    (lists : List (List ℕ))
    (values : List (NodeState K)) (below : ℕ) (made : List Node) : Type 0 where
  pub long : length made ≡ length nodes
  pub become : (states : ℕ → NodeState K) → AreThroughBlocks along nodes lists values states
      → (b i n : ℕ) (list : List ℕ) → b < below → slice_get lists b ≡ Some list
      → slice_get list i ≡ Some n
      → HasBecome rules states nodes made n

-- these are what the nodes of the graph become by its least states
pub record HaveBecome {K : Type 0} (below : K → K → Type 0) (rules : Rules K) (graph : GraphShape)
    (nodes : List Node) : Type 0 where
  pub states : ℕ → NodeState K
  pub least : HasLeastStates below rules graph states
  pub are : nodes ≡ nodes_become rules states graph.nodes
