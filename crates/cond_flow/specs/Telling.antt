-- What holds while it is told of the nodes of the blocks by their states. Cited by contracts of private functions.
use Rattle.std.specs.Prelude.{◌≡◌, ◌⊎◌, ℕ, ◌<◌, List, length, slice_get, slice_set, Option, Some, Vec}
use Rattle.std.specs.Option.{option_map}
use Rattle.flow_graph.specs.declared.nodes.Node.{Node}
use Rattle.flow_graph.specs.Graphs.{GraphShape}
use Rattle.cond_flow.specs.Handing.{handed_at}
use Rattle.cond_flow.specs.KnownBefore.{state_of_known}
use Rattle.cond_flow.specs.Rules.{Rules}
use Rattle.cond_flow.specs.Passing.{passed_along}
use Rattle.cond_flow.specs.Blockwise.{Along}
use Rattle.cond_flow.specs.Rewriting.{AreThrough, AreThroughBlocks, IsAmong}
use Rattle.cond_flow.specs.States.{NodeState, size_of}

-- this is what the state says
abbrev pub IsTold : {K : Type 0} → {A : Type 0} → NodeState K → Option (Vec K A) → Type 0
IsTold s told = s ≡ state_of_known (size_of s) (option_map (λ list. list.items) told)

-- what may be told of a node by its number and its state
abbrev pub Teller : Type 0 → Type 0 → Type 1
Teller K B = ℕ → NodeState K → B → Type 0

-- what the state says
abbrev pub TellsStates : {K : Type 0} → {A : Type 0} → Teller K (Option (Vec K A))
TellsStates n s told = IsTold s told

-- what the node hands over or back, which is a node of this graph
abbrev pub TellsHanded : {K : Type 0} → {A : Type 0} → Rules K → GraphShape → Teller K (Option (Vec K A))
TellsHanded rules graph n s told = (node : Node) → slice_get graph.nodes n ≡ Some node
    → option_map (λ list. list.items) told ≡ handed_at rules graph.shared node s

-- what is told of node n is what may be told of it by its state
abbrev pub IsToldAt : {K : Type 0} → {B : Type 0} → Teller K B → (ℕ → NodeState K) → List B → ℕ
    → Type 0
IsToldAt {B = B} Tells states all n =
    (told : B) → slice_get all n ≡ Some told → Tells n (states n) told

-- what may be told by this state was put at node n
abbrev pub IsToldOf : {K : Type 0} → {B : Type 0} → Teller K B → ℕ → NodeState K
    → (old new : List B) → Type 0
IsToldOf {B = B} Tells n s old new =
    (told : B) × Tells n s told × (new ≡ slice_set old n told)

-- of the first `count` of these nodes is told by their states, which pass from the first, and so it is of those of which
-- it was told before
pub record TellsBlock {K : Type 0} {B : Type 0} (Tells : Teller K B) (along : Along K)
    (nodes : List Node) (list : List ℕ) (s : NodeState K)
    (count : ℕ) (old new : List B) : Type 0 where
  pub long : length new ≡ length old
  pub tells : (states : ℕ → NodeState K) → AreThrough along nodes list s states → (n : ℕ)
      → IsToldAt Tells states old n ⊎ IsAmong list count n → IsToldAt Tells states new n

-- the same of the nodes of a block of a graph
abbrev pub TellsIn : {K : Type 0} → {A : Type 0} → Rules K → GraphShape → List ℕ → NodeState K → ℕ
    → (old new : List (Option (Vec K A))) → Type 0
TellsIn rules graph list s count old new =
    TellsBlock TellsStates (passed_along rules graph.shared graph.received) graph.nodes list s
    count old new

-- of what they hand over or back
abbrev pub HandsIn : {K : Type 0} → {A : Type 0} → Rules K → GraphShape → List ℕ → NodeState K → ℕ
    → (old new : List (Option (Vec K A))) → Type 0
HandsIn rules graph list s count old new =
    TellsBlock (TellsHanded rules graph) (passed_along rules graph.shared graph.received)
    graph.nodes list s count old new

-- so it is of the nodes of the blocks below this number
pub record TellsBlocks {K : Type 0} {B : Type 0} (Tells : Teller K B) (along : Along K)
    (nodes : List Node) (lists : List (List ℕ))
    (values : List (NodeState K)) (below : ℕ) (all : List B) : Type 0 where
  pub long : length all ≡ length nodes
  pub tells : (states : ℕ → NodeState K) → AreThroughBlocks along nodes lists values states
      → (b i n : ℕ) (list : List ℕ) → b < below → slice_get lists b ≡ Some list
      → slice_get list i ≡ Some n
      → IsToldAt Tells states all n
