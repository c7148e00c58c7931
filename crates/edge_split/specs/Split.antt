-- The split graph: a new Skip on each edge that enters a node with more than one entering edge. Cited by contracts.
use Rattle.std.specs.Prelude.{◌≡◌, ℕ, suc, ◌+◌, Bool, if◌then◌else◌, nat_lt, filter, List, [], ◌∷◌, ◌++◌, length, map, min, slice_index, slice_set}
use Rattle.flow_graph.specs.declared.edges.Edge.{Edge}
use Rattle.flow_graph.specs.declared.nodes.Node.{Node}
use Rattle.flow_graph.specs.declared.nodes.Node.TheVariants.{Start, Skip, Assign, Print, Guard, Call, Test}
use Rattle.flow_graph.specs.Edges.{edges_from, preds_among, preds_of}
use Rattle.flow_graph.specs.Graphs.{GraphShape, node_succs}
use Rattle.node_list.specs.Lists.{times_in}

-- more than one of these edges enters node s
abbrev pub is_entered_twice : List Edge → ℕ → Bool
is_entered_twice edges s = nat_lt 1 (length (preds_among s edges))

-- this list of numbers of edges has more than one for node s
abbrev pub has_more : List ℕ → ℕ → Bool
has_more entries s = nat_lt 1 (slice_index entries s)

-- for each node how many edges enter it, counted up to two
abbrev pub CountEntries : List Node → List ℕ → Type 0
CountEntries nodes counts = (s : ℕ) → slice_index counts s ≡ min 2 (length (preds_of nodes s))

-- the second counts are the first with these successors counted too, up to two for each node
abbrev pub AddEntries : List ℕ → List ℕ → List ℕ → Type 0
AddEntries counts counts' succs = (s : ℕ)
    → slice_index counts' s ≡ min 2 (slice_index counts s + times_in s succs)

-- one more for one node
abbrev pub entered_again : List ℕ → ℕ → List ℕ
entered_again counts node = slice_set counts node (min 2 (slice_index counts node + 1))

-- more than one edge enters node s
abbrev pub is_join : List Node → ℕ → Bool
is_join nodes = is_entered_twice (edges_from 0 nodes)

-- the edges that enter joins, in the order of source and then of successor slot
abbrev pub joining : List Node → List Edge
joining nodes = filter (λ edge. is_join nodes edge.target) (edges_from 0 nodes)

-- of these successors, those that are joins
abbrev pub joins_among : (ℕ → Bool) → List ℕ → List ℕ
joins_among join succs = filter join succs

-- each successor that is a join gives way to a new Skip; the new Skips are numbered from k on
abbrev pub through_skips : (ℕ → Bool) → ℕ → List ℕ → List ℕ
through_skips join k [] = []
through_skips join k (s ∷ succs) =
    if join s then k ∷ through_skips join (suc k) succs else s ∷ through_skips join k succs

-- the node with these successors
abbrev pub with_succs : Node → List ℕ → Node
with_succs (Start next) (a ∷ _) = Start a
with_succs (Skip next) (a ∷ _) = Skip a
with_succs (Assign x rhs next) (a ∷ _) = Assign x rhs a
with_succs (Print b next) (a ∷ _) = Print b a
with_succs (Guard t n next) (a ∷ _) = Guard t n a
with_succs (Call into unit operands next) (a ∷ _) = Call into unit operands a
with_succs (Test test taken other) (a ∷ b ∷ _) = Test test a b
with_succs node _ = node

-- the nodes whose edges into joins lead to new Skips, numbered from k on in the order of the edges
abbrev pub rerouted : (ℕ → Bool) → ℕ → List Node → List Node
rerouted join k [] = []
rerouted join k (node ∷ nodes) =
    with_succs node (through_skips join k (node_succs node)) ∷ rerouted join
    (k + length (joins_among join (node_succs node))) nodes

-- the old nodes, whose edges into joins lead to new Skips, and after them these Skips, one for each such edge
abbrev pub split_nodes : List Node → List Node
split_nodes nodes =
    rerouted (is_join nodes) (length nodes) nodes ++ map (λ edge. Skip edge.target) (joining nodes)

-- the graph with new Skips, in which old nodes keep their numbers
pub record IsEdgeSplit (graph result : GraphShape) : Type 0 where
  pub name_is : result.name ≡ graph.name
  pub shared_is : result.shared ≡ graph.shared
  pub vars_are : result.vars ≡ graph.vars
  pub received_are : result.received ≡ graph.received
  pub nodes_are : result.nodes ≡ split_nodes graph.nodes
