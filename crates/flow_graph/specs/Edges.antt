-- The edges of a graph in order, by source and by target, and when a graph is split. Cited by contracts, those of the
-- crates above too.
use Rattle.std.specs.Prelude.{◌≡◌, ℕ, zero, suc, ◌+◌, ◌<◌, ◌≤◌, Bool, true, false, ◌&&◌, nat_lt, if◌then◌else◌, nat_eq, List, [], ◌∷◌, ◌++◌, map, length, slice_get, slice_index_or, Option, Some}
use Rattle.flow_graph.specs.declared.edges.Edge.{Edge}
use Rattle.flow_graph.specs.declared.nodes.Node.{Node}
use Rattle.flow_graph.specs.declared.nodes.Node.TheVariants.{Skip}
use Rattle.flow_graph.specs.Graphs.{node_succs}

-- the edges from node n to these successors
abbrev pub leaving : ℕ → List ℕ → List Edge
leaving n [] = []
leaving n (s ∷ succs) = record { source = n; target = s } ∷ leaving n succs

-- the edges that leave a node, which has the number n
abbrev pub leaving_node : ℕ → Node → List Edge
leaving_node n node = leaving n (node_succs node)

-- the edges of the nodes from number n on, by source and then by slot
abbrev pub edges_from : ℕ → List Node → List Edge
edges_from n [] = []
edges_from n (node ∷ nodes) = leaving_node n node ++ edges_from (suc n) nodes

-- all edges as contracts see them, and how many nodes there are
pub record EdgesShape : Type 0 where
  pub nodes : ℕ
  pub edges : List Edge

-- the edges of a graph with these nodes
abbrev pub edges_of : List Node → EdgesShape
edges_of nodes = record { nodes = length nodes; edges = edges_from 0 nodes }

-- ---- by source

-- how many edges leave nodes below n. The edges are in order of source, so this is the number of the first edge of node
-- n, and the end of the edges of the node before
abbrev pub first_leaving : ℕ → List Edge → ℕ
first_leaving n [] = 0
first_leaving n (edge ∷ edges) = (if nat_lt edge.source n then 1 else 0) + first_leaving n edges

-- ---- by target

-- the edges that enter node s, in their order
abbrev pub entering : ℕ → List Edge → List Edge
entering s [] = []
entering s (edge ∷ edges) =
    if nat_eq edge.target s then edge ∷ entering s edges else entering s edges

-- the edges that enter nodes below n: first those of node 0, then those of node 1, and so on
abbrev pub by_target : ℕ → List Edge → List Edge
by_target zero edges = []
by_target (suc n) edges = by_target n edges ++ entering n edges

-- where the edges that enter node n begin among those by target
abbrev pub first_entering : ℕ → List Edge → ℕ
first_entering n edges = length (by_target n edges)

-- the sources of the edges that enter node s, one entry for each edge
abbrev pub preds_among : ℕ → List Edge → List ℕ
preds_among s [] = []
preds_among s (edge ∷ edges) =
    if nat_eq edge.target s then edge.source ∷ preds_among s edges else preds_among s edges

-- the same of the edges of these nodes
abbrev pub preds_of : List Node → ℕ → List ℕ
preds_of nodes s = preds_among s (edges_from 0 nodes)

-- each edge enters a node below n
pub record AllEnter (n : ℕ) (edges : List Edge) : Type 0 where
  pub below : (k : ℕ) (edge : Edge) → slice_get edges k ≡ Some edge → edge.target < n

-- ---- tables

-- the number at each place up to n is that of this function
pub record IsTable (n : ℕ) (number : ℕ → ℕ) (table : List ℕ) : Type 0 where
  pub long : length table ≡ suc n
  pub are : (k : ℕ) → k ≤ n → slice_index_or table k 0 ≡ number k

-- where the edges that leave each node begin, and how many edges there are at the end
abbrev pub AreLeavingStarts : ℕ → List Edge → List ℕ → Type 0
AreLeavingStarts nodes edges starts = IsTable nodes (λ n. first_leaving n edges) starts

-- where the edges that enter each node begin among those by target, and how many edges there are at the end
abbrev pub AreEnteringStarts : ℕ → List Edge → List ℕ → Type 0
AreEnteringStarts nodes edges entries = IsTable nodes (λ n. first_entering n edges) entries

-- the number of the node that an edge leaves
abbrev pub source_of : Edge → ℕ
source_of edge = edge.source

-- the number of the node that an edge enters
abbrev pub entered_by : Edge → ℕ
entered_by edge = edge.target

-- what `Edges` keeps beside the edges: the sources and the targets of the edges by target, and where the edges of each
-- node begin
pub record AreIndexed (nodes : ℕ) (edges : List Edge)
    (preds targets starts entries : List ℕ) : Type 0 where
  pub preds_are : preds ≡ map source_of (by_target nodes edges)
  pub targets_are : targets ≡ map entered_by (by_target nodes edges)
  pub starts_are : AreLeavingStarts nodes edges starts
  pub entries_are : AreEnteringStarts nodes edges entries

-- ---- split graphs

-- each node with more than one entering edge is entered only from Skips, each of which enters it once
pub record IsSplit (nodes : List Node) : Type 0 where
  pub by_skips : (s i n : ℕ) → s < length nodes → 1 < length (preds_of nodes s)
      → slice_get (preds_of nodes s) i ≡ Some n → slice_get nodes n ≡ Some (Skip s)
  pub once : (s i j n : ℕ) → s < length nodes → 1 < length (preds_of nodes s)
      → slice_get (preds_of nodes s) i ≡ Some n
      → slice_get (preds_of nodes s) j ≡ Some n → i ≡ j

-- the node is a Skip to this one
abbrev pub is_skip_to : ℕ → Option Node → Bool
is_skip_to to (Some (Skip next)) = nat_eq next to
is_skip_to to _ = false

-- each of these nodes is a Skip to this one
abbrev pub all_skips : List Node → ℕ → List ℕ → Bool
all_skips nodes to [] = true
all_skips nodes to (n ∷ ns) = is_skip_to to (slice_get nodes n) && all_skips nodes to ns

-- a node that is entered at most once, or by Skips alone
abbrev pub enters_well : List Node → ℕ → Bool
enters_well nodes s =
    if nat_lt 1 (length (preds_of nodes s)) then all_skips nodes s (preds_of nodes s) else true
