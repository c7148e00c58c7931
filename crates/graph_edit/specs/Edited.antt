-- How an editor keeps its graph: each old node has a list of nodes that ends with it, and edges lead to lists. Cited
-- by contracts of src/editor.rt alone.
use Rattle.std.specs.Prelude.{◌≡◌, ℕ, suc, ◌<◌, ◌≤◌, if◌then◌else◌, nat_lt, List, [], ◌∷◌, length, take, slice_get, Option, Some, None}
use Rattle.node_list.specs.Lists.{Lists, list_at, is_listed, node_after}
use Rattle.flow_graph.specs.declared.nodes.Node.{Node}
use Rattle.flow_graph.specs.Graphs.{IsEdge, IsGraph, SuccsBelow}
use Rattle.flow_graph.specs.Retained.{redirected}
use Rattle.flow_graph.specs.Paths.{Ends}

-- the number, or 0 where there is none
abbrev pub number_or_none : Option ℕ → ℕ
number_or_none None = 0
number_or_none (Some n) = n

-- where the edge of node m that leads to list s ends: an old node's at the first node of the list, a new node's at the
-- next node of its own list
abbrev pub leads : List (List ℕ) → ℕ → ℕ → ℕ
leads lists m s = if nat_lt m (length lists) then number_or_none (slice_get (list_at lists s) 0)
    else number_or_none (node_after lists m)

-- the nodes from number m on, with their edges
abbrev pub edited_from : List (List ℕ) → ℕ → List Node → List Node
edited_from lists m [] = []
edited_from lists m (node ∷ nodes) =
    redirected (leads lists m) node ∷ edited_from lists (suc m) nodes

-- the nodes of the graph: the first `used` of those kept, with their edges
abbrev pub edited_nodes : List (List ℕ) → ℕ → List Node → List Node
edited_nodes lists used nodes = edited_from lists 0 (take used nodes)

-- so many of the nodes are used, the first ones, and the others are room; there is a list for each of `olds` nodes
pub record HoldsEdits (vars : List (List ℕ)) (received : List ℕ) (nodes : List Node) (olds used : ℕ)
    (links : Lists) : Type 0 where
  pub room : used ≤ length nodes
  pub links_room : links.nodes ≡ length nodes
  pub count : length links.lists ≡ olds
  pub some : olds ≤ used
  pub listed : (n : ℕ) → is_listed links.lists n ≡ nat_lt n used
  pub ends : (s : ℕ) → s < olds → Ends s (list_at links.lists s)
  pub follows : (m : ℕ) → olds ≤ m → m < used → (k : ℕ) × (node_after links.lists m ≡ Some k)
  pub targets : (m slot s : ℕ) → m < olds → IsEdge nodes m slot s → s < olds
  pub graph : IsGraph vars received (edited_nodes links.lists used nodes)

-- ---- what `Editor::close` passes on

-- the first node of each of so many lists
abbrev pub AreFirsts : ℕ → List (List ℕ) → List ℕ → Type 0
AreFirsts count lists firsts = (s : ℕ) → s < count
    → slice_get firsts s ≡ Some (number_or_none (slice_get (list_at lists s) 0))

-- each list has a first node
abbrev pub EachHasFirst : List (List ℕ) → Type 0
EachHasFirst lists = (s : ℕ) → s < length lists → (k : ℕ) × (slice_get (list_at lists s) 0 ≡ Some k)

-- so many old nodes stand first, and their edges lead to old nodes
abbrev pub OldsLeadToOlds : ℕ → List Node → Type 0
OldsLeadToOlds olds nodes = (n : ℕ) (node : Node) → n < olds → slice_get nodes n ≡ Some node
    → SuccsBelow olds node
