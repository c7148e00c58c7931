-- What an editor does to the nodes of a graph: it puts new assignments before nodes, one at a time, and changes
-- assignments. Cited by contracts, those of motion_rewrite too.
use Rattle.std.specs.Prelude.{ℕ, zero, suc, Bool, true, false, if◌then◌else◌, nat_eq, List, [], ◌∷◌, ◌++◌, map, length, Option, Some, None}
use Rattle.mir_base.specs.declared.instructions.Rhs.{Rhs}
use Rattle.mir_base.specs.Shapes.{AllBelow, rhs_vars}
use Rattle.flow_graph.specs.declared.nodes.Node.{Node}
use Rattle.flow_graph.specs.declared.nodes.Node.TheVariants.{Assign}
use Rattle.flow_graph.specs.Graphs.{GraphShape}
use Rattle.flow_graph.specs.Retained.{redirected}
use Rattle.graph_edit.specs.Insertions.{Insertion, Change, Replaced, Removed, changed}

-- a graph, and how many assignments there still is room for
pub record EditorShape : Type 0 where
  pub graph : GraphShape
  pub spare : ℕ

-- where an edge to n leads once node `new` is put before `node`
abbrev pub past : ℕ → ℕ → ℕ → ℕ
past node new n = if nat_eq n node then new else n

-- a new node gets the next number: all edges that entered `node` enter it, and its successor is `node`
abbrev pub put_before : ℕ → ℕ → Rhs → List Node → List Node
put_before node x rhs nodes =
    map (redirected (past node (length nodes))) nodes ++ Assign x rhs node ∷ []

-- one node changed
abbrev pub change_at : ℕ → Change → List Node → List Node
change_at n change [] = []
change_at zero change (node ∷ nodes) = changed change node ∷ nodes
change_at (suc n) change (node ∷ nodes) = node ∷ change_at n change nodes

-- ---- edits in order

-- all of these put before node n, in order
abbrev pub put_all : ℕ → List Insertion → List Node → List Node
put_all n [] nodes = nodes
put_all n (put ∷ puts) nodes = put_all n puts (put_before n put.var put.rhs nodes)

-- what is to be put before each of so many nodes from n on, in order of the nodes
abbrev pub put_each : (ℕ → List Insertion) → ℕ → ℕ → List Node → List Node
put_each inserts zero n nodes = nodes
put_each inserts (suc count) n nodes = put_each inserts count (suc n) (put_all n (inserts n) nodes)

-- each of so many nodes from n on changed
abbrev pub change_each : (ℕ → Change) → ℕ → ℕ → List Node → List Node
change_each changes zero n nodes = nodes
change_each changes (suc count) n nodes =
    change_each changes count (suc n) (change_at n (changes n) nodes)

-- ---- on graphs

-- the graph with an assignment put before a node
abbrev pub graph_put : ℕ → ℕ → Rhs → GraphShape → GraphShape
graph_put node x rhs graph = record graph { nodes = put_before node x rhs graph.nodes }

-- the graph with a node changed
abbrev pub graph_changed : ℕ → Change → GraphShape → GraphShape
graph_changed node change graph = record graph { nodes = change_at node change graph.nodes }

-- the graph with more variables
abbrev pub graph_extended : List (List ℕ) → GraphShape → GraphShape
graph_extended extra graph = record graph { vars = graph.vars ++ extra }

-- another right side, or none
abbrev pub change_to : Option Rhs → Change
change_to None = Removed
change_to (Some rhs) = Replaced rhs

-- the variables of a right side, where there is one, are below a bound
abbrev pub rhs_below : ℕ → Option Rhs → Type 0
rhs_below vars None = Unit {0}
rhs_below vars (Some rhs) = AllBelow vars (rhs_vars rhs)

-- the node is an assignment
abbrev pub is_assignment : Option Node → Bool
is_assignment (Some (Assign x rhs next)) = true
is_assignment _ = false

-- the graph with several assignments put before a node
abbrev pub graph_put_all : ℕ → List Insertion → GraphShape → GraphShape
graph_put_all n puts graph = record graph { nodes = put_all n puts graph.nodes }

-- with those for each node below a bound put before it
abbrev pub graph_put_each : (ℕ → List Insertion) → ℕ → GraphShape → GraphShape
graph_put_each inserts count graph = record graph { nodes = put_each inserts count 0 graph.nodes }

-- with each node below a bound changed
abbrev pub graph_change_each : (ℕ → Change) → ℕ → GraphShape → GraphShape
graph_change_each changes count graph = record graph
    { nodes = change_each changes count 0 graph.nodes }
