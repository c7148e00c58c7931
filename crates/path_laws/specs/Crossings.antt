-- How many edges lead from the last node of a block to the first of one. Cited by contracts.
use Rattle.std.specs.Prelude.{ℕ, ◌+◌, ◌*◌, nat_eq, if◌then◌else◌, Bool, false, ◌&&◌, List, [], ◌∷◌}
use Rattle.std.specs.List.{list_any}
use Rattle.flow_graph.specs.declared.edges.Edge.{Edge}
use Rattle.flow_graph.specs.Blocks.{BlocksShape}
use Rattle.flow_graph.specs.Edges.{EdgesShape}
use Rattle.path_laws.specs.Paths.{width}

-- whether a list begins with this node
abbrev pub begins_with : ℕ → List ℕ → Bool
begins_with n [] = false
begins_with n (m ∷ list) = nat_eq m n

-- whether it ends with it
abbrev pub ends_with : ℕ → List ℕ → Bool
ends_with n [] = false
ends_with n (m ∷ []) = nat_eq m n
ends_with n (m ∷ k ∷ list) = ends_with n (k ∷ list)

-- whether an edge leads from the last node of a block to the first of one
abbrev pub crosses : List (List ℕ) → Edge → Bool
crosses lists edge =
    list_any (ends_with edge.source) lists && list_any (begins_with edge.target) lists

-- how many of these edges do
abbrev pub crossings : List (List ℕ) → List Edge → ℕ
crossings lists [] = 0
crossings lists (edge ∷ edges) = (if crosses lists edge then 1 else 0) + crossings lists edges

-- by how much the counter of pushes of a path call may rise: those edges, each once more often than a row has bits
abbrev pub push_room : BlocksShape → EdgesShape → List (List Bool) → ℕ
push_room blocks edges rows = crossings blocks.lists edges.edges * (width rows + 1)
