-- The graph in which each flagged assignment became a Skip. Cited by contracts, those of dead_code and sink_rounds too.
use Rattle.std.specs.Prelude.{ℕ, suc, Bool, true, false, List, [], ◌∷◌, slice_index_or}
use Rattle.flow_graph.specs.declared.nodes.Node.{Node}
use Rattle.flow_graph.specs.Graphs.{GraphShape}
use Rattle.graph_edit.specs.Insertions.{Change, Unchanged, Removed, changed}

-- a flag of the list, and past it none
abbrev pub flag_at : List Bool → ℕ → Bool
flag_at flags n = slice_index_or flags n false

-- what becomes of a node that is flagged, or is not
abbrev pub removed_if : Bool → Change
removed_if true = Removed
removed_if false = Unchanged

-- the nodes from number n on, of which each flagged assignment is a Skip with the same successor
abbrev pub pruned_from : (ℕ → Bool) → ℕ → List Node → List Node
pruned_from flagged n [] = []
pruned_from flagged n (node ∷ nodes) =
    changed (removed_if (flagged n)) node ∷ pruned_from flagged (suc n) nodes

-- the graph in which each flagged assignment is a Skip with the same successor
abbrev pub graph_flagged : List Bool → GraphShape → GraphShape
graph_flagged flags graph = record graph { nodes = pruned_from (flag_at flags) 0 graph.nodes }
