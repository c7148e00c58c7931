-- Assignments in the place of a node. Cited by contracts.
use Rattle.std.specs.Prelude.{ℕ, List, [], ◌∷◌, ◌++◌, length, slice_set}
use Rattle.flow_graph.specs.declared.nodes.Node.{Node}
use Rattle.flow_graph.specs.declared.nodes.Node.TheVariants.{Assign, Skip}
use Rattle.graph_edit.specs.Insertions.{Insertion, chain, entry_among}

-- The nodes with these assignments in the place of node n: it becomes the first of them, the others are new nodes in
-- order, and the last leads to node `end`. Where there are none, it becomes a Skip to `end`
abbrev pub stood : List Node → ℕ → List Insertion → ℕ → List Node
stood nodes n [] end = slice_set nodes n (Skip end)
stood nodes n (put ∷ puts) end =
    slice_set nodes n (Assign put.var put.rhs (entry_among end (length nodes) puts))
    ++ chain end (length nodes) puts
