-- The keys of nodes, taken into a list one after the other. Cited by contracts.
use Rattle.std.specs.Prelude.{◌≡◌, List, [], ◌∷◌, Option}
use Rattle.flow_graph.specs.declared.nodes.Node.{Node}
use Rattle.key_table.specs.Keys.{IsWithSome}

-- the list with the key of each node in turn at its end, where it was new
abbrev pub TakesKeys : {K : Type 0} → (Node → Option K) → List Node → List K → List K → Type 0
TakesKeys key_of [] old new = new ≡ old
TakesKeys {K = K} key_of (node ∷ nodes) old new = (with_one : List K)
    × IsWithSome old (key_of node) with_one × TakesKeys key_of nodes with_one new
