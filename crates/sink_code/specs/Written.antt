-- The graph in which the assignments have sunk as it is written: its old nodes, and after them what is inserted, in one
-- list in order. Cited by contracts of private functions.
use Rattle.std.specs.Prelude.{◌≡◌, ℕ, zero, suc, ◌<◌, if◌then◌else◌, nat_eq, List, [], ◌∷◌, ◌++◌, length, map, slice_get, slice_set, Option, Some, None}
use Rattle.flow_graph.specs.declared.nodes.Node.{Node}
use Rattle.flow_graph.specs.declared.nodes.Node.TheVariants.{Assign}
use Rattle.flow_graph.specs.Retained.{redirected_by}
use Rattle.graph_edit.specs.Insertions.{changed}
use Rattle.sink_code.specs.declared.inserting.PutBefore.{PutBefore}
use Rattle.graph_edit.specs.Accesses.{is_sinkable}
use Rattle.sink_code.specs.SunkGraphs.{emptied}

-- each insertion stands before one of so many nodes
abbrev pub AllPutBelow : ℕ → List PutBefore → Type 0
AllPutBelow count puts = (i : ℕ) (put : PutBefore) → slice_get puts i ≡ Some put → put.node < count

-- the numbers below this one
abbrev pub numbers_below : ℕ → List ℕ
numbers_below zero = []
numbers_below (suc n) = numbers_below n ++ n ∷ []

-- where edges lead once these insertions, numbered from k on, stand before their nodes: to the first of each node
abbrev pub edge_ends : List ℕ → ℕ → List PutBefore → List ℕ
edge_ends to k [] = to
edge_ends to k (put ∷ puts) = slice_set (edge_ends to (suc k) puts) put.node k

-- an old node: a Skip in the place of an occurrence, and with its edges led to the insertions before their targets
abbrev pub written_old : List ℕ → Node → Node
written_old to node = redirected_by to (changed (emptied (is_sinkable (Some node))) node)

-- where an insertion before this node leads: to the next one, where it is before the same node, and has this number
abbrev pub next_or_node : ℕ → ℕ → Option PutBefore → ℕ
next_or_node node number None = node
next_or_node node number (Some put) = if nat_eq put.node node then number else node

-- the nodes of insertions that are numbered from k on
abbrev pub linked : ℕ → List PutBefore → List Node
linked k [] = []
linked k (put ∷ puts) =
    Assign put.var put.rhs (next_or_node put.node (suc k) (slice_get puts 0)) ∷ linked (suc k) puts

-- all nodes
abbrev pub written_nodes : List PutBefore → List Node → List Node
written_nodes puts nodes =
    map (written_old (edge_ends (numbers_below (length nodes)) (length nodes) puts)) nodes
    ++ linked (length nodes) puts
