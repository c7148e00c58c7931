-- Which variables are live after a node, and which globals are handed on from it. Cited by contracts.
use Rattle.std.specs.Prelude.{ℕ, Bool, true, false, slice_get, Option, Some, None}
use Rattle.flow_graph.specs.declared.nodes.Node.{Node}
use Rattle.flow_graph.specs.declared.nodes.Node.TheVariants.{Start, Skip, Assign, Print, Guard, Call, Test, Return}
use Rattle.flow_graph.specs.Graphs.{GraphShape}
use Rattle.flow_graph.specs.Paths.{HasEdge}
use Rattle.path_laws.specs.Paths.{BornAhead}
use Rattle.graph_edit.specs.Accesses.{assigns_at, reads_at}

-- x is live before n: some path from n comes to a node that reads x, with no node before that one assigning it
abbrev pub IsLiveBefore : GraphShape → ℕ → ℕ → Type 0
IsLiveBefore graph x n = BornAhead graph.nodes (reads_at graph x) (assigns_at graph x) n

-- x is live after n: it is live before some successor
abbrev pub IsLiveAfter : GraphShape → ℕ → ℕ → Type 0
IsLiveAfter graph x n = (s : ℕ) × HasEdge graph.nodes n s × IsLiveBefore graph x s

-- ---- globals

-- the node, where there is one, hands the globals on: a Call to the unit that it calls, a Return to the caller
abbrev pub hands_on : Option Node → Bool
hands_on None = false
hands_on (Some (Start next)) = false
hands_on (Some (Skip next)) = false
hands_on (Some (Assign x rhs next)) = false
hands_on (Some (Print a next)) = false
hands_on (Some (Guard test number next)) = false
hands_on (Some (Call into unit operands next)) = true
hands_on (Some (Test test taken other)) = false
hands_on (Some (Return a)) = true

-- the value that x has before n is handed on: some path from n comes to a node that hands the globals on, with no node
-- before that one assigning x
abbrev pub IsHandedOn : GraphShape → ℕ → ℕ → Type 0
IsHandedOn graph x n =
    BornAhead graph.nodes (λ m. hands_on (slice_get graph.nodes m)) (assigns_at graph x) n
