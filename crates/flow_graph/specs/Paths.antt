-- Paths of a graph: as lists of nodes in the order in which they are passed, and as the nodes before a node, the
-- nearest first. Cited by contracts of path_laws and motion_rewrite.
use Rattle.std.specs.Prelude.{◌≡◌, ℕ, ◌<◌, Bool, true, false, List, [], ◌∷◌, length, slice_get, Option, Some}
use Rattle.flow_graph.specs.declared.nodes.Node.{Node}
use Rattle.flow_graph.specs.declared.nodes.Node.TheVariants.{Return}
use Rattle.flow_graph.specs.Graphs.{IsEdge}

-- n is a successor of m
abbrev pub HasEdge : List Node → ℕ → ℕ → Type 0
HasEdge nodes m n = (slot : ℕ) × IsEdge nodes m slot n

-- at least one node, each a successor of the one before
abbrev pub IsPath : List Node → List ℕ → Type 0
IsPath nodes [] = ⊥
IsPath nodes (n ∷ []) = n < length nodes
IsPath nodes (m ∷ n ∷ path) = HasEdge nodes m n × IsPath nodes (n ∷ path)

-- the path begins at node n
abbrev pub Begins : ℕ → List ℕ → Type 0
Begins n [] = ⊥
Begins n (m ∷ path) = m ≡ n

-- the path ends at node n
abbrev pub Ends : ℕ → List ℕ → Type 0
Ends n [] = ⊥
Ends n (m ∷ []) = m ≡ n
Ends n (m ∷ k ∷ path) = Ends n (k ∷ path)

-- the node is a Return
abbrev pub is_return : Option Node → Bool
is_return (Some (Return a)) = true
is_return _ = false

-- node n is a Return
abbrev pub IsReturnAt : List Node → ℕ → Type 0
IsReturnAt nodes n = is_return (slice_get nodes n) ≡ true

-- a path from Start to a Return
pub record IsFullPath (nodes : List Node) (path : List ℕ) : Type 0 where
  pub is_path : IsPath nodes path
  pub begins : Begins 0 path
  pub last : ℕ
  pub ends : Ends last path
  pub returns : IsReturnAt nodes last

-- a path from Start to node n; the list has the nodes before n, the nearest first
pub data Trace (nodes : List Node) : ℕ → List ℕ → Type 0 where
  from_start : Trace nodes 0 []
  goes_on : (m n : ℕ) (before : List ℕ) → Trace nodes m before → HasEdge nodes m n
      → Trace nodes n (m ∷ before)
