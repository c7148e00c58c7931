-- On which edges a placement holds the temporary of an expression: those that a path takes from an insertion to a
-- replaced use with no other insertion on the way. Which placement holds it on the fewest. Cited by contracts.
use Rattle.std.specs.Prelude.{◌≡◌, ◌⊎◌, ◌↔◌, ◌<◌, ℕ, Bool, true, false, List, [], ◌∷◌, length, slice_get, Some}
use Rattle.mir_base.specs.declared.instructions.Expr.{Expr}
use Rattle.flow_graph.specs.declared.edges.Edge.{Edge}
use Rattle.flow_graph.specs.declared.nodes.Node.{Node}
use Rattle.flow_graph.specs.Edges.{edges_of}
use Rattle.flow_graph.specs.Graphs.{GraphShape}
use Rattle.flow_graph.specs.Paths.{Ends, IsPath, IsReturnAt}
use Rattle.path_laws.specs.Paths.{AreRows, has_bit}
use Rattle.motion_rewrite.specs.declared.placement.Placement.{Placement}
use Rattle.motion_rewrite.specs.Placements.{IsOptimal, Places, places_of}
use Rattle.motion_rewrite.specs.ExprTables.{ForEachExpr}

-- ---- paths

-- some path leads from node n to a Return
pub record ReachesReturn (nodes : List Node) (n : ℕ) : Type 0 where
  pub later : List ℕ
  pub is_path : IsPath nodes (n ∷ later)
  pub last : ℕ
  pub ends : Ends last (n ∷ later)
  pub returns : IsReturnAt nodes last

-- before no node of the path is something inserted
abbrev pub InsertsNowhere : Places → List ℕ → Type 0
InsertsNowhere p [] = Unit {0}
InsertsNowhere p (n ∷ path) = (p.inserts n ≡ false) × InsertsNowhere p path

-- the path goes from an insertion, before its first node, to a replaced use, which is its last, with no other insertion
-- on the way; and from this use a Return is reached
pub record CarriesToUse (nodes : List Node) (p : Places) (start : ℕ) (later : List ℕ) : Type 0 where
  pub is_path : IsPath nodes (start ∷ later)
  pub inserted : p.inserts start ≡ true
  pub no_other : InsertsNowhere p later
  pub last : ℕ
  pub ends : Ends last (start ∷ later)
  pub replaced : p.replaces last ≡ true
  pub returns : ReachesReturn nodes last

-- somewhere on the path n comes right after m
abbrev pub AreNeighbours : ℕ → ℕ → List ℕ → Type 0
AreNeighbours m n [] = ⊥
AreNeighbours m n (k ∷ []) = ⊥
AreNeighbours m n (k ∷ l ∷ path) = ((k ≡ m) × (l ≡ n)) ⊎ AreNeighbours m n (l ∷ path)

-- the temporary is held from m to n: they are neighbours on such a path. Of a use from which no Return is reached
-- nothing is said, since no full path meets it, by which placements are compared
pub record IsHeld (nodes : List Node) (p : Places) (m n : ℕ) : Type 0 where
  pub start : ℕ
  pub later : List ℕ
  pub carries : CarriesToUse nodes p start later
  pub along : AreNeighbours m n (start ∷ later)

-- ---- all expressions of a table

-- one row for each edge, with a bit for each expression: whether its temporary is held on the edge
pub record AreHeldEdges (graph : GraphShape) (table : List Expr) (p : Placement)
    (rows : List (List Bool)) : Type 0 where
  pub shape : AreRows (length (edges_of graph.nodes).edges) (length table) rows
  pub bits : (k i : ℕ) (edge : Edge) → slice_get (edges_of graph.nodes).edges k ≡ Some edge
      → i < length table
      → (has_bit rows i k ≡ true) ↔ IsHeld graph.nodes (places_of p i) edge.source edge.target

-- ---- the fewest edges

-- whatever placement of e is optimal, it holds the temporary wherever this one does
abbrev pub IsHeldLeast : GraphShape → Expr → (ℕ → Type 0) → Places → Type 0
IsHeldLeast graph e Down p = (other : Places) → IsOptimal graph e Down other → (m n : ℕ)
    → IsHeld graph.nodes p m n
    → IsHeld graph.nodes other m n

-- so it is of each expression of the table
abbrev pub AreHeldLeast : GraphShape → List Expr → (Expr → ℕ → Type 0) → Placement → Type 0
AreHeldLeast graph table Down p =
    ForEachExpr table (λ i e. IsHeldLeast graph e (Down e) (places_of p i))
