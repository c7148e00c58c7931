-- From which nodes a replaced use is come to with no insertion on the way: from them the held edges are read. Cited by
-- contracts of private functions.
use Rattle.std.specs.Prelude.{◌≡◌, ◌↔◌, ◌<◌, ◌&&◌, ℕ, Bool, true, List, ◌∷◌, length, map, slice_get}
use Rattle.flow_graph.specs.declared.edges.Edge.{Edge}
use Rattle.flow_graph.specs.declared.nodes.Node.{Node}
use Rattle.flow_graph.specs.Graphs.{GraphShape}
use Rattle.flow_graph.specs.Paths.{Ends, IsPath, is_return}
use Rattle.bit_rows.specs.Bits.{AreAlike, row_of}
use Rattle.path_laws.specs.Paths.{AreRows, Tell, has_bit}
use Rattle.motion_rewrite.specs.declared.placement.Placement.{Placement}
use Rattle.motion_rewrite.specs.Placements.{Places, places_of}
use Rattle.live_range.specs.Held.{InsertsNowhere, ReachesReturn}

-- a path from node n comes to a replaced use, from which a Return is reached, and before none of its nodes, n and the
-- use included, is something inserted
pub record IsWanted (nodes : List Node) (p : Places) (n : ℕ) : Type 0 where
  pub later : List ℕ
  pub is_path : IsPath nodes (n ∷ later)
  pub nowhere : InsertsNowhere p (n ∷ later)
  pub last : ℕ
  pub ends : Ends last (n ∷ later)
  pub replaced : p.replaces last ≡ true
  pub returns : ReachesReturn nodes last

-- of so many expressions, the rows tell at which nodes each is wanted
abbrev pub AreWantedRows : GraphShape → ℕ → Placement → List (List Bool) → Type 0
AreWantedRows graph bits p rows =
    Tell graph bits rows (λ b n. IsWanted graph.nodes (places_of p b) n)

-- one row for each node, whose one bit says whether the node is a Return
pub record AreReturnRows (nodes : List Node) (rows : List (List Bool)) : Type 0 where
  pub shape : AreRows (length nodes) 1 rows
  pub bits : (n : ℕ) → n < length nodes → has_bit rows 0 n ≡ is_return (slice_get nodes n)

-- one row for each node of the graph, whose one bit says whether a Return is reached from it
pub record AreReachingRows (graph : GraphShape) (rows : List (List Bool)) : Type 0 where
  pub shape : AreRows (length graph.nodes) 1 rows
  pub bits : (n : ℕ) → n < length graph.nodes
      → (has_bit rows 0 n ≡ true) ↔ ReachesReturn graph.nodes n

-- as many rows, and as long, each with only bits that the other row of its number has
pub record HaveOnlyBitsOf (other rows : List (List Bool)) : Type 0 where
  pub alike : AreAlike other rows
  pub bits : (n b : ℕ) → has_bit rows b n ≡ true → has_bit other b n ≡ true

-- of the rows of the nodes below a number those stay whose one bit is set in these, and the others lose all bits; the
-- rows from the number on are as they were
pub record AreMaskedBelow (below : ℕ) (mask old new : List (List Bool)) : Type 0 where
  pub len : length new ≡ length old
  pub each : (n : ℕ) → length (row_of new n) ≡ length (row_of old n)
  pub done : (n b : ℕ) → n < below → n < length old
      → has_bit new b n ≡ (has_bit old b n && has_bit mask 0 n)
  pub later : (n : ℕ) → (n < below → ⊥) → row_of new n ≡ row_of old n

-- the row of each edge is that of its target
abbrev pub rows_by_target : List Edge → List (List Bool) → List (List Bool)
rows_by_target edges rows = map (λ edge. row_of rows edge.target) edges
