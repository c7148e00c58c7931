-- How far the earliest insertions can be delayed, and the lazy placement: as late as they can, and only where a use
-- needs them. Cited by contracts.
use Rattle.std.specs.Prelude.{◌≡◌, ◌⊎◌, ◌↔◌, ◌<◌, ℕ, true, List, [], ◌∷◌, length}
use Rattle.mir_base.specs.declared.instructions.Expr.{Expr}
use Rattle.flow_graph.specs.Graphs.{GraphShape}
use Rattle.flow_graph.specs.Paths.{HasEdge, IsPath, Trace}
use Rattle.path_laws.specs.Paths.{HaveShape}
use Rattle.motion_rewrite.specs.declared.placement.Placement.{Placement}
use Rattle.motion_rewrite.specs.Expressions.{uses}
use Rattle.motion_rewrite.specs.Placements.{Places, ReachesAlong, places_of}
use Rattle.motion_rewrite.specs.Rows.{AreRowsOf, AreRowsWhere}
use Rattle.motion_rewrite.specs.ExprTables.{ForEachExpr}
use Rattle.down_safe.specs.Busy.{IsEarliest}
use Rattle.latest_place.specs.declared.delays.Late.{Late}

-- every path from Start to n has a node, which may be n, that is earliest, such that no node from it up to the one
-- before n uses e
abbrev pub IsDelayed : GraphShape → Expr → (ℕ → Type 0) → ℕ → Type 0
IsDelayed graph e Down n = (before : List ℕ) → Trace graph.nodes n before
    → IsEarliest graph e Down n ⊎ ReachesAlong (IsEarliest graph e Down) (uses graph e) before

-- n is delayed, and uses e or has a successor that is not delayed
abbrev pub IsLatest : GraphShape → Expr → (ℕ → Type 0) → ℕ → Type 0
IsLatest graph e Down n = IsDelayed graph e Down n
    × ((uses graph e n ≡ true)
    ⊎ ((s : ℕ) × HasEdge graph.nodes n s × (IsDelayed graph e Down s → ⊥)))

-- the path comes, through nodes that are not latest, to a node that uses e and is not latest
abbrev pub ComesToUse : GraphShape → Expr → (ℕ → Type 0) → List ℕ → Type 0
ComesToUse graph e Down [] = ⊥
ComesToUse graph e Down (n ∷ []) = (IsLatest graph e Down n → ⊥) × (uses graph e n ≡ true)
ComesToUse graph e Down (m ∷ n ∷ path) = (IsLatest graph e Down m → ⊥)
    × ComesToUse graph e Down (n ∷ path)

-- n is isolated: no path that leaves n comes, through nodes that are not latest, to such a use
abbrev pub IsIsolated : GraphShape → Expr → (ℕ → Type 0) → ℕ → Type 0
IsIsolated graph e Down n = (path : List ℕ) → IsPath graph.nodes (n ∷ path)
    → ComesToUse graph e Down path → ⊥

-- the rows say where each expression of the table is used, delayed, latest and isolated
pub record AreLateRows (graph : GraphShape) (table : List Expr) (Down : Expr → ℕ → Type 0)
    (late : Late) : Type 0 where
  pub uses : AreRowsOf graph table (uses graph) late.uses
  pub delayed : AreRowsWhere graph table (λ e. IsDelayed graph e (Down e)) late.delayed
  pub latest : AreRowsWhere graph table (λ e. IsLatest graph e (Down e)) late.latest
  pub isolated : AreRowsWhere graph table (λ e. IsIsolated graph e (Down e)) late.isolated

-- it inserts at the latest nodes that are not isolated, and replaces the uses that are not both latest and isolated
pub record IsLazy (graph : GraphShape) (e : Expr) (Down : ℕ → Type 0) (p : Places) : Type 0 where
  pub inserts_at : (n : ℕ) → n < length graph.nodes → (p.inserts n ≡ true)
      ↔ (IsLatest graph e Down n × (IsIsolated graph e Down n → ⊥))
  pub replaces_at : (n : ℕ) → n < length graph.nodes → (p.replaces n ≡ true)
      ↔ ((uses graph e n ≡ true) × (IsLatest graph e Down n × IsIsolated graph e Down n → ⊥))

-- the placement is the lazy one of each expression of the table
abbrev pub AreLazy : GraphShape → List Expr → (Expr → ℕ → Type 0) → Placement → Type 0
AreLazy graph table Down p = ForEachExpr table (λ i e. IsLazy graph e (Down e) (places_of p i))

-- the placement has a row for each node and a bit for each expression, and is the lazy one of each expression by the
-- rule
pub record IsLazyPlacement (Down : GraphShape → Expr → ℕ → Type 0) (graph : GraphShape)
    (table : List Expr)
    (placement : Placement) : Type 0 where
  pub insert_rows : HaveShape graph (length table) placement.insert
  pub replace_rows : HaveShape graph (length table) placement.replace
  pub lazy : AreLazy graph table (Down graph) placement
