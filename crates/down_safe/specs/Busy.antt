-- The earliest nodes, and the busy placement, which inserts there. Cited by contracts.
use Rattle.std.specs.Prelude.{◌≡◌, ◌⊎◌, ◌↔◌, ◌<◌, ℕ, true, List, length}
use Rattle.mir_base.specs.declared.instructions.Expr.{Expr}
use Rattle.flow_graph.specs.Blocks.{AreBlocksOf}
use Rattle.flow_graph.specs.Edges.{IsSplit, edges_of}
use Rattle.flow_graph.specs.Graphs.{GraphShape}
use Rattle.flow_graph.specs.Paths.{HasEdge}
use Rattle.motion_rewrite.specs.declared.placement.Placement.{Placement}
use Rattle.motion_rewrite.specs.Expressions.{kills, uses}
use Rattle.motion_rewrite.specs.Placements.{IsAvailable, IsSafe, Places, places_of}
use Rattle.motion_rewrite.specs.Rows.{AreRowsOf, AreRowsWhere}
use Rattle.motion_rewrite.specs.ExprTables.{ForEachExpr}
use Rattle.down_safe.specs.declared.safety.Busy.{Busy}
use Rattle.down_safe.specs.declared.safety.EarliestSites.{EarliestSites}
use Rattle.down_safe.specs.declared.safety.Sites.{Sites}

-- the graph is split, and the rows say where each expression of the table is used and killed
pub record AreSitesOf (sites : Sites) (table : List Expr) : Type 0 where
  pub split : IsSplit sites.graph.now.nodes
  pub edges_are : sites.edges.now ≡ edges_of sites.graph.now.nodes
  pub blocks_are : AreBlocksOf sites.graph.now.nodes sites.blocks.now
  pub uses_are : AreRowsOf sites.graph.now table (uses sites.graph.now) sites.uses.now
  pub kills_are : AreRowsOf sites.graph.now table (kills sites.graph.now) sites.kills.now

-- n is down, and some predecessor kills e or is not safe
abbrev pub IsEarliest : GraphShape → Expr → (ℕ → Type 0) → ℕ → Type 0
IsEarliest graph e Down n = Down n
    × ((m : ℕ) × HasEdge graph.nodes m n × ((kills graph e m ≡ true) ⊎ (IsSafe graph e Down m → ⊥)))

-- the rows say where each expression of the table is used, available, down by the rule, and earliest
pub record AreBusyRows (graph : GraphShape) (table : List Expr) (Down : Expr → ℕ → Type 0)
    (busy : Busy) : Type 0 where
  pub uses : AreRowsOf graph table (uses graph) busy.uses
  pub available : AreRowsWhere graph table (IsAvailable graph) busy.available
  pub anticipatable : AreRowsWhere graph table Down busy.anticipatable
  pub earliest : AreRowsWhere graph table (λ e. IsEarliest graph e (Down e)) busy.earliest

-- the rows say where each expression of the table is used, and earliest
pub record AreEarliestOf (graph : GraphShape) (table : List Expr) (Down : Expr → ℕ → Type 0)
    (sites : EarliestSites) : Type 0 where
  pub uses : AreRowsOf graph table (uses graph) sites.uses
  pub earliest : AreRowsWhere graph table (λ e. IsEarliest graph e (Down e)) sites.earliest

-- it inserts at the earliest nodes, and replaces every use
pub record IsBusy (graph : GraphShape) (e : Expr) (Down : ℕ → Type 0) (p : Places) : Type 0 where
  pub inserts_at : (n : ℕ) → n < length graph.nodes
      → (p.inserts n ≡ true) ↔ IsEarliest graph e Down n
  pub replaces_at : (n : ℕ) → n < length graph.nodes → p.replaces n ≡ uses graph e n

-- the placement is the busy one of each expression of the table
abbrev pub AreBusy : GraphShape → List Expr → (Expr → ℕ → Type 0) → Placement → Type 0
AreBusy graph table Down p = ForEachExpr table (λ i e. IsBusy graph e (Down e) (places_of p i))
