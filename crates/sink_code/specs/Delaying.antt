-- Where an assignment is delayed to, and where it is inserted, each as a statement on paths. Cited by contracts.
use Rattle.std.specs.Prelude.{◌≡◌, ◌≢◌, ◌⊎◌, ℕ, true, false, slice_get, Some}
use Rattle.mir_base.specs.declared.instructions.Rhs.{Rhs}
use Rattle.mir_base.specs.Shapes.{rhs_vars}
use Rattle.flow_graph.specs.declared.nodes.Node.TheVariants.{Skip}
use Rattle.flow_graph.specs.Graphs.{GraphShape}
use Rattle.flow_graph.specs.Numbering.{is_in}
use Rattle.flow_graph.specs.Paths.{HasEdge}
use Rattle.path_laws.specs.Paths.{BornBefore}
use Rattle.graph_edit.specs.Accesses.{blocks_at, occurs_at}

-- the pattern x <- t is delayed at n: on every path from Start to n it occurs before n, and after that, before n, no
-- node blocks it
abbrev pub IsDelayedTo : GraphShape → ℕ → Rhs → ℕ → Type 0
IsDelayedTo graph x t n = BornBefore graph.nodes (occurs_at x t graph) (blocks_at x t graph) n

-- it is inserted before n: it is delayed at n, and n blocks it or has a successor at which it is not delayed
abbrev pub IsInsertedAt : GraphShape → ℕ → Rhs → ℕ → Type 0
IsInsertedAt graph x t n = IsDelayedTo graph x t n
    × ((blocks_at x t graph n ≡ true)
    ⊎ ((s : ℕ) × HasEdge graph.nodes n s × ¬ (IsDelayedTo graph x t s)))

-- where a pattern is inserted before node n though n does not block it, n is a Skip: n leads to a node that others lead
-- to, at which the pattern is not delayed
abbrev pub IsPassedAtSkips : GraphShape → ℕ → Type 0
IsPassedAtSkips graph n = (x : ℕ) (t : Rhs) → IsInsertedAt graph x t n
    → blocks_at x t graph n ≡ false → (next : ℕ)
    × (slice_get graph.nodes n ≡ Some (Skip next))

-- of the patterns that are inserted before node n no two have one variable, and none assigns what another reads: none
-- blocks another
pub record AreApartAt (graph : GraphShape) (n : ℕ) : Type 0 where
  pub one : (x : ℕ) (t u : Rhs) → IsInsertedAt graph x t n → IsInsertedAt graph x u n → t ≡ u
  pub apart : (x y : ℕ) (t u : Rhs) → IsInsertedAt graph x t n → IsInsertedAt graph y u n → x ≢ y
      → is_in y (rhs_vars t) ≡ false
