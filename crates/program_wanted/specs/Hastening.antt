-- What is kept of the units while demands are raised by it. Cited by contracts of private functions.
use Rattle.std.specs.Prelude.{◌≡◌, ℕ, min, List, [], ◌∷◌, map, length, slice_get, Option, Some, None}
use Rattle.mir_base.specs.Frames.{shared_vars}
use Rattle.flow_graph.specs.Graphs.{GraphShape}
use Rattle.wanted_bits.specs.declared.kept.Kept.{Kept}
use Rattle.wanted_bits.specs.declared.preparing.Prepared.{Prepared}
use Rattle.wanted_bits.specs.KeptRows.{FitsKept, LieBelow}
use Rattle.wanted_bits.specs.Walking.{bits_at}
use Rattle.program_wanted.specs.declared.hastening.Entered.{Entered}
use Rattle.program_wanted.specs.Demands.{AreServed, Demands, IsServed}

-- of the unit u with this graph: it lies below the numbers by which any demands serve it that serve all, and below 64 bits
-- of each variable
pub record KeptOf (graphs : List GraphShape) (u : ℕ) (graph : GraphShape) (ready : Prepared)
    (kept : Kept) : Type 0 where
  pub fits : FitsKept graph ready kept
  pub below : (others : Demands) → AreServed graphs others → (unit : IsServed others graph u)
      → LieBelow graph ready unit.wanted kept
  pub whole : LieBelow graph ready (λ n x. 64) kept

-- where these are its graph and what is made of it
abbrev pub IsKept : List GraphShape → List Prepared → ℕ → Kept → Type 0
IsKept graphs all u kept = (graph : GraphShape) (ready : Prepared) → slice_get graphs u ≡ Some graph
    → slice_get all u ≡ Some ready → KeptOf graphs u graph ready kept

-- of the first units
pub record AreKeptBelow (graphs : List GraphShape) (all : List Prepared) (count : ℕ)
    (keeping : List Kept) : Type 0 where
  pub long : length keeping ≡ count
  pub each : (u : ℕ) (kept : Kept) → slice_get keeping u ≡ Some kept → IsKept graphs all u kept

-- of all
abbrev pub AreKept : List GraphShape → List Prepared → List Kept → Type 0
AreKept graphs all keeping = AreKeptBelow graphs all (length graphs) keeping

-- what is asked for of the variable x at Start, and nothing where that is not known
abbrev pub kept_at : List (Option (List ℕ)) → ℕ → ℕ
kept_at [] x = 0
kept_at (None ∷ asks) x = 0
kept_at (Some widths ∷ asks) x = min 64 (bits_at widths x)

-- of each global and each argument
pub record AreEntered (graph : GraphShape) (asks : List (Option (List ℕ))) (entered : Entered)
    : Type 0 where
  pub globals : entered.globals ≡ map (kept_at asks) (shared_vars graph.shared)
  pub arguments : entered.arguments ≡ map (kept_at asks) graph.received
