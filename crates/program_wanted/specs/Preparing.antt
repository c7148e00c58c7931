-- What is made of the graph of each unit once, and what is used again where it is served anew. Cited by contracts of
-- private functions.
use Rattle.std.specs.Prelude.{◌≡◌, ℕ, List, length, slice_get, Some}
use Rattle.flow_graph.specs.Graphs.{GraphShape}
use Rattle.wanted_bits.specs.declared.preparing.Prepared.{Prepared}
use Rattle.wanted_bits.specs.Preparing.{IsPrepared}
use Rattle.program_wanted.specs.declared.raising.UnitAsks.{UnitAsks}

-- of the first graphs
pub record ArePreparedBelow (graphs : List GraphShape) (count : ℕ) (all : List Prepared)
    : Type 0 where
  pub long : length all ≡ count
  pub are : (u : ℕ) (graph : GraphShape) (one : Prepared) → slice_get graphs u ≡ Some graph
      → slice_get all u ≡ Some one → IsPrepared graph one

-- of all
abbrev pub ArePrepared : List GraphShape → List Prepared → Type 0
ArePrepared graphs all = ArePreparedBelow graphs (length graphs) all

-- there is a place for what each node of the unit asks for
abbrev pub FitsUnit : List GraphShape → ℕ → UnitAsks → Type 0
FitsUnit graphs u asks = (graph : GraphShape) → slice_get graphs u ≡ Some graph
    → length asks.calls.items ≡ length graph.nodes

-- of each of the first units
pub record AreAskListsBelow (graphs : List GraphShape) (count : ℕ) (all : List UnitAsks)
    : Type 0 where
  pub long : length all ≡ count
  pub each : (u : ℕ) (asks : UnitAsks) → slice_get all u ≡ Some asks → FitsUnit graphs u asks

-- of all
abbrev pub AreAskLists : List GraphShape → List UnitAsks → Type 0
AreAskLists graphs all = AreAskListsBelow graphs (length graphs) all
