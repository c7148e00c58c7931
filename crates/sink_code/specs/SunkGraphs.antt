-- The graph in which the assignments have sunk: what is put before each node, and what becomes of the old ones. Cited
-- by contracts.
use Rattle.std.specs.Prelude.{◌≡◌, ◌↔◌, ◌<◌, ◌≤◌, ℕ, suc, if◌then◌else◌, Bool, List, [], ◌∷◌, length, slice_get, Option, Some}
use Rattle.mir_base.specs.declared.instructions.Rhs.{Rhs}
use Rattle.flow_graph.specs.Graphs.{GraphShape}
use Rattle.graph_edit.specs.Insertions.{Insertion, Change, Unchanged, Removed, Rewriting, rewritten}
use Rattle.sink_code.specs.Sinking.{put_for}
use Rattle.graph_edit.specs.Accesses.{is_sinkable}
use Rattle.sink_code.specs.Delaying.{IsDelayedTo, IsInsertedAt}

-- ---- what is inserted

-- the variables of the insertions rise, from this number on
abbrev pub RisesFrom : ℕ → List Insertion → Type 0
RisesFrom low [] = Unit {0}
RisesFrom low (put ∷ puts) = (low ≤ put.var) × RisesFrom (suc put.var) puts

-- what stands before node n: exactly the patterns that are inserted there, in order of their variables
pub record AreInsertedAt (graph : GraphShape) (n : ℕ) (puts : List Insertion) : Type 0 where
  pub exact : (x : ℕ) (t : Rhs) → (put_for puts x ≡ Some t) ↔ IsInsertedAt graph x t n
  pub in_order : RisesFrom 0 puts

-- `delayed n x` is the right side of the one pattern of x that is delayed at node n, where one is, and `inserts n` is
-- what is put before it. Nothing is put before what is no node
pub record AreInsertions (graph : GraphShape) (delayed : ℕ → ℕ → Option Rhs) (inserts : ℕ
    → List Insertion) : Type 0 where
  pub delayed_are : (n x : ℕ) (t : Rhs) → n < length graph.nodes
      → (delayed n x ≡ Some t) ↔ IsDelayedTo graph x t n
  pub inserts_are : (n : ℕ) → n < length graph.nodes → AreInsertedAt graph n (inserts n)
  pub none_past : (n : ℕ) → length graph.nodes ≤ n → inserts n ≡ []

-- ---- the graph

-- every occurrence becomes Skip
abbrev pub emptied : Bool → Change
emptied sinkable = if sinkable then Removed else Unchanged

-- occurrences become Skips, and these stand before each node
abbrev pub sinking : GraphShape → (ℕ → List Insertion) → Rewriting
sinking graph
    inserts = record {
      inserts = inserts;
      changes = λ n. emptied (is_sinkable (slice_get graph.nodes n));
    }

-- the graph in which the assignments have sunk
pub record IsSunk (graph sunk : GraphShape) : Type 0 where
  pub delayed : ℕ → ℕ → Option Rhs
  pub inserts : ℕ → List Insertion
  pub insertions : AreInsertions graph delayed inserts
  pub is : sunk ≡ rewritten (sinking graph inserts) [] graph
