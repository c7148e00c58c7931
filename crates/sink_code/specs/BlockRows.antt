-- Rows by blocks of a graph and patterns of a table: which patterns are blocked in a block, leave it, and come into it.
-- Cited by contracts of private functions.
use Rattle.std.specs.Prelude.{◌≡◌, ◌≢◌, ℕ, ◌<◌, ◌↔◌, ◌&&◌, not, Bool, true, false, List, length, slice_get, Some}
use Rattle.std.specs.List.{list_any}
use Rattle.flow_graph.specs.Graphs.{GraphShape}
use Rattle.flow_graph.specs.Paths.{Begins}
use Rattle.path_laws.specs.Paths.{AreRows, has_bit}
use Rattle.sink_code.specs.declared.patterns.Pattern.{Pattern}
use Rattle.graph_edit.specs.Accesses.{blocks_at}
use Rattle.sink_code.specs.Delaying.{IsDelayedTo}
use Rattle.sink_code.specs.Inside.{leaves}

-- one row for each of the blocks below this number, one bit for each pattern: whether the test holds of the pattern in
-- the block
pub record AreRowsTo (count : ℕ) (lists : List (List ℕ)) (table : List Pattern)
    (holds : Pattern → List ℕ → Bool) (rows : List (List Bool)) : Type 0 where
  pub shape : AreRows count (length table) rows
  pub are : (b k : ℕ) (list : List ℕ) (p : Pattern) → b < count → slice_get lists b ≡ Some list
      → slice_get table k ≡ Some p → has_bit rows k b ≡ holds p list

-- one row for each block
abbrev pub AreBlockRows : List (List ℕ) → List Pattern → (Pattern → List ℕ → Bool)
    → List (List Bool) → Type 0
AreBlockRows lists table holds rows = AreRowsTo (length lists) lists table holds rows

-- some node of the block blocks the pattern
abbrev pub is_blocked_in : GraphShape → Pattern → List ℕ → Bool
is_blocked_in graph p list = list_any (blocks_at p.var p.rhs graph) list

-- Start does not stand in the block of this number
abbrev pub IsApartFromStart : List (List ℕ) → ℕ → Type 0
IsApartFromStart lists b = (i n : ℕ) (list : List ℕ) → slice_get lists b ≡ Some list
    → slice_get list i ≡ Some n → n ≢ 0

-- the pattern leaves a block in which it occurs
abbrev pub leaves_own : GraphShape → Pattern → List ℕ → Bool
leaves_own graph p list = leaves graph p.var p.rhs false list

-- it is lost in the block: a node blocks it, and it does not leave the block
abbrev pub is_lost_in : GraphShape → Pattern → List ℕ → Bool
is_lost_in graph p list = is_blocked_in graph p list && not (leaves_own graph p list)

-- one row for each block, one bit for each pattern: whether the pattern is delayed at the block's first node
pub record AreInto (graph : GraphShape) (lists : List (List ℕ)) (table : List Pattern)
    (rows : List (List Bool)) : Type 0 where
  pub shape : AreRows (length lists) (length table) rows
  pub are : (b k head : ℕ) (list : List ℕ) (p : Pattern) → slice_get lists b ≡ Some list
      → Begins head list → slice_get table k ≡ Some p
      → (has_bit rows k b ≡ true) ↔ IsDelayedTo graph p.var p.rhs head
