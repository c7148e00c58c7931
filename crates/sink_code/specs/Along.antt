-- Rows by nodes that are found block by block: what comes into a block is taken through its nodes. Cited by contracts of
-- private functions.
use Rattle.std.specs.Prelude.{◌≡◌, ◌≢◌, ◌+◌, ◌<◌, ℕ, ◌↔◌, ◌&&◌, ◌||◌, not, Bool, true, false, List, length, take, slice_get, Option, Some, IfSome}
use Rattle.bit_rows.specs.Bits.{row_of}
use Rattle.flow_graph.specs.Blocks.{StandsIn}
use Rattle.path_laws.specs.Paths.{AreRows, has_bit}
use Rattle.sink_code.specs.declared.over.OverBlocks.{OverBlocks}
use Rattle.sink_code.specs.declared.patterns.Pattern.{Pattern}
use Rattle.graph_edit.specs.Accesses.{blocks_at, occurs_at}
use Rattle.sink_code.specs.BlockRows.{leaves_own}
use Rattle.sink_code.specs.Delaying.{IsDelayedTo, IsInsertedAt}
use Rattle.sink_code.specs.Inside.{comes_past}
use Rattle.sink_code.specs.Over.{lists_of}
use Rattle.sink_code.specs.PatternRows.{AreRowsTelling, ArePatternRows}

-- ---- of all nodes

-- the rows say at which nodes each pattern is blocked
abbrev pub AreBlockedIn : OverBlocks → List (List Bool) → Type 0
AreBlockedIn over rows =
    ArePatternRows over.graph.now over.table.now (λ x t. blocks_at x t over.graph.now) rows

-- at which each is delayed
abbrev pub AreDelayedIn : OverBlocks → List (List Bool) → Type 0
AreDelayedIn over rows =
    AreRowsTelling over.graph.now over.table.now (IsDelayedTo over.graph.now) rows

-- and before which each is inserted
abbrev pub AreInsertedIn : OverBlocks → List (List Bool) → Type 0
AreInsertedIn over rows =
    AreRowsTelling over.graph.now over.table.now (IsInsertedAt over.graph.now) rows

-- ---- one node

-- the number is that of the pattern of the table that occurs at node n
pub record TellsOccurrence (over : OverBlocks) (n : ℕ) (number : Option ℕ) : Type 0 where
  pub within : IfSome number (λ k. k < length over.table.now)
  pub tells : (k : ℕ) (p : Pattern) → slice_get over.table.now k ≡ Some p
      → (number ≡ Some k) ↔ (occurs_at p.var p.rhs over.graph.now n ≡ true)

-- one row is that of what comes past node n where the old row came to it, and the others are as they were
pub record IsPassedOver (over : OverBlocks) (n row : ℕ) (old new : List (List Bool)) : Type 0 where
  pub len : length new ≡ length old
  pub long : length (row_of new row) ≡ length (row_of old row)
  pub others : (m : ℕ) → m ≢ row → row_of new m ≡ row_of old m
  pub bits : (k : ℕ) (p : Pattern) → slice_get over.table.now k ≡ Some p
      → has_bit new k row
      ≡ (occurs_at p.var p.rhs over.graph.now n
      || (has_bit old k row && not (blocks_at p.var p.rhs over.graph.now n)))

-- to one row is joined what comes past node `before`, of which the old rows say what came to it, and the others are as
-- they were
pub record IsHandedOver (over : OverBlocks) (before node : ℕ)
    (old new : List (List Bool)) : Type 0 where
  pub len : length new ≡ length old
  pub long : length (row_of new node) ≡ length (row_of old node)
  pub others : (m : ℕ) → m ≢ node → row_of new m ≡ row_of old m
  pub bits : (k : ℕ) (p : Pattern) → slice_get over.table.now k ≡ Some p
      → has_bit new k node
      ≡ (occurs_at p.var p.rhs over.graph.now before
      || (has_bit old k node
      || (has_bit old k before && not (blocks_at p.var p.rhs over.graph.now before))))

-- ---- one block after the other

-- the row of the block says what comes past the nodes of this list before an index, and those before it which patterns
-- leave their blocks
pub record HasPassed (over : OverBlocks) (block : ℕ) (list : List ℕ) (index : ℕ)
    (rows : List (List Bool)) : Type 0 where
  pub len : length rows ≡ block + 1
  pub each : (b : ℕ) → b < length rows → length (row_of rows b) ≡ length over.table.now
  pub before : (b k : ℕ) (other : List ℕ) (p : Pattern) → b < block
      → slice_get (lists_of over) b ≡ Some other → slice_get over.table.now k ≡ Some p
      → has_bit rows k b ≡ leaves_own over.graph.now p other
  pub here : (k : ℕ) (p : Pattern) → slice_get over.table.now k ≡ Some p
      → has_bit rows k block ≡ comes_past over.graph.now p.var p.rhs false (take index list)

-- one row for each node, one bit for each pattern: what is set is delayed there, and of the nodes of the blocks below
-- this number all that is delayed is set
pub record AreCarriedTo (over : OverBlocks) (count : ℕ) (rows : List (List Bool)) : Type 0 where
  pub shape : AreRows (length over.graph.now.nodes) (length over.table.now) rows
  pub only : (n k : ℕ) (p : Pattern) → slice_get over.table.now k ≡ Some p → has_bit rows k n ≡ true
      → IsDelayedTo over.graph.now p.var p.rhs n
  pub all : (b n k : ℕ) (p : Pattern) → b < count → slice_get over.table.now k ≡ Some p
      → StandsIn (lists_of over) b n → IsDelayedTo over.graph.now p.var p.rhs n
      → has_bit rows k n ≡ true
