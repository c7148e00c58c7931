-- Which patterns come into blocks, and which of them are blocked there. Cited by contracts of private functions.
use Rattle.std.specs.Prelude.{◌≡◌, ℕ, ◌&&◌, Bool, true, List, slice_get, Some}
use Rattle.bit_rows.specs.Bits.{row_bit}
use Rattle.path_laws.specs.Paths.{has_bit}
use Rattle.sink_code.specs.declared.between.Coming.{Coming}
use Rattle.sink_code.specs.declared.over.OverBlocks.{OverBlocks}
use Rattle.sink_code.specs.declared.patterns.Pattern.{Pattern}
use Rattle.sink_code.specs.BlockRows.{is_blocked_in}
use Rattle.sink_code.specs.Over.{AreIntoOver, HaveShapeOver, lists_of}

-- the second rows say which patterns of the first some node of the block blocks
pub record HasBlocked (over : OverBlocks) (coming : Coming) : Type 0 where
  pub into_shape : HaveShapeOver over coming.into
  pub shape : HaveShapeOver over coming.blocked
  pub are : (b k : ℕ) (list : List ℕ) (p : Pattern) → slice_get (lists_of over) b ≡ Some list
      → slice_get over.table.now k ≡ Some p
      → has_bit coming.blocked k b
      ≡ (is_blocked_in over.graph.now p list && has_bit coming.into k b)

-- and the first say which come into each block
pub record AreComing (over : OverBlocks) (coming : Coming) : Type 0 where
  pub into : AreIntoOver over coming.into
  pub blocked : HasBlocked over coming

-- what is set in the row comes into the block
abbrev pub ComeInto : List (List Bool) → ℕ → List Bool → Type 0
ComeInto into block row = (k : ℕ) → row_bit row k ≡ true → has_bit into k block ≡ true
