-- What comes into a block and is put there or leaves it, pattern by pattern. Cited by contracts of private functions.
use Rattle.std.specs.Prelude.{◌≡◌, ◌⊎◌, ℕ, ◌<◌, ◌≤◌, ◌++◌, Bool, true, false, List, [], ◌∷◌, length, slice_get, slice_set, Option, Some, None}
use Rattle.bit_rows.specs.Bits.{row_bit, row_of}
use Rattle.flow_graph.specs.declared.nodes.Node.{Node}
use Rattle.flow_graph.specs.declared.nodes.Node.TheVariants.{Start, Skip, Assign, Print, Guard, Call, Test, Return}
use Rattle.sink_code.specs.declared.inserting.PutBefore.{PutBefore}
use Rattle.sink_code.specs.declared.over.OverBlocks.{OverBlocks}
use Rattle.sink_code.specs.declared.patterns.Pattern.{Pattern}
use Rattle.sink_code.specs.declared.places.BlockPlaces.{BlockPlaces}
use Rattle.sink_code.specs.Inside.{stop_from}
use Rattle.sink_code.specs.Over.{AreFromHeadsOver, lists_of}
use Rattle.sink_code.specs.BlockPlaces.{AreTakenIn}
use Rattle.sink_code.specs.Puts.{put_at}

-- the table of places has taken in all nodes of the block of this number
pub record IsHeadTaken (over : OverBlocks) (block : ℕ) (places : BlockPlaces) : Type 0 where
  pub list : List ℕ
  pub is_block : slice_get (lists_of over) block ≡ Some list
  pub taken : AreTakenIn over.graph.now block 0 list places

-- the pattern of this number is put before the first node of the block that stops it, or its bit is set in the row of
-- the block
pub record IsSettled (over : OverBlocks) (block number : ℕ) (leaves : List (List Bool))
    (puts : List PutBefore) (rows : List (List Bool)) (now : List PutBefore) : Type 0 where
  pub list : List ℕ
  pub p : Pattern
  pub is_block : slice_get (lists_of over) block ≡ Some list
  pub numbered : slice_get over.table.now number ≡ Some p
  pub either : ((n : ℕ) × (slice_get list (stop_from over.graph.now list 0 p) ≡ Some n)
      × (rows ≡ leaves) × (now ≡ puts ++ put_at n p ∷ []))
      ⊎ ((length list ≤ stop_from over.graph.now list 0 p)
      × (rows ≡ slice_set leaves block (slice_set (row_of leaves block) number true))
      × (now ≡ puts))

-- of the blocks from this one on all patterns that come into them are settled
abbrev pub AreHeadsDone : OverBlocks → List (List Bool) → List (List Bool) → List PutBefore → ℕ
    → List (List Bool) → List PutBefore → Type 0
AreHeadsDone over into leaves puts block rows now =
    AreFromHeadsOver over into leaves puts (λ b k. block ≤ b) rows now

-- of the later blocks, and of this one those below a number and those whose bits are not set in this row
abbrev pub AreHeadDone : OverBlocks → List (List Bool) → List Bool → List (List Bool)
    → List PutBefore → ℕ → ℕ → List (List Bool) → List PutBefore → Type 0
AreHeadDone over into row leaves puts block number rows now =
    AreFromHeadsOver over into leaves puts
    (λ b k. (block < b) ⊎ ((b ≡ block) × ((k < number) ⊎ (row_bit row k ≡ false)))) rows now

-- the successor of a Skip
abbrev pub skip_to : Node → Option ℕ
skip_to (Start next) = None
skip_to (Skip next) = Some next
skip_to (Assign x rhs next) = None
skip_to (Print a next) = None
skip_to (Guard test number next) = None
skip_to (Call into unit operands next) = None
skip_to (Test test taken other) = None
skip_to (Return a) = None
