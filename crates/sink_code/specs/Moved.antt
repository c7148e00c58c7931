-- What is found inside blocks, as the functions see it that go on from there. Cited by contracts of private functions.
use Rattle.std.specs.Prelude.{◌≡◌, ◌↔◌, ℕ, ◌<◌, Bool, true, List, length, slice_get, Some}
use Rattle.path_laws.specs.Paths.{has_bit}
use Rattle.sink_code.specs.declared.inserting.PutBefore.{PutBefore}
use Rattle.sink_code.specs.declared.inside.Inside.{Inside}
use Rattle.sink_code.specs.declared.inside.Leaving.{Leaving}
use Rattle.sink_code.specs.declared.over.OverBlocks.{OverBlocks}
use Rattle.sink_code.specs.Inside.{AreInside}
use Rattle.sink_code.specs.Over.{HaveShapeOver, lists_of}

-- these were found inside the blocks, with the patterns of the table
abbrev pub AreInsideOver : OverBlocks → List PutBefore → List Leaving → Type 0
AreInsideOver over puts leaving = (found : Inside) × AreInside over.graph.now (lists_of over) found
    × (found.puts.items ≡ puts) × (found.table ≡ over.table.now) × (found.leaving.items ≡ leaving)

-- the blocks and the numbers are there
abbrev pub AreWithin : OverBlocks → List Leaving → Type 0
AreWithin over leaving = (i : ℕ) (left : Leaving) → slice_get leaving i ≡ Some left
    → (left.block < length (lists_of over)) × (left.number < length over.table.now)

-- one row for each block, one bit for each pattern: whether the list has the two
pub record AreListedRows (over : OverBlocks) (leaving : List Leaving)
    (rows : List (List Bool)) : Type 0 where
  pub shape : HaveShapeOver over rows
  pub are : (b k : ℕ)
      → (has_bit rows k b ≡ true)
      ↔ ((i : ℕ) × (slice_get leaving i ≡ Some (record { block = b; number = k })))
