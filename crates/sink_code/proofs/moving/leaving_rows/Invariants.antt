use Rattle.std.proofs.Common.{length}
use Rattle.sink_code.proofs.ListedBits.{AreListedTo}
use Rattle.sink_code.proofs.moving.leaving_rows.Given as goal

abbrev pub invariant-loop-left : goal.invariant-loop-left
invariant-loop-left l = AreListedTo (length l.over.blocks.now.lists) (length l.over.table.now) l.leaving l.left-index l.rows
