use Rattle.std.proofs.Common.{◌≡◌, length}
use Rattle.div_move.specs.SlotFlow.{AreDownRowsTo}
use Rattle.div_move.proofs.solving.down_rows.Given as goal

abbrev pub invariant-loop-node : goal.invariant-loop-node
invariant-loop-node g l = record {
  rows : AreDownRowsTo l.flow l.work l.node l.rows;
  first : length l.room.first ≡ l.flow.bits;
  second : length l.room.second ≡ l.flow.bits;
}
