use Rattle.sink_code.specs.BlockRows.{AreRowsTo, is_blocked_in}
use Rattle.sink_code.proofs.between.blocked_rows.Given as goal

abbrev pub invariant-loop-block : goal.invariant-loop-block
invariant-loop-block l = AreRowsTo l.block l.over.blocks.now.lists l.over.table.now (is_blocked_in l.over.graph.now) l.rows
