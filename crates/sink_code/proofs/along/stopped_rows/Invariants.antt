use Rattle.sink_code.specs.BlockRows.{AreRowsTo, is_blocked_in}
use Rattle.sink_code.specs.Over.{lists_of}
use Rattle.sink_code.proofs.along.stopped_rows.Given as goal

abbrev pub invariant-loop-block : goal.invariant-loop-block
invariant-loop-block l = AreRowsTo l.block (lists_of l.over) l.over.table.now (is_blocked_in l.over.graph.now) l.rows
