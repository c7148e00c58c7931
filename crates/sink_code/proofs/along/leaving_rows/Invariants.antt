use Rattle.sink_code.specs.BlockRows.{AreRowsTo, leaves_own}
use Rattle.sink_code.specs.Over.{lists_of}
use Rattle.sink_code.proofs.along.leaving_rows.Given as goal

abbrev pub invariant-loop-block : goal.invariant-loop-block
invariant-loop-block l = AreRowsTo l.block (lists_of l.over) l.over.table.now (leaves_own l.over.graph.now) l.rows
