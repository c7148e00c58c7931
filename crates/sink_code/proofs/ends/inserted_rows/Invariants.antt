use Rattle.sink_code.specs.Ends.{AreEndedTo}
use Rattle.sink_code.proofs.ends.inserted_rows.Given as goal

abbrev pub invariant-loop-number : goal.invariant-loop-number
invariant-loop-number l = AreEndedTo l.over l.number l.rows
