use Rattle.sink_code.specs.Along.{AreCarriedTo}
use Rattle.sink_code.proofs.along.carried_rows.Given as goal

abbrev pub invariant-loop-block : goal.invariant-loop-block
invariant-loop-block l = AreCarriedTo l.over l.block l.rows
