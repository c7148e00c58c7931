use Rattle.sink_code.specs.Along.{HasPassed}
use Rattle.sink_code.proofs.along.pass_all.Given as goal

abbrev pub invariant-loop-index : goal.invariant-loop-index
invariant-loop-index l = HasPassed l.over l.block l.list l.index l.rows
