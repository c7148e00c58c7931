use Rattle.sink_code.proofs.Carrying.{AreAlong}
use Rattle.sink_code.proofs.along.carry.Given as goal

abbrev pub invariant-loop-place : goal.invariant-loop-place
invariant-loop-place l = AreAlong l.over l.block l.list l.place l.rows
