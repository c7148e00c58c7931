use Rattle.sink_code.specs.Ends.{AreBothTo}
use Rattle.sink_code.proofs.ends.both_rows.Given as goal

abbrev pub invariant-loop-node : goal.invariant-loop-node
invariant-loop-node l = AreBothTo l.over l.blocked l.delayed l.node l.rows
