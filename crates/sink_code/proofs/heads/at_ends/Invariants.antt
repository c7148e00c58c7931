use Rattle.sink_code.specs.Over.{ArePutAtEndsOver}
use Rattle.sink_code.proofs.heads.at_ends.Given as goal

abbrev pub invariant-loop-block : goal.invariant-loop-block
invariant-loop-block l = ArePutAtEndsOver l.over l.into l.leaves l.block l.initial.puts.items l.puts.items
