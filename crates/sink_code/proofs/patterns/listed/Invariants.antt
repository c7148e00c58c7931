use Rattle.std.proofs.Common.{◌≡◌, take}
use Rattle.sink_code.proofs.patterns.listed.Given as goal

abbrev pub invariant-loop-number : goal.invariant-loop-number
invariant-loop-number l = l.patterns.items ≡ take l.number l.table
