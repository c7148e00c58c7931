use Rattle.std.proofs.Common.{◌≡◌}
use Rattle.sink_code.specs.Written.{numbers_below}
use Rattle.sink_code.proofs.writing.numbers_below.Given as goal

abbrev pub invariant-loop-number : goal.invariant-loop-number
invariant-loop-number l = l.numbers.items ≡ numbers_below l.number
