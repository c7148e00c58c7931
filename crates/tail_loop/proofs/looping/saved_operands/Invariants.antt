use Rattle.std.proofs.Common.{◌≡◌, ◌+◌, ◌++◌, drop}
use Rattle.program_pass.specs.Puts.{insertions}
use Rattle.tail_loop.specs.Tails.{saved}
use Rattle.tail_loop.proofs.looping.saved_operands.Given as goal

abbrev pub invariant-loop-i : goal.invariant-loop-i
invariant-loop-i l = insertions l.puts.items ++ saved (l.first + l.i) (drop l.i l.operands) ≡ saved l.first l.operands
