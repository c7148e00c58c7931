use Rattle.std.proofs.Common.{◌≡◌, ◌+◌, ◌++◌, drop}
use Rattle.program_pass.specs.Puts.{insertions}
use Rattle.tail_loop.specs.Tails.{moved}
use Rattle.tail_loop.proofs.looping.push_moved.Given as goal

abbrev pub invariant-loop-i : goal.invariant-loop-i
invariant-loop-i l = insertions l.puts.items ++ moved (l.first + l.i) (drop l.i l.received) ≡ insertions l.fn.puts.items ++ moved l.first l.received
