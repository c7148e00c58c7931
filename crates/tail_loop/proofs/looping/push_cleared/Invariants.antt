use Rattle.std.proofs.Common.{◌≡◌, ◌-◌, ◌++◌}
use Rattle.program_pass.specs.Puts.{insertions}
use Rattle.tail_loop.specs.Tails.{cleared}
use Rattle.tail_loop.proofs.looping.push_cleared.Given as goal

abbrev pub invariant-loop-x : goal.invariant-loop-x
invariant-loop-x l = insertions l.puts.items ++ cleared l.received l.x (l.vars - l.x) ≡ insertions l.fn.puts.items ++ cleared l.received l.first (l.vars - l.first)
