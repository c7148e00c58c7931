use Rattle.std.proofs.Common.{◌≡◌, ◌+◌, ◌-◌, ◌++◌}
use Rattle.program_pass.specs.Puts.{insertions}
use Rattle.unit_join.specs.Joins.{copy_number, zeroed}
use Rattle.unit_join.proofs.joining.push_zeroed.Given as goal

abbrev pub invariant-loop-x : goal.invariant-loop-x
invariant-loop-x l = insertions l.puts.items ++ zeroed (copy_number l.to.shared l.to.base) l.received l.x (l.vars - l.x) ≡ insertions l.fn.puts.items ++ zeroed (copy_number l.to.shared l.to.base) l.received l.first (l.vars - l.first)
