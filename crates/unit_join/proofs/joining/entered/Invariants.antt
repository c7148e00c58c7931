use Rattle.std.proofs.Common.{◌≡◌, ◌+◌, ◌-◌, ◌++◌, drop, length}
use Rattle.program_pass.specs.Puts.{insertions}
use Rattle.unit_join.specs.Joins.{copy_number, entered}
use Rattle.unit_join.proofs.joining.entered.Given as goal

abbrev pub decreases-loop-i : goal.decreases-loop-i
decreases-loop-i l = length l.received - l.i

abbrev pub invariant-loop-i : goal.invariant-loop-i
invariant-loop-i l = insertions l.puts.items ++ entered (copy_number l.to.shared l.to.base) (drop l.i l.received) (drop l.i l.operands) ≡ entered (copy_number l.to.shared l.to.base) l.received l.operands
