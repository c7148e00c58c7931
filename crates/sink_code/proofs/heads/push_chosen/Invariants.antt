use Rattle.std.proofs.Common.{◌≡◌, ◌-◌, ◌≤◌, ◌++◌, drop, length}
use Rattle.sink_code.specs.Puts.{chosen, puts_at}
use Rattle.sink_code.proofs.heads.push_chosen.Given as goal

abbrev pub invariant-loop-from : goal.invariant-loop-from
invariant-loop-from l = record {
  within : l.from ≤ length l.row;
  all : l.puts.items ++ puts_at l.node (chosen (drop l.from l.table) (drop l.from l.row)) ≡ l.initial.puts.items ++ puts_at l.node (chosen l.table l.row);
}

abbrev pub decreases-loop-from : goal.decreases-loop-from
decreases-loop-from l = length l.row - l.from
