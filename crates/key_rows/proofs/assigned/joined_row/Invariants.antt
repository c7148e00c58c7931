use Rattle.std.proofs.Common.{◌≡◌}
use Rattle.key_rows.specs.KeyRows.{joined_rows}
use Rattle.key_rows.proofs.assigned.joined_row.Given as goal

abbrev pub invariant-loop-x : goal.invariant-loop-x
invariant-loop-x l = l.joined ≡ joined_rows l.by_var l.bits l.x
