use Rattle.std.proofs.Common.{◌≡◌, ◌+◌, ◌-◌, ◌≤◌, drop, length}
use Rattle.motion_rewrite.specs.Flatten.{set_from}
use Rattle.motion_rewrite.proofs.editing.set_in.Given as goal

abbrev pub invariant-loop-from : goal.invariant-loop-from
invariant-loop-from l = record {
  within : l.from ≤ length l.row;
  few : l.count ≤ l.from;
  all : l.count + length (set_from l.from (drop l.from l.row)) ≡ length (set_from 0 l.row);
}

abbrev pub decreases-loop-from : goal.decreases-loop-from
decreases-loop-from l = length l.row - l.from
