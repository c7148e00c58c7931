use Rattle.std.proofs.Common.{◌-◌, ◌≤◌, length}
use Rattle.latest_place.proofs.PartRows.{AddsUpTo}
use Rattle.latest_place.proofs.parts.add_row.Given as goal

abbrev pub invariant-loop-from : goal.invariant-loop-from
invariant-loop-from l = record {
  within : l.from ≤ length l.row;
  so_far : AddsUpTo l.numbers l.node l.row l.from l.initial.rows l.rows;
}

abbrev pub decreases-loop-from : goal.decreases-loop-from
decreases-loop-from l = length l.row - l.from
