use Rattle.std.proofs.Common.{◌≡◌, length}
use Rattle.program_pass.specs.PassPrograms.{EachUnit, UnitPassed}
use Rattle.unit_join.specs.Joins.{LeavesJoined, JoinedBetween}
use Rattle.unit_join.proofs.programs.joined_units.Given as goal

abbrev pub invariant-loop-number : goal.invariant-loop-number
invariant-loop-number l = record {
  long : length l.units.items ≡ l.number;
  units : EachUnit (UnitPassed (LeavesJoined l.leaves.units) (JoinedBetween l.leaves.units)) l.program.units l.units.items;
}
