use Rattle.std.proofs.Common.{◌≡◌, length}
use Rattle.program_pass.specs.PassPrograms.{EachUnit, UnitPassed}
use Rattle.program_bounds.specs.Tables.{facts_of}
use Rattle.program_bounds.specs.Programs.{BoundedBy, IsBoundedBetween}
use Rattle.program_bounds.proofs.programs.bounded_units.Given as goal

abbrev pub invariant-loop-number : goal.invariant-loop-number
invariant-loop-number l = record {
  long : length l.units.items ≡ l.number;
  units : EachUnit (UnitPassed (BoundedBy (facts_of l.tables)) (IsBoundedBetween (facts_of l.tables))) l.program.units l.units.items;
}
