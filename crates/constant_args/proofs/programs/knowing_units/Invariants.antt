use Rattle.std.proofs.Common.{◌≡◌, length}
use Rattle.program_pass.specs.PassPrograms.{EachUnit, UnitPassed}
use Rattle.constant_args.specs.ConstantArguments.{ArgumentsAssigned, Knowing}
use Rattle.constant_args.proofs.programs.knowing_units.Given as goal

abbrev pub invariant-loop-number : goal.invariant-loop-number
invariant-loop-number l = record {
  long : length l.units.items ≡ l.number;
  units : EachUnit (UnitPassed (Knowing l.program.units) (ArgumentsAssigned l.program.units)) l.program.units l.units.items;
}
