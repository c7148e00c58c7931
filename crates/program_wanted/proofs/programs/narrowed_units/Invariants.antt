use Rattle.std.proofs.Common.{◌≡◌, length}
use Rattle.program_pass.specs.PassPrograms.{EachUnit, UnitPassed}
use Rattle.program_wanted.specs.Tables.{demands_of}
use Rattle.program_wanted.specs.WantedPrograms.{NarrowedTo, NarrowsTo}
use Rattle.program_wanted.proofs.programs.narrowed_units.Given as goal

abbrev pub invariant-loop-number : goal.invariant-loop-number
invariant-loop-number l = record {
  long : length l.units.items ≡ l.number;
  units : EachUnit (UnitPassed (NarrowedTo (demands_of l.tables)) (NarrowsTo (demands_of l.tables))) l.program.units l.units.items;
}
