use Rattle.std.proofs.Common.{◌≡◌, length}
use Rattle.program_pass.specs.PassPrograms.{EachUnit, UnitPassed}
use Rattle.tail_loop.specs.Tails.{Looped, Tailed}
use Rattle.tail_loop.proofs.programs.tailed_units.Given as goal

abbrev pub invariant-loop-number : goal.invariant-loop-number
invariant-loop-number l = record {
  long : length l.units.items ≡ l.number;
  units : EachUnit (UnitPassed Tailed Looped) l.program.units l.units.items;
}
