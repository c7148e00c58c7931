use Rattle.std.proofs.Common.{◌≡◌, length}
use Rattle.program_pass.specs.PassPrograms.{EachUnit, UnitPassed}
use Rattle.pass_chain.specs.GraphPasses.{Itself, OnlyResults}
use Rattle.pass_chain.proofs.over_units.units_through.Given as goal

abbrev pub invariant-loop-number : goal.invariant-loop-number
invariant-loop-number g l = record {
  long : length l.units.items ≡ l.number;
  units : EachUnit (UnitPassed (OnlyResults g.P.GraphPass.exact) Itself) l.program.units l.units.items;
}
