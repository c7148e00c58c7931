use Rattle.std.proofs.Common.{◌≡◌, length}
use Rattle.program_pass.specs.FrontLaws.{AreFrontsBelow}
use Rattle.program_pass.proofs.units.graphs_of.Given as goal

abbrev pub invariant-loop-number : goal.invariant-loop-number
invariant-loop-number l = record {
  long : length l.graphs.items ≡ l.number;
  are : AreFrontsBelow l.program.units l.graphs.items;
}
