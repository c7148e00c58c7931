use Rattle.std.proofs.Common.{◌≡◌, length}
use Rattle.unit_join.specs.JoinPrograms.{EachLeaf}
use Rattle.unit_join.proofs.leaves.all_leaves.Given as goal

abbrev pub invariant-loop-number : goal.invariant-loop-number
invariant-loop-number l = record {
  long : length l.units.items ≡ l.number;
  are : EachLeaf l.program.units l.units.items;
}
