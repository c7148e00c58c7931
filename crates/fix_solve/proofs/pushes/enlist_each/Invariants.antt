use Rattle.std.proofs.Common.{◌≡◌}
use Rattle.fix_solve.specs.Solving.{IsOneList}
use Rattle.fix_solve.proofs.pushes.enlist_each.Given as goal

abbrev pub invariant-loop-count : goal.invariant-loop-count
invariant-loop-count l = record {
  one_list : IsOneList l.waiting;
  nodes : l.waiting.nodes ≡ l.initial.waiting.nodes;
}
