use Rattle.std.proofs.Common.{◌≡◌, ℕ, ◌<◌, true}
use Rattle.node_list.specs.Lists.{is_listed}
use Rattle.fix_solve.specs.Solving.{IsOneList}
use Rattle.fix_solve.proofs.pushes.enlist_up.Given as goal

abbrev pub invariant-loop-node : goal.invariant-loop-node
invariant-loop-node l = record {
  one_list : IsOneList l.waiting;
  nodes : l.waiting.nodes ≡ l.nodes;
  listed : (n : ℕ) → n < l.node → is_listed l.waiting.lists n ≡ true;
}
