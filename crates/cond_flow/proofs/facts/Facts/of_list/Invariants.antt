use Rattle.std.proofs.Common.{◌≡◌, ◌-◌, ◌++◌, length, replicate, take}
use Rattle.cond_flow.proofs.facts.Facts.of_list.Given as goal

abbrev pub invariant-loop-x : goal.invariant-loop-x
invariant-loop-x g l = l.facts ≡ take l.x l.list ++ replicate (length l.list - l.x) l.fn.otherwise
