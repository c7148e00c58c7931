use Rattle.std.proofs.Common.{◌≡◌, take}
use Rattle.cond_flow.proofs.facts.Facts.listed.Given as goal

abbrev pub invariant-loop-x : goal.invariant-loop-x
invariant-loop-x g l = l.list.items ≡ take l.x l.self
