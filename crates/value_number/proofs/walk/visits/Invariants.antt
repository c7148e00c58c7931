use Rattle.std.proofs.Common.{take}
use Rattle.value_number.specs.TermWalks.{VisitRoots}
use Rattle.value_number.proofs.walk.visits.Given as goal

abbrev pub invariant-loop-n : goal.invariant-loop-n
invariant-loop-n l = VisitRoots (take l.n l.roots) l.steps.items
