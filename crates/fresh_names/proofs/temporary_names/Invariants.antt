use Rattle.fresh_names.proofs.FreeNames.{AreSoFar}
use Rattle.fresh_names.proofs.temporary_names.Given as goal

abbrev pub invariant-loop-number : goal.invariant-loop-number
invariant-loop-number l = AreSoFar l.vars l.count l.number l.names.items
