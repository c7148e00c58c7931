use Rattle.value_number.specs.TermWalks.{Renews}
use Rattle.value_number.proofs.walk.renew.Given as goal

abbrev pub invariant-loop-x : goal.invariant-loop-x
invariant-loop-x l = Renews l.n l.x l.initial.table l.table l.initial.numbers l.numbers l.initial.steps.items l.steps.items
