use Rattle.std.proofs.Common.{◌≡◌, ◌+◌, replicate}
use Rattle.bounds.specs.declared.facts.Fact.TheVariants.{Never}
use Rattle.program_bounds.proofs.starting.never_list.Given as goal

abbrev pub invariant-loop : goal.invariant-loop
invariant-loop l = l.list.items ≡ replicate l.counter Never

abbrev pub invariant-loop-2 : goal.invariant-loop-2
invariant-loop-2 l = l.list.items ≡ replicate (l.first + l.counter) Never
