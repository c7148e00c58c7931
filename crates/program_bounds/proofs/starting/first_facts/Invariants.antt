use Rattle.std.proofs.Common.{◌≡◌, ◌++◌, replicate, pos}
use Rattle.bounds.specs.Edges.{anything}
use Rattle.bounds.specs.declared.facts.Fact.TheVariants.{Fixed}
use Rattle.program_bounds.proofs.starting.first_facts.Given as goal

abbrev pub invariant-loop : goal.invariant-loop
invariant-loop l = l.list.items ≡ replicate l.counter (Fixed (pos 0))

abbrev pub invariant-loop-2 : goal.invariant-loop-2
invariant-loop-2 l = l.list.items ≡ replicate l.shared (Fixed (pos 0)) ++ replicate l.counter anything
