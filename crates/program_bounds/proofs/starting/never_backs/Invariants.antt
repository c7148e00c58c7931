use Rattle.std.proofs.Common.{◌≡◌, suc, map, replicate, take}
use Rattle.flow_graph.specs.Graphs.{GraphShape}
use Rattle.bounds.specs.declared.facts.Fact.TheVariants.{Never}
use Rattle.program_bounds.proofs.starting.never_backs.Given as goal

abbrev pub invariant-loop-unit : goal.invariant-loop-unit
invariant-loop-unit l = l.backs.items ≡ map (λ (g : GraphShape). replicate (suc g.shared) Never) (take l.unit l.graphs.items)
