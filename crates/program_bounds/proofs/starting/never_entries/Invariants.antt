use Rattle.std.proofs.Common.{◌≡◌, ◌+◌, length, map, take}
use Rattle.flow_graph.specs.Graphs.{GraphShape}
use Rattle.cond_flow.specs.States.{Unreached}
use Rattle.program_bounds.proofs.starting.never_entries.Given as goal

abbrev pub invariant-loop-unit : goal.invariant-loop-unit
invariant-loop-unit l = l.entries.items ≡ map (λ (g : GraphShape). Unreached (g.shared + length g.received)) (take l.unit l.graphs.items)
