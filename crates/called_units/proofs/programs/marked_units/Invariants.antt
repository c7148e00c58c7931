use Rattle.std.proofs.Common.{◌≡◌, ◌++◌, drop, map}
use Rattle.flow_graph.specs.Retained.{marked, marked_below}
use Rattle.called_units.specs.CalledUnits.{with_calls}
use Rattle.called_units.proofs.programs.marked_units.Given as goal

abbrev pub invariant-loop-number : goal.invariant-loop-number
invariant-loop-number l =
    l.units.items ++ map (with_calls (marked_below l.marks)) (marked (drop l.number l.marks) (drop l.number l.program.units)) ≡ map (with_calls (marked_below l.marks)) (marked l.marks l.program.units)
