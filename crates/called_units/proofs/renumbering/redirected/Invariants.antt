use Rattle.std.proofs.Common.{◌≡◌, ◌++◌, drop, map}
use Rattle.flow_graph.specs.NumberTables.{number_at}
use Rattle.called_units.specs.CalledUnits.{redirected_call}
use Rattle.called_units.proofs.renumbering.redirected.Given as goal

abbrev pub invariant-loop-inst : goal.invariant-loop-inst
invariant-loop-inst l = l.made.items ++ map (redirected_call (number_at l.to)) (drop l.inst-index l.body) ≡ map (redirected_call (number_at l.to)) l.body
