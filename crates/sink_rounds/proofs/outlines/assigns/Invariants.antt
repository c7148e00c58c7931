use Rattle.std.proofs.Common.{◌≡◌, count_by, take}
use Rattle.sink_rounds.specs.Outlines.{is_assign}
use Rattle.sink_rounds.proofs.outlines.assigns.Given as goal

abbrev pub invariant-loop-node : goal.invariant-loop-node
invariant-loop-node l = l.count ≡ count_by is_assign (take l.node-index l.nodes)
