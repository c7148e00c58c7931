use Rattle.std.proofs.Common.{◌≡◌}
use Rattle.flow_graph.specs.Numbering.{first_index, renamed}
use Rattle.flow_graph.proofs.Mapping.{mapped_below}
use Rattle.flow_graph.proofs.rename.rename.Given as goal

abbrev pub invariant-loop-number : goal.invariant-loop-number
invariant-loop-number l = l.body ≡ mapped_below (renamed (first_index l.seen.seen)) l.number l.fn.body
