use Rattle.std.proofs.Common.{None, slice_index_or}
use Rattle.flow_graph.specs.declared.nodes.Node.TheVariants.{Skip}
use Rattle.value_number.specs.Numbered.{numbered_node}
use Rattle.value_number.proofs.Pushes.{IsListOf}
use Rattle.value_number.proofs.numbering.numbered_nodes.Given as goal

abbrev pub invariant-loop-n : goal.invariant-loop-n
invariant-loop-n l = IsListOf (λ m. numbered_node (slice_index_or l.nodes m (Skip 0)) (slice_index_or l.holders m None)) l.n l.numbered.items
