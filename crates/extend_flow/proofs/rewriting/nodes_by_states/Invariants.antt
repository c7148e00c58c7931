use Rattle.held_assign.specs.Making.{MadeBelow}
use Rattle.held_assign.specs.Rows.{held_at}
use Rattle.extend_flow.specs.Extended.{IsExtendedAt}
use Rattle.extend_flow.proofs.rewriting.nodes_by_states.Given as goal

abbrev pub invariant-loop-n : goal.invariant-loop-n
invariant-loop-n l = MadeBelow (λ m. IsExtendedAt l.graph (held_at l.held m) m) l.n l.nodes.items
