use Rattle.held_assign.specs.HeldPasses.{IsMadeByRow}
use Rattle.held_assign.specs.Making.{MadeBelow}
use Rattle.held_assign.proofs.passes.nodes_by_rows.Given as goal

abbrev pub invariant-loop-n : goal.invariant-loop-n
invariant-loop-n g l = MadeBelow (IsMadeByRow g.P.HeldPass.becomes l.held l.old) l.n l.nodes.items
