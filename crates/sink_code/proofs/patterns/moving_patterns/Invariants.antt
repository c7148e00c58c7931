use Rattle.std.proofs.Common.{length}
use Rattle.sink_code.proofs.Found.{AreMovingUpTo}
use Rattle.sink_code.proofs.patterns.moving_patterns.Given as goal

abbrev pub invariant-loop-node : goal.invariant-loop-node
invariant-loop-node l = AreMovingUpTo l.graph (length l.graph.vars) l.nodes l.node-index l.found
