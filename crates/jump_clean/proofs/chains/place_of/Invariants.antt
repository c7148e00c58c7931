use Rattle.std.proofs.Common.{◌-◌, drop, length}
use Rattle.jump_clean.proofs.chains.place_of.Given as goal
use Rattle.flow_graph.specs.Numbering.{IsIn}

abbrev pub invariant-loop-place : goal.invariant-loop-place
invariant-loop-place l = IsIn l.n (drop l.place l.chain)

abbrev pub decreases-loop-place : goal.decreases-loop-place
decreases-loop-place l = length l.chain - l.place
