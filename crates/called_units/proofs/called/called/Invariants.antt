use Rattle.std.proofs.Common.{None}
use Rattle.flow_graph.specs.ReachWalks.{walk_weight}
use Rattle.called_units.specs.CallWalks.{FollowsCalls}
use Rattle.called_units.proofs.called.called.Given as goal

abbrev pub invariant-loop-unit : goal.invariant-loop-unit
invariant-loop-unit l = FollowsCalls l.program l.marks.items l.stack.items None

abbrev pub decreases-loop-unit : goal.decreases-loop-unit
decreases-loop-unit l = walk_weight l.marks.items l.stack.items
