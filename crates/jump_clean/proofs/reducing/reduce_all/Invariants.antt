use Rattle.std.proofs.Common.{[]}
use Rattle.jump_clean.specs.Classes.{HaveMembers}
use Rattle.jump_clean.specs.Joining.{IsJoining, joins_left}
use Rattle.jump_clean.proofs.reducing.reduce_all.Given as goal

abbrev pub invariant-loop-n : goal.invariant-loop-n
invariant-loop-n l = record {
  joining : IsJoining l.fn.nodes.items l.nodes.items l.classes.of.items l.worklist.items [];
  members : HaveMembers l.classes;
}

abbrev pub decreases-loop-n : goal.decreases-loop-n
decreases-loop-n l = joins_left l.nodes.items l.worklist.items
