use Rattle.std.proofs.Common.{◌≡◌}
use Rattle.motion_rewrite.specs.Flatten.{inserted_below}
use Rattle.motion_rewrite.proofs.editing.insertions_in.Given as goal

abbrev pub invariant-loop-node : goal.invariant-loop-node
invariant-loop-node l = l.room ≡ inserted_below l.insert l.node
