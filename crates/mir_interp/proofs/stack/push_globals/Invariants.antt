use Rattle.std.proofs.Common.{◌≡◌, ◌++◌, drop}
use Rattle.mir_base.specs.Frames.{shared_values}
use Rattle.mir_interp.specs.RunsSoFar.{values_of}
use Rattle.mir_interp.proofs.stack.push_globals.Given as goal

abbrev pub invariant-loop-x : goal.invariant-loop-x
invariant-loop-x l = l.values.items ≡ l.initial.values.items ++ shared_values l.x (values_of (drop l.variables l.initial.values.items))
