use Rattle.std.proofs.Common.{◌≡◌, [], replicate}
use Rattle.unit_callers.proofs.calling.no_callers.Given as goal

abbrev pub invariant-loop-made : goal.invariant-loop-made
invariant-loop-made l = l.callers.items ≡ replicate l.made []
