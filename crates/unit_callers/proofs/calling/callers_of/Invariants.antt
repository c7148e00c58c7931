use Rattle.unit_callers.specs.Calling.{AreCallersBelow}
use Rattle.unit_callers.proofs.calling.callers_of.Given as goal

abbrev pub invariant-loop-unit : goal.invariant-loop-unit
invariant-loop-unit l = AreCallersBelow l.graphs.items l.unit l.callers.items
