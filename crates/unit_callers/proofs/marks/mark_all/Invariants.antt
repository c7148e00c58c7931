use Rattle.std.proofs.Common.{take}
use Rattle.unit_callers.specs.Stale.{AllStale}
use Rattle.unit_callers.proofs.marks.mark_all.Given as goal

abbrev pub invariant-loop-unit : goal.invariant-loop-unit
invariant-loop-unit l = AllStale (take l.unit-index l.units) l.initial.stale.items l.stale.items
