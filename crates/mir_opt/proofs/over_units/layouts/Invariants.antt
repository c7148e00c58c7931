use Rattle.std.proofs.Common.{take}
use Rattle.std.specs.List.{AllZip}
use Rattle.mir_opt.specs.Made.{IsLaidOut}
use Rattle.mir_opt.proofs.over_units.layouts.Given as goal

abbrev pub invariant-loop-unit : goal.invariant-loop-unit
invariant-loop-unit g l = AllZip (λ unit target. IsLaidOut (g.T.UnitSteps.graph_at unit l.stage) target) (take l.unit-index l.units) l.targets.items
