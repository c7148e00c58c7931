use Rattle.std.proofs.Common.{take}
use Rattle.std.specs.Prelude.{All}
use Rattle.mir_top.specs.RangeTexts.{UnitHoldsLeast}
use Rattle.mir_top.proofs.ranges.hold_each.Given as goal

abbrev pub invariant-loop-unit : goal.invariant-loop-unit
invariant-loop-unit g l = All (UnitHoldsLeast (g.R.DownRule.is_down l.rule)) (take l.unit-index l.units)
