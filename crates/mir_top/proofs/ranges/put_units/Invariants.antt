use Rattle.std.proofs.Common.{take}
use Rattle.mir_top.specs.RangeTexts.{AppendsRanges}
use Rattle.mir_top.proofs.ranges.put_units.Given as goal

abbrev pub invariant-loop-unit : goal.invariant-loop-unit
invariant-loop-unit l = AppendsRanges (take l.unit-index l.units) l.fn.text l.text
