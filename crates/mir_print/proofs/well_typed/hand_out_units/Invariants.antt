use Rattle.std.proofs.Common.{take}
use Rattle.std.specs.List.{All}
use Rattle.mir_print.specs.WellTyped.{UnitWellTyped}
use Rattle.mir_print.proofs.well_typed.hand_out_units.Given as goal

abbrev pub invariant-loop-unit : goal.invariant-loop-unit
invariant-loop-unit l = All UnitWellTyped (take l.unit-index l.units)
