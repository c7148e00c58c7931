use Rattle.std.proofs.Common.{take}
use Rattle.std.specs.List.{All}
use Rattle.mir_print.specs.WellTyped.{InstWellTyped}
use Rattle.mir_print.proofs.well_typed.hand_out_insts.Given as goal

abbrev pub invariant-loop-inst : goal.invariant-loop-inst
invariant-loop-inst l = All InstWellTyped (take l.inst-index l.insts)
