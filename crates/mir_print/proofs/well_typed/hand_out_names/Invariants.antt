use Rattle.std.proofs.Common.{take}
use Rattle.std.specs.List.{All}
use Rattle.mir_base.specs.Names.{IsName}
use Rattle.mir_print.proofs.well_typed.hand_out_names.Given as goal

abbrev pub invariant-loop-name : goal.invariant-loop-name
invariant-loop-name l = All IsName (take l.name-index l.names)
