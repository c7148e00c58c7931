use Rattle.std.proofs.Common.{◌≡◌, take}
use Rattle.mir_valid.specs.Numbered.{numbered_body}
use Rattle.mir_valid.proofs.numbering.numbered_body.Given as goal

abbrev pub invariant-loop-inst : goal.invariant-loop-inst
invariant-loop-inst l = l.insts.items ≡ numbered_body l.tables (take l.inst-index l.body)
