use Rattle.std.proofs.Common.{◌≡◌, take}
use Rattle.mir_valid.specs.Numbered.{variables_of}
use Rattle.mir_valid.proofs.variables.Variables.of.Given as goal

abbrev pub invariant-loop-inst : goal.invariant-loop-inst
invariant-loop-inst l = l.vars ≡ variables_of l.globals (take l.inst-index l.body)
