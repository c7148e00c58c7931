use Rattle.std.proofs.Common.{◌≡◌, take}
use Rattle.mir_valid.specs.Numbered.{global_variables}
use Rattle.mir_valid.proofs.variables.Variables.of_globals.Given as goal

abbrev pub invariant-loop-global : goal.invariant-loop-global
invariant-loop-global l = l.vars ≡ global_variables (take l.global-index l.globals)
