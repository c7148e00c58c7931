use Rattle.std.proofs.Common.{◌≡◌, take}
use Rattle.mir_valid.specs.Rules.{global_names}
use Rattle.mir_valid.proofs.numbering.global_names.Given as goal

abbrev pub invariant-loop-global : goal.invariant-loop-global
invariant-loop-global l = l.names.items ≡ global_names (take l.global-index l.globals)
