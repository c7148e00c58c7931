use Rattle.std.proofs.Common.{◌≡◌, take, count_by}
use Rattle.mir_valid.specs.Rules.{is_receive}
use Rattle.mir_valid.proofs.calls.count_receives.Given as goal

abbrev pub invariant-loop-inst : goal.invariant-loop-inst
invariant-loop-inst l = l.count ≡ count_by is_receive (take l.inst-index l.body)
