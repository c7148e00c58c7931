use Rattle.std.proofs.Common.{◌≡◌, drop}
use Rattle.unit_join.specs.JoinPrograms.{calls_none}
use Rattle.unit_join.proofs.leaves.calls_none.Given as goal

abbrev pub invariant-loop-inst : goal.invariant-loop-inst
invariant-loop-inst l = calls_none l.insts ≡ calls_none (drop l.inst-index l.insts)
