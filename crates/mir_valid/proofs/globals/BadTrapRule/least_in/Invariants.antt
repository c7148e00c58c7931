use Rattle.std.proofs.Common.{◌≡◌, fold, take}
use Rattle.mir_valid.specs.Rules.{lines_where, is_bad_trap}
use Rattle.mir_valid.specs.Refusals.{lesser}
use Rattle.mir_valid.proofs.globals.BadTrapRule.least_in.Given as goal

abbrev pub invariant-loop-inst : goal.invariant-loop-inst
invariant-loop-inst l = l.best ≡ fold lesser l.fn.best (lines_where is_bad_trap (take l.inst-index l.inst-items))
