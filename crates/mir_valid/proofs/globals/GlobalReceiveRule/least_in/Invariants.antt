use Rattle.std.proofs.Common.{◌≡◌, fold, take}
use Rattle.mir_valid.specs.Rules.{lines_where}
use Rattle.mir_valid.specs.Refusals.{lesser}
use Rattle.mir_valid.specs.NameTables.{has_received}
use Rattle.mir_valid.proofs.globals.GlobalReceiveRule.least_in.Given as goal

abbrev pub invariant-loop-inst : goal.invariant-loop-inst
invariant-loop-inst l = l.best ≡ fold lesser l.fn.best (lines_where (has_received l.fn.self.table.now) (take l.inst-index l.inst-items))
