use Rattle.std.proofs.Common.{◌≡◌, fold, take}
use Rattle.mir_valid.specs.Rules.{lines_where}
use Rattle.mir_valid.specs.Refusals.{lesser}
use Rattle.mir_valid.specs.NameTables.{breaks}
use Rattle.mir_valid.proofs.lookups.least_where.Given as goal

abbrev pub invariant-loop-inst : goal.invariant-loop-inst
invariant-loop-inst l = l.best ≡ fold lesser l.fn.best (lines_where (breaks l.lookup l.table) (take l.inst-index l.body))
