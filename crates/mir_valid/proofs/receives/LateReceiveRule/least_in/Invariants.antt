use Rattle.std.proofs.Common.{◌≡◌, fold, take}
use Rattle.std.specs.List.{list_any}
use Rattle.mir_valid.specs.Rules.{broken, is_other, is_late}
use Rattle.mir_valid.specs.Refusals.{lesser}
use Rattle.mir_valid.proofs.receives.LateReceiveRule.least_in.Given as goal

abbrev pub invariant-loop-place : goal.invariant-loop-place
invariant-loop-place l = record {
  others : l.others ≡ list_any is_other (take l.place l.inst-items);
  least : l.best ≡ fold lesser l.fn.best (broken (λ inst. inst.line) (is_late l.unit.labels) (take l.place l.inst-items));
}
