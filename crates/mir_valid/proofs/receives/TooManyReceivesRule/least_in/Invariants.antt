use Rattle.std.proofs.Common.{◌≡◌, fold, take, count_by}
use Rattle.mir_valid.specs.Rules.{broken, is_receive, is_seventeenth}
use Rattle.mir_valid.specs.Refusals.{lesser}
use Rattle.mir_valid.proofs.receives.TooManyReceivesRule.least_in.Given as goal

abbrev pub invariant-loop-inst : goal.invariant-loop-inst
invariant-loop-inst l = record {
  counted : l.count ≡ count_by is_receive (take l.inst-index l.inst-items);
  least : l.best ≡ fold lesser l.fn.best (broken (λ inst. inst.line) is_seventeenth (take l.inst-index l.inst-items));
}
