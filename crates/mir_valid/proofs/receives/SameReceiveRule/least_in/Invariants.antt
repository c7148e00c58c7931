use Rattle.std.proofs.Common.{◌≡◌, List, ℕ, is_some, fold, take}
use Rattle.mir_valid.specs.Names.{has_name, number_in}
use Rattle.mir_valid.specs.Rules.{broken, received, receives_again}
use Rattle.mir_valid.specs.Refusals.{lesser}
use Rattle.mir_valid.proofs.receives.SameReceiveRule.least_in.Given as goal

abbrev pub invariant-loop-inst : goal.invariant-loop-inst
invariant-loop-inst l = record {
  seen : (x : List ℕ) → is_some (number_in l.seen x) ≡ has_name (received (take l.inst-index l.inst-items)) x;
  least : l.best ≡ fold lesser l.fn.best (broken (λ inst. inst.line) receives_again (take l.inst-index l.inst-items));
}
