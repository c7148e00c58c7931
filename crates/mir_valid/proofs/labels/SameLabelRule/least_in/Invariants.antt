use Rattle.std.proofs.Common.{◌≡◌, List, ℕ, is_some, fold, take}
use Rattle.mir_valid.specs.Names.{has_name, number_in}
use Rattle.mir_valid.specs.Rules.{broken, label_names}
use Rattle.mir_valid.specs.Refusals.{lesser}
use Rattle.mir_valid.proofs.labels.SameLabelRule.least_in.Given as goal

abbrev pub invariant-loop-label : goal.invariant-loop-label
invariant-loop-label l = record {
  seen : (x : List ℕ) → is_some (number_in l.seen x) ≡ has_name (label_names (take l.label-index l.label-items)) x;
  least : l.best ≡ fold lesser l.fn.best (broken (λ label. label.line) (λ earlier label. has_name (label_names earlier) label.name) (take l.label-index l.label-items));
}
