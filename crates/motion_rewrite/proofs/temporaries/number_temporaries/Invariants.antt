use Rattle.std.proofs.Common.{◌≡◌, ℕ, ◌<◌, ◌≤◌, length, slice_get, Some}
use Rattle.motion_rewrite.specs.Temporaries.{temporaries_before, temporary}
use Rattle.motion_rewrite.proofs.temporaries.number_temporaries.Given as goal

abbrev pub invariant-loop-expr : goal.invariant-loop-expr
invariant-loop-expr l = record {
  long : length l.numbers.items ≡ l.expr;
  numbers : (i : ℕ) → i < l.expr → slice_get l.numbers.items i ≡ Some (temporary l.vars l.insert i);
  count : l.count ≡ temporaries_before l.insert l.expr;
  few : l.count ≤ l.expr;
}
