use Rattle.std.proofs.Common.{◌≡◌, ◌+◌, ◌≤◌, ℕ, false, length, take, get_or}
use Rattle.mir_base.specs.Text.{is_target}
use Rattle.mir_print.proofs.labels.marks.Given as goal

abbrev pub invariant-loop-inst : goal.invariant-loop-inst
invariant-loop-inst l = record {
  many : length l.marks.items ≡ length l.body + 1;
  each : (place : ℕ) → place ≤ length l.body → get_or l.marks.items place false ≡ is_target (take l.inst-index l.body) place;
}
