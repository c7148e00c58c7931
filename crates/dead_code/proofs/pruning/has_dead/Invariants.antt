use Rattle.std.proofs.Common.{◌≡◌, ◌<◌, ℕ, false, get_or}
use Rattle.dead_code.proofs.pruning.has_dead.Given as goal

abbrev pub invariant-loop-flag : goal.invariant-loop-flag
invariant-loop-flag l = (n : ℕ) → n < l.flag-index → get_or l.dead n false ≡ false
