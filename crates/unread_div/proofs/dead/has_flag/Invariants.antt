use Rattle.std.proofs.Common.{◌≡◌, ◌<◌, ℕ, false, get_or}
use Rattle.unread_div.proofs.dead.has_flag.Given as goal

abbrev pub invariant-loop-flag : goal.invariant-loop-flag
invariant-loop-flag l = (n : ℕ) → n < l.flag-index → get_or l.flags n false ≡ false
