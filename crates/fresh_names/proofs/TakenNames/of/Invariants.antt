use Rattle.std.proofs.Common.{◌≡◌, ℕ, List, take}
use Rattle.fresh_names.proofs.Taken.{borrowed_bytes, has_text}
use Rattle.fresh_names.proofs.TakenNames.of.Given as goal

abbrev pub invariant-loop-name : goal.invariant-loop-name
invariant-loop-name l = (x : List ℕ) → has_text (borrowed_bytes l.taken.keys) x ≡ has_text (take l.name-index l.names) x
