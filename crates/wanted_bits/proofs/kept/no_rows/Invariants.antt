use Rattle.std.proofs.Common.{◌≡◌, replicate}
use Rattle.wanted_bits.proofs.kept.no_rows.Given as goal

abbrev pub invariant-loop-made : goal.invariant-loop-made
invariant-loop-made l = l.rows.items ≡ replicate l.made (replicate l.vars 0)
