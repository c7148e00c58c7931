use Rattle.live_range.specs.Wanted.{AreMaskedBelow}
use Rattle.live_range.proofs.wanted.mask_rows.Given as goal

abbrev pub invariant-loop-n : goal.invariant-loop-n
invariant-loop-n l = AreMaskedBelow l.n l.mask l.initial.rows l.rows
