use Rattle.wanted_bits.specs.KeptRows.{SpreadFrom}
use Rattle.wanted_bits.proofs.kept.spread.Given as goal

abbrev pub invariant-loop-number : goal.invariant-loop-number
invariant-loop-number l = SpreadFrom l.prepared l.block l.room l.initial.rows.items l.rows.items
