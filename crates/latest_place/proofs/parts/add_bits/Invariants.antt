use Rattle.latest_place.proofs.PartRows.{AddsBelow}
use Rattle.latest_place.proofs.parts.add_bits.Given as goal

abbrev pub invariant-loop-node : goal.invariant-loop-node
invariant-loop-node l = AddsBelow l.numbers l.part l.node l.initial.rows l.rows
