use Rattle.wanted_bits.specs.Walking.{back_in}
use Rattle.wanted_bits.proofs.Noted.{TouchedBelow}
use Rattle.wanted_bits.proofs.touching.touched_by.Given as goal

abbrev pub invariant-loop-block : goal.invariant-loop-block
invariant-loop-block l = TouchedBelow l.graph (back_in l.backs) l.blocks.lists l.block l.touched.items
