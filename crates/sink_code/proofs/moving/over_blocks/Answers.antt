use Rattle.std.proofs.Common.{refl, sym}
use Rattle.sink_code.proofs.moving.over_blocks.Goals as goal

pub put_over-requires-clause-over : goal.put_over-requires-clause-over
put_over-requires-clause-over c = record { edges = c.requires.edges; blocks = c.requires.blocks; sinkable = c.requires.found.sunk.sinkable }

pub put_over-requires-clause-inside : goal.put_over-requires-clause-inside
put_over-requires-clause-inside c = (c.args.found, c.requires.found, refl, refl, sym c.as_slice.ensures.value)
