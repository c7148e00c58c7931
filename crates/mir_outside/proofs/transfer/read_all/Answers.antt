use Rattle.std.proofs.Common.{take, ◌++◌, arith}
use Rattle.std.proofs.lemmas.Grind.{common_steps}
use Rattle.std.proofs.KnownBytes.{Consumes-trans}
use Rattle.mir_outside.proofs.transfer.read_all.Goals as goal

pub returns-in_err-map_err-clause-most : goal.returns-in_err-map_err-clause-most
returns-in_err-map_err-clause-most g c = (
  c.loop-chunk.bytes.items ++ take c.in-Ok.count c.read.new.buf,
  Consumes-trans _ _ _ _ _ c.loop-chunk.invariant.taken c.in-Ok.ensures.bytes.0,
  grind (arith, common_steps),
)
