use Rattle.std.proofs.Common.{refl, arith}
use Rattle.wanted_bits.specs.JoinedBits.{joined_at}
use Rattle.wanted_bits.proofs.risen.Risen.raise.Goals as goal

pub returns-then-block-len : goal.returns-then-block-len
returns-then-block-len c = record { long = refl; below = λ x. omega (arith, joined_at c.args.row.now c.args.room.now x c.requires.long) }
