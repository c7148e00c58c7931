use Rattle.std.proofs.Common.{length, ap, arith}
use Rattle.motion_rewrite.proofs.SetBits.{bits_step, bits_end}
use Rattle.motion_rewrite.proofs.editing.set_in.Goals as goal

pub loop-from-preserved : goal.loop-from-preserved
loop-from-preserved c =
    let row = c.args.row.now in
    let found = c.in-Some.ensures.found in
    let one = ap length (bits_step c.loop-from.from c.in-Some.number row found.0 found.1 c.in-Some.ensures.first found.2) in
    record { within = omega (arith, found.1); few = omega (arith, found.0, c.loop-from.invariant.few); all = omega (arith, one, c.loop-from.invariant.all) }

pub returns-in-None : goal.returns-in-None
returns-in-None c =
    let none = ap length (bits_end c.loop-from.from c.args.row.now c.loop-from.invariant.within c.in-None.ensures.none) in
    omega (arith, none, c.loop-from.invariant.all)
