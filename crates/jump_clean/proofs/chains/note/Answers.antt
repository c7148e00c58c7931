use Rattle.jump_clean.proofs.Follow.{note_step}
use Rattle.jump_clean.proofs.chains.note.Goals as goal

pub loop-n-preserved : goal.loop-n-preserved
loop-n-preserved c =
    let inv = c.loop-n.invariant in
    let s = note_step c.args.chain.now c.args.end c.loop-n.n-index c.loop-n.found.items c.args.found.now.items c.loop-n-test.true inv.long inv.below inv.noted inv.others in
    record { long = s.0; below = s.1; noted = s.2; others = s.3 }
