use Rattle.jump_clean.proofs.Follow.{in_place}
use Rattle.jump_clean.proofs.Moves.{relabel_step}
use Rattle.jump_clean.proofs.classes.relabel.Goals as goal

pub loop-n-preserved : goal.loop-n-preserved
loop-n-preserved c =
    let inv = c.loop-n.invariant in
    let s = relabel_step c.args.nodes.now c.args.into c.loop-n.n-index c.loop-n.of.items c.args.of.now.items c.loop-n-test.true inv.long inv.below inv.gone inv.others (in_place c.args.nodes.now c.loop-n.n-index c.loop-n-test.true) in
    record { long = s.0; below = s.1; gone = s.2; others = s.3 }
