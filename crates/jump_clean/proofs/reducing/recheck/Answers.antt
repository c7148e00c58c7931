use Rattle.std.proofs.Common.{arith}
use Rattle.jump_clean.proofs.Joins.{suspect_looked}
use Rattle.jump_clean.proofs.reducing.recheck.Goals as goal

pub loop-n-preserved : goal.loop-n-preserved
loop-n-preserved c =
    let inv = c.loop-n.invariant in
    let s = suspect_looked c.args.classes.now c.args.checks.now c.loop-n.n-index c.loop-n-test.true c.loop-n.nodes.items c.look.new.nodes.items c.loop-n.worklist.items c.look.new.worklist.items inv.within inv.long inv.below c.in_ok-look.ensures.nodes c.in_ok-look.ensures.worklist in
    record { joining = λ raw j. s.joining raw (inv.joining raw j); within = s.within; long = s.long; below = s.below; less = omega (arith, s.less, inv.less) }
