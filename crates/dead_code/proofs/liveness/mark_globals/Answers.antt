use Rattle.std.proofs.Common.{arith}
use Rattle.dead_code.proofs.PrunedMarks.{marked_global}
use Rattle.dead_code.proofs.liveness.mark_globals.Goals as goal

pub loop-x-preserved : goal.loop-x-preserved
loop-x-preserved c =
    let before = c.loop-x.invariant in
    marked_global c.args.value c.args.n c.loop-x.x c.args.rows.now c.loop-x.rows c.set.new.self
    (omega (arith, before.len, c.requires.row)) (omega (arith, before.each c.args.n, c.requires.globals, c.loop-x-test.true))
    before c.set.ensures
