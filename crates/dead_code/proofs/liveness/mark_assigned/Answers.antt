use Rattle.std.proofs.Common.{◌++◌, subst}
use Rattle.mir_base.specs.Frames.{shared_vars}
use Rattle.mir_base.specs.Shapes.{into_vars}
use Rattle.dead_code.specs.LiveRows.{IsMarkedAt}
use Rattle.dead_code.proofs.PrunedMarks.{marked_both}
use Rattle.dead_code.proofs.liveness.mark_assigned.Goals as goal

pub returns-in-Call : goal.returns-in-Call
returns-in-Call c =
    let into = into_vars c.in-Call.into in
    let all = marked_both c.args.value c.args.n (shared_vars c.args.shared) into c.args.rows.now c.mark_globals.new.rows c.mark_into.new.rows c.mark_globals.ensures c.mark_into.ensures in
    rw c.in-Call.is (subst (λ k. IsMarkedAt c.args.value c.args.n (shared_vars k ++ into) c.args.rows.now c.mark_into.new.rows) c.requires.shared all)
