use Rattle.mir_base.specs.Frames.{shared_vars}
use Rattle.dead_code.specs.LiveRows.{IsMarkedAt}
use Rattle.dead_code.proofs.liveness.mark_globals.Given as goal

abbrev pub invariant-loop-x : goal.invariant-loop-x
invariant-loop-x l = IsMarkedAt l.value l.n (shared_vars l.x) l.initial.rows l.rows
