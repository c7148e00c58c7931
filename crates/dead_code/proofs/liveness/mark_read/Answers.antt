use Rattle.std.proofs.Common.{◌++◌, true, flat_map, subst}
use Rattle.mir_base.specs.Frames.{shared_vars}
use Rattle.mir_base.specs.Shapes.{operand_vars}
use Rattle.dead_code.specs.LiveRows.{IsMarkedAt}
use Rattle.dead_code.proofs.PrunedMarks.{marked_both}
use Rattle.dead_code.proofs.liveness.mark_read.Goals as goal

pub returns-in-Call : goal.returns-in-Call
returns-in-Call c =
    let read = flat_map operand_vars c.items.result.now in
    let all = marked_both true c.args.n (shared_vars c.args.shared) read c.args.rows.now c.mark_globals.new.rows c.mark_operands.new.rows c.mark_globals.ensures c.mark_operands.ensures in
    rw (c.in-Call.is, ← c.items.ensures) (subst (λ k. IsMarkedAt true c.args.n (shared_vars k ++ read) c.args.rows.now c.mark_operands.new.rows) c.requires.shared all)

pub returns-in-Return : goal.returns-in-Return
returns-in-Return c =
    let read = operand_vars c.in-Return.a in
    let all = marked_both true c.args.n (shared_vars c.args.shared) read c.args.rows.now c.mark_globals-in-Return.new.rows c.mark_operand-in-Return.new.rows c.mark_globals-in-Return.ensures c.mark_operand-in-Return.ensures in
    rw c.in-Return.is (subst (λ k. IsMarkedAt true c.args.n (shared_vars k ++ read) c.args.rows.now c.mark_operand-in-Return.new.rows) c.requires.shared all)
