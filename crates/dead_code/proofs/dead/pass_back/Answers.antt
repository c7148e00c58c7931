use Rattle.dead_code.proofs.PrunedMarks.{passes_back}
use Rattle.dead_code.proofs.dead.pass_back.Goals as goal

pub returns : goal.returns
returns c = passes_back c.args.graph.now c.args.node.now c.args.row c.args.rows.now c.mark_assigned.new.rows c.mark_read.new.rows c.mark_assigned.ensures c.mark_read.ensures
