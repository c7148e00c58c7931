use Rattle.pass_table.proofs.MotionLineLaws.{lines_tell}
use Rattle.pass_table.proofs.motion.lines_found.Goals as goal

pub returns : goal.returns
returns c = lines_tell c.args.unit.now c.in_ok-rows.rows c.in_ok-lines.lines c.in_ok-lines.ensures c.in_ok-rows.ensures
