use Rattle.cond_const.proofs.Constants.{constants_are}
use Rattle.cond_const.proofs.known.folded_constants.Goals as goal

pub returns-in-Ok : goal.returns-in-Ok
returns-in-Ok c = constants_are c.args.op c.args.c c.args.d c.in-Ok.v c.ranges.c c.ranges.d c.in-Ok.ensures
