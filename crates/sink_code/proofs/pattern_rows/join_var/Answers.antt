use Rattle.std.proofs.Common.{sym}
use Rattle.sink_code.proofs.JoinedLast.{joins_one}
use Rattle.sink_code.proofs.pattern_rows.join_var.Goals as goal

pub returns : goal.returns
returns c = joins_one c.args.from.now c.args.x c.args.last c.args.rows.now c.or_into.new.self c.requires.fits.within (sym (c.requires.fits.long.each c.args.x c.requires.x)) c.or_into.ensures
