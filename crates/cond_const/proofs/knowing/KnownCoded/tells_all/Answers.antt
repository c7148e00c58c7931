use Rattle.cond_const.proofs.KindLaws.{tells_all}
use Rattle.cond_const.proofs.knowing.KnownCoded.tells_all.Goals as goal

pub returns : goal.returns
returns c = tells_all c.args.kind
