use Rattle.bounds.proofs.KindLaws.{tells_all}
use Rattle.bounds.proofs.coding.FactCoded.tells_all.Goals as goal

pub returns : goal.returns
returns c = tells_all c.args.kind
