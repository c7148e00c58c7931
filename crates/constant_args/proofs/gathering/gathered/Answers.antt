use Rattle.constant_args.proofs.Noting.{all_constants}
use Rattle.constant_args.proofs.gathering.gathered.Goals as goal

pub returns : goal.returns
returns c = all_constants c.args.graphs.now.items c.in_ok-noted.noted.items c.none.result c.requires.some c.none.ensures.empty c.in_ok-noted.ensures
