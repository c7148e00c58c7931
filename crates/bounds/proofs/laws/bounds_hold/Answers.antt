use Rattle.bounds.specs.BoundsLaws.{bounds_hold, bounds_un_hold}
use Rattle.bounds.proofs.laws.bounds_hold.Goals as goal

pub returns-clause-binary : goal.returns-clause-binary
returns-clause-binary c = bounds_hold

pub returns-clause-unary : goal.returns-clause-unary
returns-clause-unary c = bounds_un_hold
