use Rattle.bounds.specs.BoundsLaws.{bounds_mono, bounds_un_mono}
use Rattle.bounds.proofs.laws.bounds_rise.Goals as goal

pub returns-clause-binary : goal.returns-clause-binary
returns-clause-binary c = bounds_mono

pub returns-clause-unary : goal.returns-clause-unary
returns-clause-unary c = bounds_un_mono
