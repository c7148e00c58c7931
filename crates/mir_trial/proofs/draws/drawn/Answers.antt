use Rattle.std.proofs.Common.{refl}
use Rattle.mir_trial.specs.Draws.{drawn}
use Rattle.mir_trial.proofs.draws.drawn.Goals as goal

pub returns-clause-value : goal.returns-clause-value
unfolding drawn
returns-clause-value c = refl
