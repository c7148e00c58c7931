use Rattle.cond_const.specs.FoldLaws.{agrees_at}
use Rattle.cond_const.proofs.least_states.states_hold.Goals as goal

pub returns : goal.returns
returns c = λ states least frame of_run. agrees_at (states frame.place) frame.values (c.states_hold.ensures states least frame of_run)
