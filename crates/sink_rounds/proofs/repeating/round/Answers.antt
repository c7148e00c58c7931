use Rattle.sink_rounds.specs.RoundLaws.{round_is_one, round_keeps_globals}
use Rattle.sink_rounds.proofs.repeating.round.Goals as goal

pub returns-clause-only : goal.returns-clause-only
returns-clause-only c = λ other is. round_is_one c.args.graph.now other c.in_ok-made.made.graph is c.in_ok-made.ensures.round

pub returns-clause-globals : goal.returns-clause-globals
returns-clause-globals c = round_keeps_globals c.args.graph.now c.in_ok-made.made.graph c.in_ok-made.ensures.round

pub returns-clause-best : goal.returns-clause-best
returns-clause-best c = c.in_ok-made.ensures.best
