use Rattle.std.proofs.Common.{sym, ap, ◌∙◌}
use Rattle.std.specs.Option.{option_copied}
use Rattle.mir_opt.proofs.Rounds.{last_none, last_some}
use Rattle.mir_opt.proofs.stages.last_round.Goals as goal

pub returns-in-None : goal.returns-in-None
returns-in-None c = last_none c.args.graph.now c.args.rounds.now (sym c.last.ensures.value ∙ ap option_copied c.in-None.is)

pub returns-in-Some : goal.returns-in-Some
returns-in-Some c = last_some c.args.graph.now c.args.rounds.now c.in-Some.last.now (sym c.last.ensures.value ∙ ap option_copied c.in-Some.is)
