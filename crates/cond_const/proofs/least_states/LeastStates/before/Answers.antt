use Rattle.std.proofs.Common.{length}
use Rattle.std.specs.Option.{option_map}
use Rattle.cond_const.specs.KnownBefore.{state_of_known}
use Rattle.cond_const.specs.FoldLaws.{agrees_at}
use Rattle.cond_const.proofs.least_states.LeastStates.before.Goals as goal

pub returns-clause-holds : goal.returns-clause-holds
returns-clause-holds c = λ frame of_run at.
    agrees_at (state_of_known (length c.args.graph.now.vars) (option_map (λ list. list.items) c.in_ok-told.told)) frame.values (c.in_ok-told.ensures.holds frame of_run at)
