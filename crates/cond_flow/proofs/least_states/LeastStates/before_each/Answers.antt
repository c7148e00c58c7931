use Rattle.std.proofs.Common.{sym, subst}
use Rattle.cond_flow.specs.KnownBefore.{AreStatesOf}
use Rattle.cond_flow.proofs.least_states.LeastStates.before_each.Goals as goal

pub tell_in-requires-clause-blocks : goal.tell_in-requires-clause-blocks
tell_in-requires-clause-blocks g c = (subst (AreStatesOf g.K.Knowledge.below g.K.Knowledge.rules c.args.graph.now) (sym c.self.view_is) c.requires).blocks

pub tell_in-requires-clause-states : goal.tell_in-requires-clause-states
tell_in-requires-clause-states g c = (subst (AreStatesOf g.K.Knowledge.below g.K.Knowledge.rules c.args.graph.now) (sym c.self.view_is) c.requires).least
