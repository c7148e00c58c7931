use Rattle.std.proofs.Common.{subst}
use Rattle.cond_flow.specs.KnownBefore.{PassesTo}
use Rattle.cond_flow.specs.States.{state_where}
use Rattle.cond_flow.specs.WithinLaws.{nothing_same}
use Rattle.cond_flow.proofs.least_states.pass_in.Goals as goal

pub returns : goal.returns
returns g c =
    subst (λ r. PassesTo r c.args.graph.now c.args.list.now c.args.node (state_where c.args.reached c.args.known.now) (state_where c.pass_to.result c.pass_to.new.known))
    (nothing_same g.K.Knowledge.rules c.args.nothing.now c.requires.nothing g.met.K.Knowledge.is_open) c.pass_to.ensures
