use Rattle.cond_flow.proofs.JoinCases.{other_none}
use Rattle.cond_flow.proofs.states.BlockStateLattice.join_from.Goals as goal

pub returns-else-other-clause-joined : goal.returns-else-other-clause-joined
returns-else-other-clause-joined g c =
    let o = c.other.inside in
    other_none g.met.K.Knowledge.laws.order c.args.self.now o.reached o.known c.args.other.now c.if-other.false c.other.view_is c.requires
