use Rattle.std.proofs.Common.{length}
use Rattle.cond_flow.specs.StepLaws.{states_hold}
use Rattle.cond_flow.proofs.least_states.states_hold.Goals as goal

pub returns : goal.returns
returns g c = λ states least.
    let graph = c.args.graph.now in
    states_hold g.met.K.Knowledge.laws graph.shared graph.received graph.nodes (length graph.vars) states least.are g.met.K.Knowledge.is_open
