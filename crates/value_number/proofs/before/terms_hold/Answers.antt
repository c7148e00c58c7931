use Rattle.value_number.proofs.Lockstep.{one_value}
use Rattle.value_number.proofs.before.terms_hold.Goals as goal

pub returns : goal.returns
returns c = λ n root before path x y same.
    let graph = c.args.graph.now in
    one_value graph.shared graph.received graph.nodes n root before path x y same
