use Rattle.std.proofs.Common.{subst}
use Rattle.cond_flow.specs.Blockwise.{AreLeastOver}
use Rattle.cond_flow.specs.WithinLaws.{nothing_same}
use Rattle.cond_flow.proofs.least_states.least_in.Goals as goal

pub returns : goal.returns
returns g c =
    subst (λ r. AreLeastOver g.K.Knowledge.below r c.args.graph.now c.args.blocks.now c.in_ok-values.values)
    (nothing_same g.K.Knowledge.rules c.args.nothing.now c.requires.nothing g.met.K.Knowledge.is_open) c.in_ok-values.ensures
