use Rattle.std.proofs.Common.{subst}
use Rattle.cond_flow.specs.Rewriting.{HaveBecome}
use Rattle.cond_flow.specs.WithinLaws.{nothing_same}
use Rattle.cond_flow.proofs.rewriting.nodes_in.Goals as goal

pub returns : goal.returns
returns g c =
    subst (λ r. HaveBecome g.K.Knowledge.below r c.args.graph.now c.in_ok-made.made.items)
    (nothing_same g.K.Knowledge.rules c.args.nothing.now c.requires g.met.K.Knowledge.is_open) c.in_ok-made.ensures
