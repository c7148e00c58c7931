use Rattle.std.proofs.Common.{sym, subst}
use Rattle.cond_flow.specs.Blockwise.{AreLeastOver}
use Rattle.cond_flow.specs.KnownBefore.{AreKnownBefore}
use Rattle.cond_flow.specs.WithinLaws.{nothing_same}
use Rattle.cond_flow.proofs.least_states.tell_in.Goals as goal

pub tell_blocks-requires-clause-states : goal.tell_blocks-requires-clause-states
tell_blocks-requires-clause-states g c =
    subst (λ r. AreLeastOver g.K.Knowledge.below r c.args.graph.now c.args.blocks.now c.args.states.now)
    (sym (nothing_same g.K.Knowledge.rules c.args.nothing.now c.requires.nothing g.met.K.Knowledge.is_open)) c.requires.states

pub returns-clause-known : goal.returns-clause-known
returns-clause-known g c =
    subst (λ r. AreKnownBefore g.K.Knowledge.below r c.args.graph.now c.in_ok-all.all.items)
    (nothing_same g.K.Knowledge.rules c.args.nothing.now c.requires.nothing g.met.K.Knowledge.is_open) c.in_ok-all.ensures.known
