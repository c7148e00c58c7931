use Rattle.std.proofs.Common.{sym, subst}
use Rattle.flow_graph.specs.Graphs.{AllWithin}
use Rattle.jump_clean.specs.ReductionLaws.{reductions_within}
use Rattle.jump_clean.proofs.cleaning.changed.Goals as goal

pub ends-requires : goal.ends-requires
ends-requires c =
    let t = c.in_ok-reduced.ensures in
    subst AllWithin (sym c.as_slice.ensures.value) (reductions_within c.args.nodes.items t.order c.in_ok-reduced.reduced.items t.reductions c.requires.within)

pub redirect_all-requires-clause-within : goal.redirect_all-requires-clause-within
redirect_all-requires-clause-within c =
    let t = c.in_ok-reduced.ensures in
    reductions_within c.args.nodes.items t.order c.in_ok-reduced.reduced.items t.reductions c.requires.within
