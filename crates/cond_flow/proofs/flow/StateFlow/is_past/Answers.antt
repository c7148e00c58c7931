use Rattle.std.proofs.Common.{◌/◌, [], sym, subst}
use Rattle.std.proofs.lemmas.Option.{get_or_from_slice_get}
use Rattle.cond_flow.specs.Reading.{AreApart}
use Rattle.cond_flow.proofs.flow.StateFlow.is_past.Goals as goal

pub are_apart-requires : goal.are_apart-requires
are_apart-requires g c = (c.requires.valid.blocks.are.blocks (c.args.number / 2) c.nodes.result.now c.nodes.ensures).chain

pub returns-else-are_all-clause-apart : goal.returns-else-are_all-clause-apart
returns-else-are_all-clause-apart g c = λ on.
    let f = c.args.self.now in
    let graph = f.graph.now in
    subst (λ l. AreApart graph.shared graph.nodes l c.args.news.now.raised) (sym (get_or_from_slice_get f.blocks.now.lists (c.args.number / 2) c.nodes.result.now [] c.nodes.ensures))
    (subst (AreApart graph.shared graph.nodes c.nodes.result.now) c.raised.ensures (c.are_apart.ensures on))
