use Rattle.std.proofs.Common.{◌/◌, ◌%◌, sym, subst}
use Rattle.cond_flow.specs.Blockwise.{block_at, out_of}
use Rattle.cond_flow.specs.Catching.{HasPassed}
use Rattle.cond_flow.specs.Passing.{passed_along}
use Rattle.cond_flow.specs.Reading.{AreApart}
use Rattle.cond_flow.specs.States.{Knows}
use Rattle.cond_flow.specs.Outsides.{rules_in}
use Rattle.cond_flow.proofs.flow.StateFlow.join_news.Goals as goal

pub join_past-requires-clause-apart : goal.join_past-requires-clause-apart
join_past-requires-clause-apart g c =
    let f = c.args.self.now in
    let graph = f.graph.now in
    subst (AreApart graph.shared graph.nodes (block_at f.blocks.now.lists (c.args.number / 2))) (sym c.raised.ensures) (c.is_past.ensures.apart c.if-is_past.true)

pub join_past-requires-clause-passed : goal.join_past-requires-clause-passed
join_past-requires-clause-passed g c =
    let f = c.args.self.now in
    let graph = f.graph.now in
    let out = out_of (passed_along (rules_in c.args.self.now.outside.now g.K.Knowledge.rules) graph.shared graph.received) graph.nodes (block_at f.blocks.now.lists (c.args.number / 2)) (c.args.number % 2) in
    subst (λ l. HasPassed g.K.Knowledge.below g.K.Knowledge.rules out l (Knows c.args.known.now) (Knows c.args.into.now)) (sym c.raised.ensures) (c.requires.caught.passed (c.is_past.ensures.whole c.if-is_past.true))
