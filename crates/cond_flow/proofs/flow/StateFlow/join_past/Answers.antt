use Rattle.std.proofs.Common.{◌∙◌, ◌/◌, ◌%◌, refl, sym}
use Rattle.cond_flow.specs.Blockwise.{block_at}
use Rattle.cond_flow.proofs.PushLaws.{past_joins}
use Rattle.cond_flow.proofs.RaisingLaws.{keeps_none}
use Rattle.cond_flow.proofs.Steps.{block_some}
use Rattle.cond_flow.specs.Outsides.{outside_of}
use Rattle.cond_flow.proofs.flow.StateFlow.join_past.Goals as goal

pub returns-then-passes_still-clause-joined : goal.returns-then-passes_still-clause-joined
returns-then-passes_still-clause-joined g c =
    let laws = g.met.K.Knowledge.laws in
    let f = c.args.self.now in
    let graph = f.graph.now in
    let list = block_at f.blocks.now.lists (c.args.number / 2) in
    past_joins laws.frame laws.order laws.rising (outside_of c.args.self.now.outside.now) graph.shared graph.received graph.nodes list (c.args.number % 2) (block_some graph.nodes f.blocks.now.lists f.entry f.targets.now c.requires.valid.is_net c.args.number c.requires.in_range) c.args.raised.now c.args.known.now c.args.into.now _
    c.requires.apart c.requires.passed (λ on. c.join_raised.ensures.raised)
    (λ off. absurd (let bad = sym c.if-passes_still.true ∙ c.passes_still.ensures.passes ∙ off in cc))

pub returns-else-passes_still-clause-joined : goal.returns-else-passes_still-clause-joined
returns-else-passes_still-clause-joined g c =
    let laws = g.met.K.Knowledge.laws in
    let f = c.args.self.now in
    let graph = f.graph.now in
    let list = block_at f.blocks.now.lists (c.args.number / 2) in
    past_joins laws.frame laws.order laws.rising (outside_of c.args.self.now.outside.now) graph.shared graph.received graph.nodes list (c.args.number % 2) (block_some graph.nodes f.blocks.now.lists f.entry f.targets.now c.requires.valid.is_net c.args.number c.requires.in_range) c.args.raised.now c.args.known.now c.args.into.now c.args.into.now
    c.requires.apart c.requires.passed
    (λ on. absurd (let bad = sym c.if-passes_still.false ∙ c.passes_still.ensures.passes ∙ on in cc))
    (λ off. refl)

pub returns-else-passes_still-clause-keeps : goal.returns-else-passes_still-clause-keeps
returns-else-passes_still-clause-keeps g c = keeps_none g.K.Knowledge.rules _ _
