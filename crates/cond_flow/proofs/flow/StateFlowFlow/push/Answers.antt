use Rattle.std.proofs.Common.{◌/◌, ◌%◌, sym, ◌∙◌}
use Rattle.cond_flow.specs.Blockwise.{block_at}
use Rattle.cond_flow.specs.PassingLaws.{passing_within}
use Rattle.cond_flow.proofs.JoinCases.{kept_long, pushes_none}
use Rattle.cond_flow.specs.Outsides.{outside_of}
use Rattle.cond_flow.proofs.flow.StateFlowFlow.push.Goals as goal

pub returns-else-from-clause-joined : goal.returns-else-from-clause-joined
returns-else-from-clause-joined g c =
    let laws = g.met.K.Knowledge.laws in
    let f = c.args.self.now in
    let graph = f.graph.now in
    let s = c.from.inside in
    pushes_none laws.order (passing_within (outside_of c.args.self.now.outside.now) laws.order laws.rising graph.shared graph.received) graph.nodes (block_at f.blocks.now.lists (c.args.number / 2)) (c.args.number % 2) c.args.into.now s.reached s.known c.args.from.now c.if-from.false c.from.view_is
    (c.requires.into_size ∙ sym c.requires.from_size)

pub push_known-requires-clause-fits : goal.push_known-requires-clause-fits
push_known-requires-clause-fits g c =
    let s = c.from.inside in
    c.requires.room ∙ sym c.requires.from_size ∙ sym (kept_long s.reached s.known c.args.from.now c.from.view_is)

pub returns-then-from-clause-room : goal.returns-then-from-clause-room
returns-then-from-clause-room g c = c.push_known.ensures.room ∙ c.requires.room
