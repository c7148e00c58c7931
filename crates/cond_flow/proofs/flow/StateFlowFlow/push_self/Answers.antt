use Rattle.std.proofs.Common.{◌/◌, ◌%◌, refl, sym, ap, ◌∙◌}
use Rattle.cond_flow.specs.States.{Knows, state_where}
use Rattle.cond_flow.specs.Blockwise.{block_at, out_of}
use Rattle.cond_flow.specs.Passing.{passed_along}
use Rattle.cond_flow.specs.PassingLaws.{passing_within}
use Rattle.cond_flow.proofs.JoinCases.{kept_long, known_is, leaves_long, passes_on, pushes_none, upper_of}
use Rattle.cond_flow.specs.Outsides.{outside_of, rules_in}
use Rattle.cond_flow.proofs.flow.StateFlowFlow.push_self.Goals as goal

pub join_where-requires : goal.join_where-requires
join_where-requires g c =
    let laws = g.met.K.Knowledge.laws in
    let f = c.args.self.now in
    let graph = f.graph.now in
    let left = leaves_long laws.order (passing_within (outside_of c.args.self.now.outside.now) laws.order laws.rising graph.shared graph.received) graph.nodes (block_at f.blocks.now.lists (c.args.number / 2)) (c.args.number % 2) c.pass-passes.result c.pass-passes.new.room (Knows c.value.inside.known) c.pass-passes.ensures in
    left

pub returns-then-value-clause-joined : goal.returns-then-value-clause-joined
returns-then-value-clause-joined g c =
    let laws = g.met.K.Knowledge.laws in
    let r = g.K.Knowledge.rules in
    let f = c.args.self.now in
    let graph = f.graph.now in
    let s = c.value.inside in
    let passed = c.pass-passes.new.room in
    let list = block_at f.blocks.now.lists (c.args.number / 2) in
    let left = leaves_long laws.order (passing_within (outside_of c.args.self.now.outside.now) laws.order laws.rising graph.shared graph.received) graph.nodes list (c.args.number % 2) c.pass-passes.result passed (Knows c.value.inside.known) c.pass-passes.ensures in
    let same = left in
    let out = out_of (passed_along (rules_in c.args.self.now.outside.now r) graph.shared graph.received) graph.nodes list (c.args.number % 2) in
    upper_of laws.order (state_where s.reached s.known) c.args.value.now (state_where c.pass-passes.result passed) (out c.args.value.now) _ c.value.view_is
    (c.pass-passes.ensures ∙ ap out (known_is s.reached s.known c.args.value.now c.if-value.true c.value.view_is))
    (passes_on laws.order s.reached s.known c.pass-passes.result passed c.join_where.new.known c.if-value.true (sym same)
    c.join_where.ensures.joined)

pub returns-else-value-clause-joined : goal.returns-else-value-clause-joined
returns-else-value-clause-joined g c =
    let laws = g.met.K.Knowledge.laws in
    let f = c.args.self.now in
    let graph = f.graph.now in
    let s = c.value.inside in
    pushes_none laws.order (passing_within (outside_of c.args.self.now.outside.now) laws.order laws.rising graph.shared graph.received) graph.nodes (block_at f.blocks.now.lists (c.args.number / 2)) (c.args.number % 2) c.args.value.now s.reached s.known c.args.value.now c.if-value.false c.value.view_is refl

pub pass-passes-requires-clause-fits : goal.pass-passes-requires-clause-fits
pass-passes-requires-clause-fits g c =
    let i = c.value.inside in
    kept_long i.reached i.known c.args.value.now c.value.view_is ∙ c.requires.size ∙ sym c.requires.room

pub returns-then-value-clause-room : goal.returns-then-value-clause-room
returns-then-value-clause-room g c =
    let laws = g.met.K.Knowledge.laws in
    let f = c.args.self.now in
    let graph = f.graph.now in
    let i = c.value.inside in
    leaves_long laws.order (passing_within (outside_of c.args.self.now.outside.now) laws.order laws.rising graph.shared graph.received) graph.nodes (block_at f.blocks.now.lists (c.args.number / 2)) (c.args.number % 2) c.pass-passes.result c.pass-passes.new.room (Knows i.known) c.pass-passes.ensures
    ∙ kept_long i.reached i.known c.args.value.now c.value.view_is ∙ c.requires.size
