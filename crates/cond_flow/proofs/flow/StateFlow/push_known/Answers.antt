use Rattle.std.proofs.Common.{◌≡◌, ◌↔◌, ◌/◌, ◌%◌, false, sym, ◌∙◌, subst}
use Rattle.cond_flow.specs.States.{Knows, state_where}
use Rattle.cond_flow.specs.Blockwise.{block_at}
use Rattle.cond_flow.specs.PassingLaws.{passing_within}
use Rattle.cond_flow.proofs.JoinCases.{first_same, kept_long, leaves_long, passes_first, passes_on, upper_of}
use Rattle.cond_flow.specs.Outsides.{outside_of}
use Rattle.cond_flow.proofs.flow.StateFlow.push_known.Goals as goal

pub join_where-requires : goal.join_where-requires
join_where-requires g c =
    let laws = g.met.K.Knowledge.laws in
    let f = c.args.self.now in
    let graph = f.graph.now in
    let i = c.into.inside in
    let left = leaves_long laws.order (passing_within (outside_of c.args.self.now.outside.now) laws.order laws.rising graph.shared graph.received) graph.nodes (block_at f.blocks.now.lists (c.args.number / 2)) (c.args.number % 2) c.pass-passes.result c.pass-passes.new.room (Knows c.args.known.now) c.pass-passes.ensures in
    left ∙ c.requires.long ∙ sym (kept_long i.reached i.known c.args.into.now c.into.view_is)

pub returns-then-into-clause-joined : goal.returns-then-into-clause-joined
returns-then-into-clause-joined g c =
    let laws = g.met.K.Knowledge.laws in
    let r = g.K.Knowledge.rules in
    let f = c.args.self.now in
    let graph = f.graph.now in
    let i = c.into.inside in
    let passed = c.pass-passes.new.room in
    let left = leaves_long laws.order (passing_within (outside_of c.args.self.now.outside.now) laws.order laws.rising graph.shared graph.received) graph.nodes (block_at f.blocks.now.lists (c.args.number / 2)) (c.args.number % 2) c.pass-passes.result passed (Knows c.args.known.now) c.pass-passes.ensures in
    let same = left ∙ c.requires.long ∙ sym (kept_long i.reached i.known c.args.into.now c.into.view_is) in
    upper_of laws.order (state_where i.reached i.known) c.args.into.now (state_where c.pass-passes.result passed) _ _ c.into.view_is c.pass-passes.ensures
    (passes_on laws.order i.reached i.known c.pass-passes.result passed c.join_where.new.known c.if-into.true (sym same)
    c.join_where.ensures.joined)

pub returns-else-into-clause-joined : goal.returns-else-into-clause-joined
returns-else-into-clause-joined g c =
    let laws = g.met.K.Knowledge.laws in
    let f = c.args.self.now in
    let graph = f.graph.now in
    let i = c.into.inside in
    let passed = c.pass-passes-else-into.new.room in
    let left = leaves_long laws.order (passing_within (outside_of c.args.self.now.outside.now) laws.order laws.rising graph.shared graph.received) graph.nodes (block_at f.blocks.now.lists (c.args.number / 2)) (c.args.number % 2) c.pass-passes-else-into.result passed (Knows c.args.known.now) c.pass-passes-else-into.ensures in
    let same = left ∙ c.requires.long ∙ sym (kept_long i.reached i.known c.args.into.now c.into.view_is) in
    upper_of laws.order (state_where i.reached i.known) c.args.into.now (state_where c.pass-passes-else-into.result passed) _ _ c.into.view_is c.pass-passes-else-into.ensures
    (passes_first laws.order i.reached i.known c.pass-passes-else-into.result passed c.if-into.false (sym same))

pub returns-else-into-clause-unchanged : goal.returns-else-into-clause-unchanged
returns-else-into-clause-unchanged g c =
    let laws = g.met.K.Knowledge.laws in
    let f = c.args.self.now in
    let graph = f.graph.now in
    let i = c.into.inside in
    let r = c.pass-passes-else-into.result in
    let passed = c.pass-passes-else-into.new.room in
    let left = leaves_long laws.order (passing_within (outside_of c.args.self.now.outside.now) laws.order laws.rising graph.shared graph.received) graph.nodes (block_at f.blocks.now.lists (c.args.number / 2)) (c.args.number % 2) r passed (Knows c.args.known.now) c.pass-passes-else-into.ensures in
    let same = left ∙ c.requires.long ∙ sym (kept_long i.reached i.known c.args.into.now c.into.view_is) in
    subst (λ s. (r ≡ false) ↔ (state_where r passed ≡ s)) c.into.view_is (first_same i.reached i.known passed r c.if-into.false same)

pub returns-then-into-clause-room : goal.returns-then-into-clause-room
returns-then-into-clause-room g c =
    let laws = g.met.K.Knowledge.laws in
    let f = c.args.self.now in
    let graph = f.graph.now in
    leaves_long laws.order (passing_within (outside_of c.args.self.now.outside.now) laws.order laws.rising graph.shared graph.received) graph.nodes (block_at f.blocks.now.lists (c.args.number / 2)) (c.args.number % 2) c.pass-passes.result c.pass-passes.new.room (Knows c.args.known.now) c.pass-passes.ensures
    ∙ sym c.requires.fits
