use Rattle.std.proofs.Common.{◌≡◌, ◌∙◌, ◌/◌, ◌%◌, true, length, refl, sym}
use Rattle.cond_flow.specs.Blockwise.{block_at}
use Rattle.cond_flow.specs.PassingLaws.{passing_within}
use Rattle.cond_flow.specs.States.{Knows, state_where}
use Rattle.cond_flow.proofs.JoinCases.{leaves_long, passes_on, upper_of}
use Rattle.cond_flow.specs.Outsides.{outside_of}
use Rattle.cond_flow.proofs.flow.StateFlow.join_whole.Goals as goal

pub join_noting-requires : goal.join_noting-requires
join_noting-requires g c =
    let laws = g.met.K.Knowledge.laws in
    let f = c.args.self.now in
    let graph = f.graph.now in
    leaves_long laws.order (passing_within (outside_of c.args.self.now.outside.now) laws.order laws.rising graph.shared graph.received) graph.nodes (block_at f.blocks.now.lists (c.args.number / 2)) (c.args.number % 2) c.pass-passes.result c.pass-passes.new.room (Knows c.args.known.now) c.pass-passes.ensures
    ∙ c.requires.long

pub returns-clause-room : goal.returns-clause-room
returns-clause-room g c =
    let laws = g.met.K.Knowledge.laws in
    let f = c.args.self.now in
    let graph = f.graph.now in
    leaves_long laws.order (passing_within (outside_of c.args.self.now.outside.now) laws.order laws.rising graph.shared graph.received) graph.nodes (block_at f.blocks.now.lists (c.args.number / 2)) (c.args.number % 2) c.pass-passes.result c.pass-passes.new.room (Knows c.args.known.now) c.pass-passes.ensures
    ∙ c.requires.fits

pub returns-clause-joined : goal.returns-clause-joined
returns-clause-joined g c =
    let laws = g.met.K.Knowledge.laws in
    let f = c.args.self.now in
    let graph = f.graph.now in
    let room = c.pass-passes.new.room in
    let old = c.args.into.now in
    let left : length room ≡ length c.args.known.now = leaves_long laws.order (passing_within (outside_of c.args.self.now.outside.now) laws.order laws.rising graph.shared graph.received) graph.nodes (block_at f.blocks.now.lists (c.args.number / 2)) (c.args.number % 2) c.pass-passes.result room (Knows c.args.known.now) c.pass-passes.ensures in
    let new = c.join_noting.new.known in
    upper_of laws.order (Knows old) (Knows old) (state_where c.pass-passes.result room) _ (Knows new) refl c.pass-passes.ensures
    (passes_on laws.order true old c.pass-passes.result room new refl (sym (left ∙ c.requires.long)) c.join_noting.ensures.joined)
