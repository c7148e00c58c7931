use Rattle.std.proofs.Common.{◌≡◌, ◌∙◌, ◌/◌, ◌%◌, true, length, refl, sym}
use Rattle.cond_flow.specs.Blockwise.{block_at}
use Rattle.cond_flow.specs.PassingLaws.{passing_within}
use Rattle.cond_flow.specs.States.{Knows, state_where}
use Rattle.cond_flow.proofs.JoinCases.{leaves_long, passes_on, upper_of}
use Rattle.cond_flow.proofs.PushLaws.{round_joins}
use Rattle.cond_flow.proofs.RaisingLaws.{keeps_none}
use Rattle.cond_flow.proofs.Steps.{block_some}
use Rattle.cond_flow.specs.Outsides.{outside_of}
use Rattle.cond_flow.proofs.flow.StateFlow.join_round.Goals as goal

pub returns-then-is_past-clause-joined : goal.returns-then-is_past-clause-joined
returns-then-is_past-clause-joined g c =
    let laws = g.met.K.Knowledge.laws in
    let f = c.args.self.now in
    let graph = f.graph.now in
    let list = block_at f.blocks.now.lists (c.args.number / 2) in
    round_joins laws.frame laws.order laws.rising (outside_of c.args.self.now.outside.now) graph.shared graph.received graph.nodes list (c.args.number % 2) (block_some graph.nodes f.blocks.now.lists f.entry f.targets.now c.requires.valid.is_net c.args.number c.requires.in_range) c.args.news.now.raised c.args.known.now
    (c.is_past.ensures.apart c.if-is_past.true) (c.requires.caught.passed (c.is_past.ensures.whole c.if-is_past.true))

pub returns-then-is_past-clause-keeps : goal.returns-then-is_past-clause-keeps
returns-then-is_past-clause-keeps g c = keeps_none g.K.Knowledge.rules _ _

pub join_noting-requires : goal.join_noting-requires
join_noting-requires g c =
    let laws = g.met.K.Knowledge.laws in
    let f = c.args.self.now in
    let graph = f.graph.now in
    leaves_long laws.order (passing_within (outside_of c.args.self.now.outside.now) laws.order laws.rising graph.shared graph.received) graph.nodes (block_at f.blocks.now.lists (c.args.number / 2)) (c.args.number % 2) c.pass-passes.result c.pass-passes.new.room (Knows c.args.known.now) c.pass-passes.ensures

pub returns-else-is_past-clause-room : goal.returns-else-is_past-clause-room
returns-else-is_past-clause-room g c =
    let laws = g.met.K.Knowledge.laws in
    let f = c.args.self.now in
    let graph = f.graph.now in
    leaves_long laws.order (passing_within (outside_of c.args.self.now.outside.now) laws.order laws.rising graph.shared graph.received) graph.nodes (block_at f.blocks.now.lists (c.args.number / 2)) (c.args.number % 2) c.pass-passes.result c.pass-passes.new.room (Knows c.args.known.now) c.pass-passes.ensures
    ∙ c.requires.fits

pub returns-else-is_past-clause-joined : goal.returns-else-is_past-clause-joined
returns-else-is_past-clause-joined g c =
    let laws = g.met.K.Knowledge.laws in
    let f = c.args.self.now in
    let graph = f.graph.now in
    let room = c.pass-passes.new.room in
    let old = c.args.known.now in
    let left : length room ≡ length old = leaves_long laws.order (passing_within (outside_of c.args.self.now.outside.now) laws.order laws.rising graph.shared graph.received) graph.nodes (block_at f.blocks.now.lists (c.args.number / 2)) (c.args.number % 2) c.pass-passes.result room (Knows old) c.pass-passes.ensures in
    let new = c.join_noting.new.known in
    upper_of laws.order (Knows old) (Knows old) (state_where c.pass-passes.result room) _ (Knows new) refl c.pass-passes.ensures
    (passes_on laws.order true old c.pass-passes.result room new refl (sym left) c.join_noting.ensures.joined)
