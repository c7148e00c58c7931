use Rattle.std.proofs.Common.{◌≡◌, ◌∙◌, ◌<◌, ◌-◌, ◌/◌, ◌%◌, length, take, [], slice_get, Some, sym, ap, subst, arith}
use Rattle.std.proofs.lemmas.Option.{get_or_from_slice_get}
use Rattle.flow_graph.specs.BlockLaws.{chain_some}
use Rattle.cond_flow.specs.Blockwise.{out_of}
use Rattle.cond_flow.specs.Passing.{passed_along}
use Rattle.cond_flow.specs.PassingLaws.{passing_within}
use Rattle.cond_flow.specs.States.{Knows, is_reached}
use Rattle.cond_flow.proofs.JoinCases.{out_none, through_long}
use Rattle.cond_flow.proofs.PushLaws.{passes_by_read, passes_on_first}
use Rattle.cond_flow.proofs.Steps.{chain_at}
use Rattle.cond_flow.specs.Outsides.{outside_of, rules_in}
use Rattle.cond_flow.proofs.flow.StateFlow.passes_still.Goals as goal

pub last-requires : goal.last-requires
last-requires g c = chain_some c.args.self.now.graph.now.nodes c.nodes-list.result.now (c.requires.valid.blocks.are.blocks (c.args.number / 2) c.nodes-list.result.now c.nodes-list.ensures).chain

pub node-requires : goal.node-requires
node-requires g c =
    let nodes = c.args.self.now.graph.now.nodes in
    let list = c.nodes-list.result.now in
    let chain = (c.requires.valid.blocks.are.blocks (c.args.number / 2) list c.nodes-list.ensures).chain in
    let some = chain_some nodes list chain in
    subst (λ n. n < length nodes) (sym c.last.ensures) (chain_at nodes list (length list - 1) chain (omega (arith, some)))

pub pass_inner-reaches-requires-clause-some : goal.pass_inner-reaches-requires-clause-some
pass_inner-reaches-requires-clause-some g c = chain_some c.args.self.now.graph.now.nodes c.nodes-list.result.now (c.requires.valid.blocks.are.blocks (c.args.number / 2) c.nodes-list.result.now c.nodes-list.ensures).chain

pub returns-then-may_pass-clause-long : goal.returns-then-may_pass-clause-long
returns-then-may_pass-clause-long g c =
    let laws = g.met.K.Knowledge.laws in
    let graph = c.args.self.now.graph.now in
    through_long laws.order (passing_within (outside_of c.args.self.now.outside.now) laws.order laws.rising graph.shared graph.received) graph.nodes (take (length c.nodes-list.result.now - 1) c.nodes-list.result.now) c.pass_inner-reaches.result c.pass_inner-reaches.new.known (Knows c.take_read.new.into) c.pass_inner-reaches.ensures
    ∙ c.take_read.ensures.long

pub node-requires-then-may_pass : goal.node-requires-then-may_pass
node-requires-then-may_pass g c =
    let nodes = c.args.self.now.graph.now.nodes in
    let list = c.nodes-list.result.now in
    let chain = (c.requires.valid.blocks.are.blocks (c.args.number / 2) list c.nodes-list.ensures).chain in
    let some = chain_some nodes list chain in
    subst (λ n. n < length nodes) (sym c.last-then-may_pass.ensures) (chain_at nodes list (length list - 1) chain (omega (arith, some)))

pub returns-then-may_pass-clause-passes : goal.returns-then-may_pass-clause-passes
returns-then-may_pass-clause-passes g c =
    let laws = g.met.K.Knowledge.laws in
    let f = c.args.self.now in
    let graph = f.graph.now in
    let along = passed_along (rules_in c.args.self.now.outside.now g.K.Knowledge.rules) graph.shared graph.received in
    let list = c.nodes-list.result.now in
    let slot = c.args.number % 2 in
    let some = chain_some graph.nodes list (c.requires.valid.blocks.are.blocks (c.args.number / 2) list c.nodes-list.ensures).chain in
    let at = subst (λ n. slice_get graph.nodes n ≡ Some c.node-then-may_pass.result.now) c.last-then-may_pass.ensures c.node-then-may_pass.ensures in
    c.steps_on.ensures (outside_of c.args.self.now.outside.now)
    ∙ passes_by_read laws.frame laws.order laws.rising (outside_of c.args.self.now.outside.now) graph.shared graph.received graph.nodes list slot some c.args.known.now c.take_read.new.into (c.requires.fits ∙ sym c.take_read.ensures.long) c.take_read.ensures.alike c.node-then-may_pass.result.now at c.pass_inner-reaches.result c.pass_inner-reaches.new.known c.pass_inner-reaches.ensures
    ∙ ap (λ l. is_reached (out_of along graph.nodes l slot (Knows c.args.known.now))) (sym (get_or_from_slice_get f.blocks.now.lists (c.args.number / 2) list [] c.nodes-list.ensures))

pub returns-else-may_pass-clause-passes : goal.returns-else-may_pass-clause-passes
returns-else-may_pass-clause-passes g c =
    let f = c.args.self.now in
    let graph = f.graph.now in
    let along = passed_along (rules_in c.args.self.now.outside.now g.K.Knowledge.rules) graph.shared graph.received in
    let laws = passing_within (outside_of c.args.self.now.outside.now) g.met.K.Knowledge.laws.order g.met.K.Knowledge.laws.rising graph.shared graph.received in
    let list = c.nodes-list.result.now in
    let slot = c.args.number % 2 in
    ap is_reached
    (out_none (rules_in c.args.self.now.outside.now g.K.Knowledge.rules) graph.shared graph.received laws graph.nodes list slot (Knows c.args.known.now) c.node.result.now (subst (λ n. slice_get graph.nodes n ≡ Some c.node.result.now) c.last.ensures c.node.ensures) (c.may_pass.ensures c.if-may_pass.false (outside_of c.args.self.now.outside.now))
    ∙ ap (λ l. out_of along graph.nodes l slot (Knows c.args.known.now)) (sym (get_or_from_slice_get f.blocks.now.lists (c.args.number / 2) list [] c.nodes-list.ensures)))

pub all_go_on-requires : goal.all_go_on-requires
all_go_on-requires g c = (c.requires.valid.blocks.are.blocks (c.args.number / 2) c.nodes-list.result.now c.nodes-list.ensures).chain

pub returns-then-all_go_on-clause-passes : goal.returns-then-all_go_on-clause-passes
returns-then-all_go_on-clause-passes g c =
    let laws = g.met.K.Knowledge.laws in
    let f = c.args.self.now in
    let graph = f.graph.now in
    let along = passed_along (rules_in c.args.self.now.outside.now g.K.Knowledge.rules) graph.shared graph.received in
    let list = c.nodes-list.result.now in
    let slot = c.args.number % 2 in
    let some = chain_some graph.nodes list (c.requires.valid.blocks.are.blocks (c.args.number / 2) list c.nodes-list.ensures).chain in
    sym (passes_on_first laws.frame laws.order laws.rising (outside_of c.args.self.now.outside.now) graph.shared graph.received graph.nodes list slot some c.args.known.now c.if-number-eq0.true (c.all_go_on.ensures c.if-all_go_on.true))
    ∙ ap (λ l. is_reached (out_of along graph.nodes l slot (Knows c.args.known.now))) (sym (get_or_from_slice_get f.blocks.now.lists (c.args.number / 2) list [] c.nodes-list.ensures))

pub last-requires-then-may_pass : goal.last-requires-then-may_pass
last-requires-then-may_pass g c = chain_some c.args.self.now.graph.now.nodes c.nodes-list.result.now (c.requires.valid.blocks.are.blocks (c.args.number / 2) c.nodes-list.result.now c.nodes-list.ensures).chain
