use Rattle.std.proofs.Common.{◌≡◌, ◌<◌, ℕ, length, sym, subst, ◌∙◌, arith}
use Rattle.std.proofs.lemmas.List.{get_or_default}
use Rattle.flow_graph.specs.Graphs.{IsEdge}
use Rattle.cond_flow.specs.States.{Unreached}
use Rattle.cond_flow.specs.Passing.{passed_along}
use Rattle.cond_flow.specs.Telling.{TellsBlocks, TellsHanded}
use Rattle.cond_flow.proofs.Rewrites.{all_handed, tell_blocks_more}
use Rattle.cond_flow.specs.Outsides.{outside_of, rules_in}
use Rattle.cond_flow.specs.WithinLaws.{laws_within}
use Rattle.cond_flow.proofs.handing.hand_blocks.Goals as goal

pub loop-block-preserved : goal.loop-block-preserved
loop-block-preserved g c =
    let lt : c.loop-block.block < length c.args.states.now = omega (arith, c.loop-block-test.true, c.len-block-end.ensures, c.requires.states.long) in
    tell_blocks_more (TellsHanded (rules_in c.args.outside.now g.K.Knowledge.rules) c.args.graph.now) (passed_along (rules_in c.args.outside.now g.K.Knowledge.rules) c.args.graph.now.shared c.args.graph.now.received) c.args.graph.now.nodes c.args.blocks.now.lists c.args.states.now c.loop-block.block c.nodes.result.now c.value.result.now c.loop-block.all.items c.hand_block.new.all.items
    c.loop-block.invariant c.nodes.ensures (c.value.ensures ∙ get_or_default c.args.states.now c.loop-block.block c.value.result.now (Unreached 0) lt) c.in_ok-hand_block.ensures

pub returns : goal.returns
returns g c =
    let laws = laws_within (outside_of c.args.outside.now) g.met.K.Knowledge.laws in
    let graph = c.args.graph.now in
    let end : c.loop-block.block ≡ length c.args.blocks.now.lists = omega (arith, c.loop-block-test.false, c.loop-block.auto.block-end, c.len-block-end.ensures) in
    let told = subst (λ k. TellsBlocks (TellsHanded (rules_in c.args.outside.now g.K.Knowledge.rules) c.args.graph.now) (passed_along (rules_in c.args.outside.now g.K.Knowledge.rules) graph.shared graph.received) graph.nodes c.args.blocks.now.lists c.args.states.now k c.loop-block.all.items) end c.loop-block.invariant in
    let succs = λ (m : ℕ) (slot : ℕ) (s : ℕ) (edge : IsEdge graph.nodes m slot s). c.nodes-nodes.ensures.graph.can.succs m slot s (subst (λ l. IsEdge l m slot s) (sym c.nodes-nodes.ensures.value) edge) in
    all_handed laws.order laws.rising graph c.args.blocks.now c.args.states.now (λ m slot s edge. subst (λ l. s < length l) c.nodes-nodes.ensures.value (succs m slot s edge).1) (λ m slot edge. (let bad = (succs m slot 0 edge).0 in omega (arith, bad))) c.requires.states c.loop-block.all.items told
