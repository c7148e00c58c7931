use Rattle.std.proofs.Common.{◌≡◌, ◌+◌, ◌-◌, ◌≤◌, subst, arith}
use Rattle.cond_flow.specs.States.{state_where}
use Rattle.cond_flow.specs.Passing.{passed_along}
use Rattle.cond_flow.proofs.Steps.{chain_at, passed_on}
use Rattle.cond_flow.specs.Outsides.{rules_in}
use Rattle.cond_flow.proofs.flow.pass_inner.Goals as goal

pub node-node-requires : goal.node-node-requires
node-node-requires g c = chain_at c.args.graph.now.nodes c.args.list.now (c.loop-i.i - 1) c.requires.chain (omega (arith, c.loop-i-test.true))

pub loop-i-preserved : goal.loop-i-preserved
loop-i-preserved g c =
    let r = rules_in c.args.outside.now g.K.Knowledge.rules in
    let graph = c.args.graph.now in
    let low : 1 ≤ c.loop-i.i = c.loop-i.auto.i in
    let after = state_where c.step-reaches.result c.step-reaches.new.known in
    let before = state_where c.loop-i.reaches c.loop-i.known in
    passed_on (passed_along r graph.shared graph.received) graph.nodes c.args.list.now (c.loop-i.i - 1) (c.loop-i.i + 1 - 1) c.node-node.result.now (state_where c.args.reached c.args.known.now) before
    after (omega (arith, c.loop-i-test.true)) (omega (arith, low)) c.node-node.ensures c.loop-i.invariant
    (subst (λ l. after ≡ passed_along r graph.shared l c.node-node.result.now 0 before) c.received.ensures
    (subst (λ n. after ≡ passed_along r n c.received.result.now c.node-node.result.now 0 before) c.shared.ensures.value c.step-reaches.ensures))
