use Rattle.std.proofs.Common.{◌≡◌, ◌+◌, ◌<◌, length, subst, arith}
use Rattle.std.proofs.lemmas.Option.{slice_get-get_or}
use Rattle.cond_flow.specs.States.{state_where}
use Rattle.cond_flow.specs.Passing.{passed_along}
use Rattle.cond_flow.specs.Telling.{TellsIn, TellsStates}
use Rattle.cond_flow.proofs.Rewrites.{tells_more}
use Rattle.cond_flow.proofs.Steps.{chain_at, passed_on}
use Rattle.cond_flow.specs.Outsides.{rules_in}
use Rattle.cond_flow.proofs.telling.tell_list.Goals as goal

pub node-node-requires : goal.node-node-requires
node-node-requires g c = chain_at c.args.graph.now.nodes c.args.list.now c.loop-i.i c.requires.chain (omega (arith, c.loop-i-test.true))

pub put-requires : goal.put-requires
put-requires g c =
    let low = chain_at c.args.graph.now.nodes c.args.list.now c.loop-i.i c.requires.chain (omega (arith, c.loop-i-test.true)) in
    omega (arith, low, c.loop-i.invariant.tells.long, c.requires.long)

pub loop-i-preserved : goal.loop-i-preserved
loop-i-preserved g c =
    let r = rules_in c.args.outside.now g.K.Knowledge.rules in
    let graph = c.args.graph.now in
    let along = passed_along r graph.shared graph.received in
    let list = c.args.list.now in
    let first = state_where c.args.reached c.args.known.now in
    let before = state_where c.loop-i.reaches c.loop-i.known in
    let after = state_where c.step-reaches.result c.step-reaches.new.known in
    let lt : c.loop-i.i < length list = omega (arith, c.loop-i-test.true) in
    let low = chain_at graph.nodes list c.loop-i.i c.requires.chain lt in
    record {
      passes = passed_on along graph.nodes list c.loop-i.i (c.loop-i.i + 1) c.node-node.result.now first before after lt (omega arith) c.node-node.ensures c.loop-i.invariant.passes
          (subst (λ l. after ≡ passed_along r graph.shared l c.node-node.result.now 0 before) c.received.ensures
          (subst (λ n. after ≡ passed_along r n c.received.result.now c.node-node.result.now 0 before) c.shared.ensures.value c.step-reaches.ensures));
      tells = tells_more TellsStates along graph.nodes list first c.args.all.now.items c.loop-i.i _ before c.loop-i.all.items c.put.new.all.items c.loop-i.invariant.tells
          (slice_get-get_or list c.loop-i.i 0 lt) c.loop-i.invariant.passes (omega (arith, low, c.loop-i.invariant.tells.long, c.requires.long)) c.in_ok-put.ensures;
    }

pub returns : goal.returns
returns g c =
    let end : c.loop-i.i ≡ length c.args.list.now = omega (arith, c.loop-i-test.false, c.loop-i.auto.i-end) in
    subst (λ k. TellsIn (rules_in c.args.outside.now g.K.Knowledge.rules) c.args.graph.now c.args.list.now (state_where c.args.reached c.args.known.now) k c.args.all.now.items c.loop-i.all.items) end c.loop-i.invariant.tells
