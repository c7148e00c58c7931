use Rattle.std.proofs.Common.{◌≡◌, ◌∙◌, ◌+◌, ap, subst, arith, Some}
use Rattle.std.proofs.lemmas.Option.{slice_get-get_or}
use Rattle.cond_flow.specs.States.{state_where}
use Rattle.cond_flow.specs.Passing.{passed_along}
use Rattle.cond_flow.proofs.Steps.{chain_at, passed_on, place_low, place_next}
use Rattle.cond_flow.specs.Outsides.{rules_in}
use Rattle.cond_flow.proofs.least_states.pass_to.Goals as goal

pub node-here-requires : goal.node-here-requires
node-here-requires g c =
    let ahead = c.loop-place.invariant.ahead in
    chain_at c.args.graph.now.nodes c.args.list.now c.loop-place.place c.requires.chain (place_low c.args.list.now c.loop-place.place ahead.0 c.args.node ahead.1 ahead.2)

pub overflow_add-place : goal.overflow_add-place
overflow_add-place g c =
    let ahead = c.loop-place.invariant.ahead in
    omega (arith, place_low c.args.list.now c.loop-place.place ahead.0 c.args.node ahead.1 ahead.2)

pub loop-place-smaller : goal.loop-place-smaller
loop-place-smaller g c =
    let ahead = c.loop-place.invariant.ahead in
    omega (arith, place_low c.args.list.now c.loop-place.place ahead.0 c.args.node ahead.1 ahead.2)

pub loop-place-preserved : goal.loop-place-preserved
loop-place-preserved g c =
    let r = rules_in c.args.outside.now g.K.Knowledge.rules in
    let graph = c.args.graph.now in
    let list = c.args.list.now in
    let place = c.loop-place.place in
    let ahead = c.loop-place.invariant.ahead in
    let before = state_where c.loop-place.reaches c.loop-place.known in
    let after = state_where c.step-reaches.result c.step-reaches.new.known in
    record {
      passes = passed_on (passed_along r graph.shared graph.received) graph.nodes list place (place + 1) c.node-here.result.now (state_where c.args.reached c.args.known.now) before after
          (place_low list place ahead.0 c.args.node ahead.1 ahead.2) (omega arith) c.node-here.ensures c.loop-place.invariant.passes
          (subst (λ l. after ≡ passed_along r graph.shared l c.node-here.result.now 0 before) c.received.ensures
          (subst (λ n. after ≡ passed_along r n c.received.result.now c.node-here.result.now 0 before) c.shared.ensures.value c.step-reaches.ensures));
      ahead = (ahead.0, place_next list place ahead.0 c.args.node ahead.1 ahead.2 c.loop-place-test.true, ahead.2);
    }

pub returns : goal.returns
returns g c =
    let ahead = c.loop-place.invariant.ahead in
    record {
      place = c.loop-place.place;
      stands = slice_get-get_or c.args.list.now c.loop-place.place 0 (place_low c.args.list.now c.loop-place.place ahead.0 c.args.node ahead.1 ahead.2) ∙ ap Some c.loop-place-test.false;
      passes = c.loop-place.invariant.passes;
    }
