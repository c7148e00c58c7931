use Rattle.std.proofs.Common.{◌≡◌, ◌-◌, ◌+◌, ◌∙◌, suc, length, subst, sym, arith}
use Rattle.std.proofs.lemmas.Option.{same_Some}
use Rattle.sink_code.specs.BlockPlaces.{AreTakenIn}
use Rattle.sink_code.proofs.Noted.{taken_none}
use Rattle.sink_code.proofs.heads.take_in_all.Goals as goal

pub loop-back-init : goal.loop-back-init
loop-back-init c =
    let list = c.nodes-list.result.now in
    taken_none c.args.over.now.graph.now c.args.block (length list - 0) list c.args.places.now (omega arith) c.requires.places

pub take_in-requires-clause-places : goal.take_in-requires-clause-places
take_in-requires-clause-places c =
    let list = c.nodes-list.result.now in
    let same : length c.nodes-list.result.now - c.loop-back.back ≡ suc (length c.nodes-list.result.now - 1 - c.loop-back.back) = omega (arith, c.loop-back-test.true) in
    subst (λ i. AreTakenIn c.args.over.now.graph.now c.args.block i list c.loop-back.places) same c.loop-back.invariant

pub loop-back-preserved : goal.loop-back-preserved
loop-back-preserved c =
    let list = c.nodes-list.result.now in
    let same : length c.nodes-list.result.now - 1 - c.loop-back.back ≡ length c.nodes-list.result.now - (c.loop-back.back + 1) = omega (arith, c.loop-back-test.true) in
    subst (λ i. AreTakenIn c.args.over.now.graph.now c.args.block i list c.take_in.new.places) same c.take_in.ensures

pub returns : goal.returns
returns c = λ list listed.
    let none : length c.nodes-list.result.now - c.loop-back.back ≡ 0 = omega (arith, c.loop-back-test.false) in
    let all = subst (λ i. AreTakenIn c.args.over.now.graph.now c.args.block i c.nodes-list.result.now c.loop-back.places) none c.loop-back.invariant in
    subst (λ l. AreTakenIn c.args.over.now.graph.now c.args.block 0 l c.loop-back.places) (same_Some c.nodes-list.result.now list (sym c.nodes-list.ensures ∙ listed)) all
