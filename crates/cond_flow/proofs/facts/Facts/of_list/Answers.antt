use Rattle.std.proofs.Common.{◌≡◌, ◌∙◌, ◌-◌, ◌<◌, ◌++◌, append-nil, length, replicate, slice_set, take, ap, arith}
use Rattle.std.proofs.lemmas.List.{get_or_read, take_all}
use Rattle.cond_flow.proofs.TransferLaws.{taken_more}
use Rattle.cond_flow.proofs.facts.Facts.of_list.Goals as goal

pub loop-x-preserved : goal.loop-x-preserved
loop-x-preserved g c =
    let list = c.args.list.now in
    let x = c.loop-x.x in
    let lt : x < length list = omega (arith, c.loop-x-test.true, c.loop-x.auto.x-end) in
    let d = c.args.otherwise in
    c.set.ensures
    ∙ ap (slice_set c.loop-x.facts x) (get_or_read list x c.index-list-x.result lt c.index-list-x.is d)
    ∙ taken_more list x d c.loop-x.facts lt c.loop-x.invariant d

pub returns : goal.returns
returns g c =
    let end : c.loop-x.x ≡ length c.args.list.now = omega (arith, c.loop-x-test.false, c.loop-x.auto.x-end) in
    let none : length c.args.list.now - c.loop-x.x ≡ 0 = omega (arith, end) in
    c.loop-x.invariant
    ∙ ap (λ n. take c.loop-x.x c.args.list.now ++ replicate n c.args.otherwise) none
    ∙ append-nil (take c.loop-x.x c.args.list.now)
    ∙ take_all c.loop-x.x c.args.list.now (omega (arith, end))
