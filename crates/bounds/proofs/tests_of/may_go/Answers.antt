use Rattle.std.proofs.Common.{◌∙◌, sym, ap}
use Rattle.bounds.specs.Bounding.{span_of}
use Rattle.bounds.specs.Edges.{comparison, fact_of, where_is}
use Rattle.bounds.specs.Narrowing.{may_relate}
use Rattle.bounds.proofs.Ways.{where_left, where_right}
use Rattle.bounds.proofs.tests_of.may_go.Goals as goal

pub returns : goal.returns
returns c =
    let facts = c.args.facts.now in
    let of = comparison c.args.test in
    let there = where_is c.args.truth of in
    let x = c.fact_of-x.result in
    let y = c.fact_of-y.result in
    c.may_hold.ensures ∙ ap (λ op. may_relate op (span_of x) (span_of y)) c.relation_of-op.ensures
    ∙ ap (λ k. may_relate there.op (span_of k) (span_of y)) (c.fact_of-x.ensures ∙ ap (fact_of facts) (c.left_of.ensures ∙ sym (where_left c.args.truth of)))
    ∙ ap (λ k. may_relate there.op (span_of (fact_of facts there.left)) (span_of k)) (c.fact_of-y.ensures ∙ ap (fact_of facts) (c.right_of.ensures ∙ sym (where_right c.args.truth of)))
