use Rattle.std.proofs.Common.{◌≡◌, ◌∙◌, sym, ap}
use Rattle.bounds.specs.Edges.{comparison, fact_of, where_is, with_fact}
use Rattle.bounds.specs.Narrowing.{narrowed, turned}
use Rattle.bounds.proofs.Ways.{where_left, where_right}
use Rattle.bounds.proofs.tests_of.narrow.Goals as goal

pub returns : goal.returns
returns c =
    let facts = c.args.facts.now in
    let of = comparison c.args.test in
    let there = where_is c.args.truth of in
    let x = c.fact_of-x.result in
    let y = c.fact_of-y.result in
    let op_is : c.relation_of-op.result ≡ there.op = c.relation_of-op.ensures in
    let a_is : c.left_of-a.result ≡ there.left = c.left_of-a.ensures ∙ sym (where_left c.args.truth of) in
    let b_is : c.right_of-b.result ≡ there.right = c.right_of-b.ensures ∙ sym (where_right c.args.truth of) in
    let x_is : x ≡ fact_of facts there.left = c.fact_of-x.ensures ∙ ap (fact_of facts) a_is in
    let y_is : y ≡ fact_of facts there.right = c.fact_of-y.ensures ∙ ap (fact_of facts) b_is in
    let left_is : c.narrowed-left.result ≡ narrowed there.op (fact_of facts there.left) (fact_of facts there.right) =
    c.narrowed-left.ensures ∙ ap (λ o. narrowed o x y) op_is ∙ ap (λ k. narrowed there.op k y) x_is ∙ ap (narrowed there.op (fact_of facts there.left)) y_is in
    let right_is : c.narrowed-right.result ≡ narrowed (turned there.op) (fact_of facts there.right) (fact_of facts there.left) =
    c.narrowed-right.ensures ∙ ap (λ o. narrowed o y x) (c.turned.ensures ∙ ap turned op_is) ∙ ap (λ k. narrowed (turned there.op) k x) y_is
    ∙ ap (narrowed (turned there.op) (fact_of facts there.right)) x_is in
    c.put_fact-2.ensures ∙ ap (λ a. with_fact a c.narrowed-left.result c.put_fact.new.facts) a_is
    ∙ ap (λ k. with_fact there.left k c.put_fact.new.facts) left_is
    ∙ ap (with_fact there.left (narrowed there.op (fact_of facts there.left) (fact_of facts there.right)))
    (c.put_fact.ensures ∙ ap (λ b. with_fact b c.narrowed-right.result facts) b_is ∙ ap (λ k. with_fact there.right k facts) right_is)
