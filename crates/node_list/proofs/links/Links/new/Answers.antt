use Rattle.std.proofs.Common.{◌≡◌, ◌+◌, arith, ap, subst, sym, ◌∙◌}
use Rattle.node_list.specs.Rings.{HoldLinks}
use Rattle.node_list.proofs.Writes.{starts}
use Rattle.node_list.proofs.links.Links.new.Goals as goal

pub invariant_of-result : goal.invariant_of-result
invariant_of-result c =
    let done : c.loop-number.number ≡ c.in-Some.count = omega arith in
    let sum : c.in-Some.count ≡ c.args.nodes + c.args.lists = c.in-Some.ensures.1 in
    let next = c.loop-number.next.items in
    let len = c.loop-number.invariant.len ∙ done ∙ sum in
    subst (HoldLinks c.args.nodes c.args.lists next) (sym (c.in_ok-prev.ensures.items ∙ c.as_slice.ensures.value))
    (starts c.args.nodes c.args.lists next next len len (λ k h. c.loop-number.invariant.itself k (omega arith)) (λ k h. c.loop-number.invariant.itself k (omega arith))).held

pub returns : goal.returns
returns c =
    let done : c.loop-number.number ≡ c.in-Some.count = omega arith in
    let sum : c.in-Some.count ≡ c.args.nodes + c.args.lists = c.in-Some.ensures.1 in
    let next = c.loop-number.next.items in
    let len = c.loop-number.invariant.len ∙ done ∙ sum in
    ap (λ lists. record { nodes = c.args.nodes; lists = lists })
    (starts c.args.nodes c.args.lists next next len len (λ k h. c.loop-number.invariant.itself k (omega arith)) (λ k h. c.loop-number.invariant.itself k (omega arith))).lists_are
