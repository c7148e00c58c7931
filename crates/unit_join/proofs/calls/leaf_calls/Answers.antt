use Rattle.std.proofs.Common.{◌∙◌, ap, sym, true≢false}
use Rattle.unit_join.specs.Joins.{IsLeafCall}
use Rattle.unit_join.proofs.Found.{found_all}
use Rattle.flow_graph.specs.MemberLaws.{found_more, found_passed, same_found}
use Rattle.unit_join.proofs.calls.leaf_calls.Goals as goal
use Rattle.unit_join.proofs.calls.leaf_calls.Goals.{then-calls_leaf+in_ok-push, else-calls_leaf}

pub loop-n-preserved : goal.loop-n-preserved
loop-n-preserved c =
    let leaves = c.args.leaves.now.units in
    let nodes = c.args.nodes.now in
    let calls = c.loop-n.calls.items in
    elim c.if-calls_leaf.branch [
      | then-calls_leaf+in_ok-push w ↦ found_more (IsLeafCall leaves nodes) c.loop-n.n calls c.if-calls_leaf.calls.items c.loop-n.invariant (c.calls_leaf.ensures.0 w.if-calls_leaf.true) (ap (λ v. v.items) w.calls-is ∙ w.in_ok-push.ensures.items)
      | else-calls_leaf w ↦
          same_found (IsLeafCall leaves nodes) c.loop-n.n calls c.if-calls_leaf.calls.items (ap (λ v. v.items) w.calls-is)
          (found_passed (IsLeafCall leaves nodes) c.loop-n.n calls c.loop-n.invariant (λ has. true≢false (sym (c.calls_leaf.ensures.1 has) ∙ w.if-calls_leaf.false)))
    ]

pub returns : goal.returns
returns c = found_all c.args.leaves.now.units c.args.nodes.now c.loop-n.n c.loop-n.calls.items c.loop-n.invariant c.loop-n-test.false
