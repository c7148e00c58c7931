use Rattle.std.proofs.Common.{◌∙◌, ap, sym, true≢false}
use Rattle.tail_loop.specs.Tails.{HasTailCall}
use Rattle.tail_loop.proofs.Found.{found_all}
use Rattle.flow_graph.specs.MemberLaws.{found_more, found_passed, same_found}
use Rattle.tail_loop.proofs.calls.tail_calls.Goals as goal
use Rattle.tail_loop.proofs.calls.tail_calls.Goals.{then-is_tail_call+in_ok-push, else-is_tail_call}

pub loop-n-preserved : goal.loop-n-preserved
loop-n-preserved c =
    let nodes = c.args.nodes.now in
    let calls = c.loop-n.calls.items in
    elim c.if-is_tail_call.branch [
      | then-is_tail_call+in_ok-push w ↦ found_more (HasTailCall c.args.shared nodes c.args.unit) c.loop-n.n calls c.if-is_tail_call.calls.items c.loop-n.invariant (c.is_tail_call.ensures.0 w.if-is_tail_call.true) (ap (λ v. v.items) w.calls-is ∙ w.in_ok-push.ensures.items)
      | else-is_tail_call w ↦
          same_found (HasTailCall c.args.shared nodes c.args.unit) c.loop-n.n calls c.if-is_tail_call.calls.items (ap (λ v. v.items) w.calls-is)
          (found_passed (HasTailCall c.args.shared nodes c.args.unit) c.loop-n.n calls c.loop-n.invariant (λ has. true≢false (sym (c.is_tail_call.ensures.1 has) ∙ w.if-is_tail_call.false)))
    ]

pub returns : goal.returns
returns c = found_all c.args.shared c.args.nodes.now c.args.unit c.loop-n.n c.loop-n.calls.items c.loop-n.invariant c.loop-n-test.false
