use Rattle.std.proofs.Common.{◌<◌, ◌∙◌, suc, ◌++◌, ap, sym, subst, refl, arith, map, length, slice_get, slice_index_or, false}
use Rattle.flow_graph.specs.Retained.{marked_below, marked, redirected}
use Rattle.flow_graph.specs.Graphs.{SuccsBelow}
use Rattle.flow_graph.specs.BoundLaws.{succs_below}
use Rattle.flow_graph.proofs.Ranking.{redirects_same, retain_one, marks_index}
use Rattle.flow_graph.proofs.retain.retain.Goals as goal

pub loop-node-init : goal.loop-node-init
loop-node-init c =
    let all = c.into_iter-node-iterator.ensures.into_iter_gives.0 in
    let marks = c.args.marks.now in
    record {
      all = ap (λ l. l ++ map (redirected (marked_below marks)) (marked marks c.into_iter-node-iterator.result.rest.items)) c.in_ok-retained.ensures.items ∙ ap (λ l. map (redirected (marked_below marks)) (marked marks l)) all;
      count = omega (arith, ap length all, c.requires.long);
      below = λ k node e. subst (λ n. SuccsBelow n node) (sym c.requires.long) (succs_below c.args.nodes.items k node c.requires.within (sym (ap (λ l. slice_get l k) all) ∙ e));
    }

pub redirect-node-requires : goal.redirect-node-requires
redirect-node-requires c =
    let below = c.loop-node.invariant.below 0 c.in-Some.node (ap (λ l. slice_get l 0) c.in-Some.ensures.steps.0) in
    subst (λ n. SuccsBelow n c.in-Some.node) (sym c.requires.ranks.long) below

pub loop-node-preserved : goal.loop-node-preserved
loop-node-preserved c =
    let marks = c.args.marks.now in
    let steps = c.in-Some.ensures.steps.0 in
    let inv = c.loop-node.invariant in
    let below = inv.below 0 c.in-Some.node (ap (λ l. slice_get l 0) steps) in
    let lt : c.loop-node.number < length marks = omega (arith, inv.count, ap length steps) in
    record {
      all = retain_one (redirected (marked_below marks)) marks c.loop-node.retained.items c.push_if.new.list.items c.loop-node.node-iterator.rest.items c.next.new.self.rest.items c.loop-node.number (slice_index_or marks c.loop-node.number false) c.in-Some.node c.redirect-node.result _ (marks_index marks c.loop-node.number _ lt refl) steps (c.redirect-node.ensures ∙ redirects_same marks c.args.ranks.now c.in-Some.node c.requires.ranks below) c.in_ok-push_if.ensures inv.all;
      count = omega (arith, inv.count, ap length steps);
      below = λ k node e. inv.below (suc k) node (ap (λ l. slice_get l (suc k)) steps ∙ e);
    }
