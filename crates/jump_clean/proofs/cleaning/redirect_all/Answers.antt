use Rattle.std.proofs.Common.{◌∙◌, ◌++◌, suc, ap, sym, subst, map, slice_get}
use Rattle.flow_graph.specs.ListLaws.{mapped_push}
use Rattle.flow_graph.specs.Graphs.{SuccsBelow}
use Rattle.flow_graph.specs.Retained.{redirected_by}
use Rattle.flow_graph.specs.BoundLaws.{succs_below}
use Rattle.jump_clean.proofs.cleaning.redirect_all.Goals as goal

pub loop-node-init : goal.loop-node-init
loop-node-init c =
    let all = c.into_iter-node-iterator.ensures.into_iter_gives.0 in
    record {
      all = ap (λ l. l ++ map (redirected_by c.args.to.now) c.into_iter-node-iterator.result.rest.items) c.in_ok-redirected.ensures.items ∙ ap (map (redirected_by c.args.to.now)) all;
      below = λ k node e. subst (λ n. SuccsBelow n node) (sym c.requires.long) (succs_below c.args.nodes.items k node c.requires.within (sym (ap (λ l. slice_get l k) all) ∙ e));
    }

pub redirect-requires : goal.redirect-requires
redirect-requires c = c.loop-node.invariant.below 0 c.in-Some.node (ap (λ l. slice_get l 0) c.in-Some.ensures.steps.0)

pub loop-node-preserved : goal.loop-node-preserved
loop-node-preserved c =
    let steps = c.in-Some.ensures.steps.0 in
    record {
      all = mapped_push (redirected_by c.args.to.now) c.loop-node.redirected.items c.push.new.self.items c.loop-node.node-iterator.rest.items c.next.new.self.rest.items c.in-Some.node c.redirect.result _ c.in_ok-push.ensures.items c.redirect.ensures steps c.loop-node.invariant.all;
      below = λ k node e. c.loop-node.invariant.below (suc k) node (ap (λ l. slice_get l (suc k)) steps ∙ e);
    }
