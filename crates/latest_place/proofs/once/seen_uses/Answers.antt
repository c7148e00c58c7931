use Rattle.std.proofs.Common.{◌≡◌, ◌<◌, ◌≤◌, ◌-◌, ◌+◌, ◌∙◌, ◌↔◌, suc, true, List, Option, length, slice_get, get_or, Some, sym, ap, subst, arith}
use Rattle.std.proofs.lemmas.Option.{slice_get-get_or}
use Rattle.std.proofs.lemmas.Bool.{ltb-true}
use Rattle.mir_base.specs.ItemLaws.{all_at}
use Rattle.flow_graph.specs.declared.nodes.Node.{Node}
use Rattle.flow_graph.specs.Graphs.{node_succs, succs_of}
use Rattle.motion_rewrite.specs.Expressions.{uses}
use Rattle.latest_place.specs.Parts.{AreSeenFrom, LeadsFrom}
use Rattle.latest_place.proofs.Moving.{leads_more, seen_more}
use Rattle.latest_place.proofs.once.seen_uses.Goals as goal

pub loop-back-preserved : goal.loop-back-preserved
loop-back-preserved c =
    let graph = c.args.graph.now in
    let nodes = c.nodes-nodes.result.now in
    let back = c.loop-back.back in
    let n = length nodes - (back + 1) in
    let low = c.loop-back-test.true in
    let step : length nodes - back ≡ suc n = omega (arith, low) in
    let place : length nodes - 1 - back ≡ n = omega (arith, low) in
    let node = c.index-nodes-node.result in
    let here : slice_get graph.nodes n ≡ Some node =
    ap (λ (l : List Node). slice_get l n) (sym c.nodes-nodes.ensures.value)
    ∙ slice_get-get_or nodes n node (omega (arith, low))
    ∙ ap (λ k. Some (get_or nodes k node)) (sym place)
    ∙ ap Some (sym c.index-nodes-node.is) in
    let leads = leads_more graph n c.loop-back.least c.least_succ-least.result (subst (λ k. LeadsFrom graph k c.loop-back.least) step c.loop-back.invariant.leads) c.least_succ-least.ensures.below
    (λ slot s at. all_at (λ next. c.least_succ-least.result ≤ next) (node_succs node) slot s c.least_succ-least.ensures.succs (ap (λ (o : Option Node). slice_get (succs_of o) slot) (sym here) ∙ at)) in
    record {
      seen = seen_more graph n c.args.table.now c.loop-back.seen.items c.see.new.seen.items c.used_at.result _ c.least_succ-least.result
          (subst (λ k. AreSeenFrom graph c.args.table.now k c.loop-back.seen.items) step c.loop-back.invariant.seen) leads
          (λ on. subst (λ k. k < c.least_succ-least.result) place (ltb-true (length nodes - 1 - back) c.least_succ-least.result on))
          (λ i e at. subst (λ k. (uses graph e k ≡ true) ↔ (c.used_at.result ≡ Some i)) place (c.used_at.ensures.used i e at)) c.see.ensures;
      leads = leads;
    }
