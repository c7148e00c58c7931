use Rattle.std.proofs.Common.{◌∙◌, ap, sym, subst, refl, length, Some, [], ◌∷◌}
use Rattle.flow_graph.specs.declared.plan.Item.{Item}
use Rattle.std.proofs.lemmas.Option.{slice_get_read}
use Rattle.flow_graph.specs.Graphs.{IsBelow}
use Rattle.flow_graph.specs.Placing.{ItemsWithin, open_by, open_by_item, taken_of}
use Rattle.flow_graph.proofs.Scans.{taken_within}
use Rattle.flow_graph.proofs.plan.open_at.Goals as goal

pub open_of-requires : goal.open_of-requires
open_of-requires c =
    let w = subst (λ (i : Item). ItemsWithin (length c.args.nodes.now) (i ∷ [])) c.in-Placed.is c.requires.item in
    let here = slice_get_read c.args.nodes.now (length c.args.nodes.now) c.in-Placed.node c.index-nodes-node.result refl w.0 c.index-nodes-node.is in
    subst (λ n. IsBelow n (taken_of (Some c.index-nodes-node.result))) (sym c.requires.long) (taken_within c.args.nodes.now c.in-Placed.node _ c.requires.within here)

pub returns-in-Placed : goal.returns-in-Placed
returns-in-Placed c =
    let w = subst (λ (i : Item). ItemsWithin (length c.args.nodes.now) (i ∷ [])) c.in-Placed.is c.requires.item in
    let here = slice_get_read c.args.nodes.now (length c.args.nodes.now) c.in-Placed.node c.index-nodes-node.result refl w.0 c.index-nodes-node.is in
    c.open_of.ensures ∙ ap (λ o. open_by c.args.placed.now (taken_of o)) (sym here) ∙ ap (open_by_item c.args.nodes.now c.args.placed.now) (sym c.in-Placed.is)
