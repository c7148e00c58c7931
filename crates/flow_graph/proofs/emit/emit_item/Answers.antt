use Rattle.std.proofs.Common.{sym, subst, refl, length, Some, [], ◌∷◌}
use Rattle.std.proofs.lemmas.Option.{slice_get_read}
use Rattle.flow_graph.specs.declared.plan.Item.{Item}
use Rattle.flow_graph.specs.Graphs.{IsBelow}
use Rattle.flow_graph.specs.Placing.{ItemsWithin, taken_of}
use Rattle.flow_graph.proofs.Scans.{taken_within}
use Rattle.flow_graph.proofs.emit.emit_item.Goals as goal

pub emit_node-requires-clause-taken : goal.emit_node-requires-clause-taken
emit_node-requires-clause-taken c =
    let w = subst (λ (i : Item). ItemsWithin (length c.args.nodes.now) (i ∷ [])) c.in-Placed.is c.requires.item in
    let here = slice_get_read c.args.nodes.now (length c.args.nodes.now) c.in-Placed.node c.index-nodes-node.result refl w.0 c.index-nodes-node.is in
    subst (λ n. IsBelow n (taken_of (Some c.index-nodes-node.result))) (sym c.requires.long) (taken_within c.args.nodes.now c.in-Placed.node _ c.requires.within here)
