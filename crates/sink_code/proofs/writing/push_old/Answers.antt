use Rattle.std.proofs.Common.{Some, ap, sym, ◌∙◌, arith, length, slice_get}
use Rattle.std.proofs.lemmas.Option.{slice_get-get_or}
use Rattle.flow_graph.specs.BoundLaws.{node_succs_below}
use Rattle.flow_graph.specs.Graphs.{succs_of}
use Rattle.sink_code.proofs.writing.push_old.Goals as goal

pub written_old-requires : goal.written_old-requires
written_old-requires c =
    let nodes = c.args.nodes.now in
    let i = c.loop-node.node-index in
    let at = slice_get-get_or nodes i c.node-item.result c.loop-node-test.true ∙ ap Some (sym c.node-item.is) in
    node_succs_below (length c.args.to.now) c.node-item.result (λ slot s leads. (let low = c.requires.within i slot s (ap (λ o. slice_get (succs_of o) slot) at ∙ leads) in omega (arith, low, c.requires.to)))
