use Rattle.std.proofs.Common.{◌<◌, length, slice_get, Option, Some, IfSome, ap, sym, ◌∙◌, subst}
use Rattle.std.proofs.lemmas.Option.{slice_get-get_or}
use Rattle.flow_graph.specs.BoundLaws.{node_succs_below}
use Rattle.flow_graph.specs.declared.nodes.Node.{Node}
use Rattle.flow_graph.specs.Edges.{EdgesShape}
use Rattle.flow_graph.specs.Graphs.{SuccsBelow, succs_of}
use Rattle.sink_code.specs.Skips.{skip_over}
use Rattle.sink_code.proofs.skips.skip_on.Goals as goal

pub skip_over-requires : goal.skip_over-requires
skip_over-requires c =
    let nodes = c.args.nodes.now in
    let node = c.index-nodes-at.result in
    let at = slice_get-get_or nodes c.args.at node c.requires.at ∙ ap Some (sym c.index-nodes-at.is) in
    subst (λ k. SuccsBelow k node) (sym (ap (λ (e : EdgesShape). e.nodes) c.requires.edges))
    (node_succs_below (length nodes) node (λ slot s there. c.requires.within c.args.at slot s (ap (λ (o : Option Node). slice_get (succs_of o) slot) at ∙ there)))

pub returns-clause-next : goal.returns-clause-next
returns-clause-next c =
    let nodes = c.args.nodes.now in
    let node = c.index-nodes-at.result in
    let at = slice_get-get_or nodes c.args.at node c.requires.at ∙ ap Some (sym c.index-nodes-at.is) in
    c.skip_over.ensures.next nodes c.requires.edges ∙ ap (skip_over nodes) (sym at)

pub returns-clause-within : goal.returns-clause-within
returns-clause-within c = subst (λ k. IfSome c.skip_over.result (λ next. next < k)) (ap (λ (e : EdgesShape). e.nodes) c.requires.edges) c.skip_over.ensures.within
