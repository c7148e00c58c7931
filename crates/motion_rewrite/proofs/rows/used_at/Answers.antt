use Rattle.std.proofs.Common.{◌≡◌, ◌<◌, ◌∙◌, List, length, slice_get, Some, sym, ap, subst}
use Rattle.std.proofs.lemmas.Option.{slice_get-get_or}
use Rattle.flow_graph.specs.declared.nodes.Node.{Node}
use Rattle.key_rows.specs.KeyRows.{key_in}
use Rattle.motion_rewrite.proofs.RowBits.{uses_written, written_at}
use Rattle.motion_rewrite.proofs.rows.used_at.Goals as goal

pub returns-clause-used : goal.returns-clause-used
returns-clause-used c = λ i e at.
    let node = c.index-nodes-node.result in
    let here : slice_get c.args.graph.now.nodes c.args.node ≡ Some node =
    ap (λ (nodes : List Node). slice_get nodes c.args.node) (sym c.nodes-nodes.ensures.value)
    ∙ slice_get-get_or c.nodes-nodes.result.now c.args.node node (subst (λ (nodes : List Node). c.args.node < length nodes) (sym c.nodes-nodes.ensures.value) c.requires)
    ∙ ap Some (sym c.index-nodes-node.is) in
    let key = ap (key_in written_at) here in
    let written = uses_written c.args.graph.now.nodes c.args.node e in
    let finds = c.find_some.ensures.finds i e at in
    (λ on. finds.0 (c.key_of.ensures ∙ sym key ∙ written.0 on), λ is. written.1 (key ∙ sym c.key_of.ensures ∙ finds.1 is))
