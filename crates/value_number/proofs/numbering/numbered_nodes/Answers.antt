use Rattle.std.proofs.Common.{◌∙◌, None, ap, sym, refl, length, slice_index_or, arith}
use Rattle.std.proofs.lemmas.Option.{get_or_from_slice_get, slice_get_read}
use Rattle.flow_graph.specs.declared.nodes.Node.TheVariants.{Skip}
use Rattle.value_number.specs.Numbered.{numbered_node}
use Rattle.value_number.proofs.Pushes.{all_become, list_more}
use Rattle.value_number.proofs.numbering.numbered_nodes.Goals as goal

pub loop-n-preserved : goal.loop-n-preserved
loop-n-preserved c =
    let nodes = c.args.nodes.now in
    let n = c.loop-n.n in
    let holders = c.args.holders.now in
    let node = c.index-nodes-n.result in
    let at = slice_get_read nodes (length nodes) n node refl c.loop-n-test.true c.index-nodes-n.is in
    list_more (λ m. numbered_node (slice_index_or nodes m (Skip 0)) (slice_index_or holders m None)) n c.loop-n.numbered.items c.push.new.self.items c.in_ok-numbered_node.field-0 c.in_ok-push.ensures.items
    (c.in_ok-numbered_node.ensures ∙ ap (λ k. numbered_node k (slice_index_or holders n None)) (sym (get_or_from_slice_get nodes n node (Skip 0) at)))
    c.loop-n.invariant

pub returns : goal.returns
returns c = all_become c.args.nodes.now c.args.holders.now c.loop-n.n c.loop-n.numbered.items (grind arith) c.loop-n.invariant
