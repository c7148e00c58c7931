use Rattle.std.proofs.Common.{◌≡◌, ◌+◌, ◌<◌, List, suc, length, set, slice_get, Some, ap, refl, sym, ◌∙◌, arith}
use Rattle.std.proofs.lemmas.Option.{slice_get_read}
use Rattle.flow_graph.specs.declared.nodes.Node.{Node}
use Rattle.flow_graph.specs.Retained.{redirected}
use Rattle.graph_edit.specs.Edited.{leads, number_or_none}
use Rattle.graph_edit.proofs.Edits.{led_below, led_get, led_next, led_whole}
use Rattle.graph_edit.proofs.editor.lead_nodes.Goals as goal

pub lead_node-requires-clause-firsts : goal.lead_node-requires-clause-firsts
lead_node-requires-clause-firsts c = λ s lt.
    let first = c.requires.firsts s (omega (arith, lt, c.requires.count)) in
    c.firsts-firsts.ensures.each s first.0 first.1 ∙ ap (λ o. Some (number_or_none o)) (sym first.1)

pub loop-number-preserved : goal.loop-number-preserved
loop-number-preserved c =
    let lists = c.args.links.now.lists in
    let nodes = c.args.nodes.now in
    let n = c.loop-number.number in
    let inv = c.loop-number.invariant in
    let node = c.index-nodes-number.result in
    let here : slice_get c.loop-number.nodes n ≡ Some node = slice_get_read c.loop-number.nodes (length c.loop-number.nodes) n node refl (omega (arith, c.loop-number-test.true, c.loop-number.auto.nodes)) c.index-nodes-number.is in
    let at : slice_get nodes n ≡ Some node = sym (led_get lists 0 n nodes) ∙ ap (λ (l : List Node). slice_get l n) (sym inv) ∙ here in
    let same : n ≡ 0 + n = omega arith in
    let one : suc n ≡ n + 1 = omega arith in
    ap (λ (l : List Node). set l n c.lead_node.new.node) inv
    ∙ ap (set (led_below lists 0 n nodes) n) (c.lead_node.ensures ∙ ap (redirected (leads lists n)) (sym c.index-nodes-number.is) ∙ ap (λ k. redirected (leads lists k) node) same)
    ∙ led_next lists 0 n nodes node at
    ∙ ap (λ k. led_below lists 0 k nodes) one

pub returns : goal.returns
returns c =
    let lists = c.args.links.now.lists in
    let nodes = c.args.nodes.now in
    let all : c.loop-number.number ≡ length nodes = omega (arith, c.loop-number-test.false, c.loop-number.auto.number-end) in
    c.loop-number.invariant ∙ ap (λ k. led_below lists 0 k nodes) all ∙ led_whole lists nodes
