use Rattle.std.proofs.Common.{◌≡◌, ◌++◌, ◌∙◌, List, ℕ, Some, add-one, ap, append_assoc, length, refl, slice_get, sym}
use Rattle.std.proofs.lemmas.Option.{slice_get_read}
use Rattle.pass_table.specs.Terms.{nodes_below, numbers_line, terms_line}
use Rattle.pass_table.proofs.terms.put_nodes.Goals as goal

-- the line that is put is that of the next node
pub loop-node-preserved : goal.loop-node-preserved
loop-node-preserved c =
    let n = c.loop-node.node in
    let nodes = c.args.nodes.now in
    let at = c.index-nodes-node.result in
    let here : slice_get nodes n ≡ Some at = slice_get_read nodes (length nodes) n at refl c.loop-node-test.true c.index-nodes-node.is in
    let front = nodes_below nodes n in
    let line = terms_line n (slice_get nodes n) in
    let put = c.in_ok-put_numbers.ensures ∙ ap (λ l. c.loop-node.text.items ++ numbers_line n at.root l) c.as_slice.ensures.value ∙ ap (λ o. c.loop-node.text.items ++ terms_line n o) (sym here) in
    put ∙ ap (λ (l : List ℕ). l ++ line) c.loop-node.invariant ∙ append_assoc c.args.text.now.items front line
    ∙ ap (λ (k : ℕ). c.args.text.now.items ++ nodes_below nodes k) (sym (add-one n))
