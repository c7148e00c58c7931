use Rattle.std.proofs.Common.{◌≡◌, ◌++◌, ◌∙◌, List, ℕ, Some, add-one, ap, append_assoc, length, refl, slice_get, sym}
use Rattle.std.proofs.lemmas.Option.{slice_get_read}
use Rattle.table_text.specs.Lines.{names_of_units}
use Rattle.call_table.specs.Joins.{calls_below, join_at}
use Rattle.call_table.proofs.joins.put_calls.Goals as goal

-- the line that is put is that of the next node
pub loop-number-preserved : goal.loop-number-preserved
loop-number-preserved c =
    let n = c.loop-number.number in
    let names = names_of_units c.args.units.now in
    let leaves = c.args.leaves.now.units in
    let nodes = c.args.nodes.now in
    let node = c.index-nodes-number.result in
    let here : slice_get nodes n ≡ Some node = slice_get_read nodes (length nodes) n node refl c.loop-number-test.true c.index-nodes-number.is in
    let put = c.in_ok-put_node.ensures ∙ ap (λ o. c.loop-number.text.items ++ join_at names leaves n o) (sym here) in
    put ∙ ap (λ (l : List ℕ). l ++ join_at names leaves n (slice_get nodes n)) c.loop-number.invariant ∙ append_assoc c.args.text.now.items (calls_below names leaves nodes n) (join_at names leaves n (slice_get nodes n))
    ∙ ap (λ (k : ℕ). c.args.text.now.items ++ calls_below names leaves nodes k) (sym (add-one n))
