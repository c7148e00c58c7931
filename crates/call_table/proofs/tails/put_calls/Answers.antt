use Rattle.std.proofs.Common.{◌≡◌, ◌++◌, ◌∙◌, List, ℕ, None, Some, add-one, ap, append_assoc, slice_get, slice_index_or, sym}
use Rattle.std.proofs.lemmas.Option.{slice_get-get_or}
use Rattle.table_text.specs.Lines.{names_of_units}
use Rattle.call_table.specs.Tails.{tails_below, tail_at}
use Rattle.call_table.proofs.tails.put_calls.Goals as goal

-- the line that is put is that of the next node
pub loop-node-preserved : goal.loop-node-preserved
loop-node-preserved c =
    let n = c.loop-node.node in
    let names = names_of_units c.args.units.now in
    let calls = c.args.calls.now in
    let here : slice_get calls n ≡ Some (slice_index_or calls n None) = slice_get-get_or calls n None c.loop-node-test.true in
    let put = c.in_ok-put_entry.ensures ∙ ap (λ o. c.loop-node.text.items ++ tail_at names n o) (sym here) in
    put ∙ ap (λ (l : List ℕ). l ++ tail_at names n (slice_get calls n)) c.loop-node.invariant ∙ append_assoc c.args.text.now.items (tails_below names calls n) (tail_at names n (slice_get calls n))
    ∙ ap (λ (k : ℕ). c.args.text.now.items ++ tails_below names calls k) (sym (add-one n))
