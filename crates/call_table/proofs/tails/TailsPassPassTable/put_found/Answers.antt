use Rattle.std.proofs.Common.{◌++◌, ◌∙◌, List, Option, ap, length, refl}
use Rattle.table_text.specs.Lines.{names_of_units}
use Rattle.tail_loop.specs.declared.positions.CallPosition.{CallPosition}
use Rattle.call_table.specs.Tails.{tails_below}
use Rattle.call_table.proofs.tails.TailsPassPassTable.put_found.Goals as goal

-- the lines are those of all nodes
pub returns : goal.returns
returns c =
    let names = names_of_units c.args.units.now in
    let calls = c.in_ok-calls.calls.items in
    let put = c.in_ok-put_calls.ensures
    ∙ ap (λ (l : List (Option CallPosition)). c.args.text.now.items ++ tails_below names l (length l)) c.as_slice.ensures.value in
    (tails_below names calls (length calls), record { calls = calls; are = c.in_ok-calls.ensures; text_is = refl }, put)
