use Rattle.std.proofs.Common.{◌≡◌, Some, length, option_map, refl, slice_get}
use Rattle.std.proofs.lemmas.Option.{slice_get_read}
use Rattle.table_text.specs.Known.{IsStateAmong, state_line}
use Rattle.table_text.specs.TurnLaws.{next_turn}
use Rattle.table_text.proofs.known.put_known.Goals as goal

-- the line that is put says what is known before the next node
pub loop-node-preserved : goal.loop-node-preserved
loop-node-preserved g c =
    let text_of = g.T.KnownText.text_of in
    let n = c.loop-node.node in
    let all = c.args.known.now in
    let one = c.index-known-node.result in
    let here : slice_get all n ≡ Some one = slice_get_read all (length all) n one refl c.loop-node-test.true c.index-known-node.is in
    next_turn (IsStateAmong text_of all) n c.args.text.now c.loop-node.text c.put_state.new.text c.loop-node.invariant
    (state_line text_of n (option_map (λ list. list.items) one), record { known = one; stands = here; line_is = refl }, c.in_ok-put_state.ensures)
