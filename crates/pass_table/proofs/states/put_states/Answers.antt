use Rattle.std.proofs.Common.{◌≡◌, ◌∙◌, ℕ, List, Some, slice_get, option_map, ap, length, subst, sym}
use Rattle.cond_const.specs.KnownBefore.{AreKnownBefore}
use Rattle.table_text.specs.Known.{IsStateAmong}
use Rattle.table_text.specs.TurnLaws.{turns_as}
use Rattle.table_text.specs.Turns.{AppendsSome, InTurn}
use Rattle.pass_table.specs.States.{IsStateLine, known_text}
use Rattle.pass_table.proofs.states.put_states.Goals as goal

-- there is a line for each node, of what is known before it
pub returns : goal.returns
returns c =
    let graph = c.args.graph.now in
    let all = c.as_slice.result.now in
    let are = subst (AreKnownBefore graph) (sym c.as_slice.ensures.value) c.in_ok-known.ensures.known in
    let lines = c.in_ok-put_known.ensures in
    let each = turns_as (IsStateAmong known_text all) (IsStateLine graph) (λ n line is. record { known = option_map (λ list. list.items) is.known; is_known = are n is.known is.stands; line_is = is.line_is }) (length all) lines.0 lines.1 in
    (lines.0, subst (λ k. InTurn (IsStateLine graph) k lines.0) (ap length c.as_slice.ensures.value ∙ c.in_ok-known.ensures.long) each, lines.2)
