use Rattle.std.proofs.Common.{◌++◌, ◌∙◌, List, ℕ, ap}
use Rattle.table_text.proofs.turns.text_in_turn.Goals as goal

-- the texts stand behind the line
pub returns : goal.returns
returns g c =
    let put = c.in_ok-put_in_turn.ensures in
    let begun = c.in_ok-extend_from_slice.ensures.items ∙ ap (λ (l : List ℕ). l ++ c.args.line.now) c.new-text.ensures.items in
    record { pieces = put.0; are = put.1; text_is = put.2 ∙ ap (λ (l : List ℕ). l ++ put.0) begun }
