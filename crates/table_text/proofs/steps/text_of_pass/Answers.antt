use Rattle.std.proofs.Common.{◌++◌, ◌∙◌, List, ℕ, ap}
use Rattle.table_text.specs.Steps.{table_line}
use Rattle.table_text.proofs.steps.text_of_pass.Goals as goal

-- the tables of the units stand behind the first line
pub returns : goal.returns
returns g c =
    let put = c.in_ok-put_in_turn.ensures in
    let begun = c.in_ok-put_table_line.ensures ∙ ap (λ (l : List ℕ). l ++ table_line c.args.pass.now) c.new-text.ensures.items in
    record { pieces = put.0; are = put.1; text_is = put.2 ∙ ap (λ (l : List ℕ). l ++ put.0) begun }
