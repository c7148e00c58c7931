use Rattle.std.proofs.Common.{◌∙◌, ◌++◌, ℕ, List, length, ap, refl}
use Rattle.wanted_table.specs.WantedLines.{lines_of}
use Rattle.wanted_table.proofs.numbers.put_asked_numbers.Goals as goal

-- there is a line for each node
pub returns : goal.returns
returns c =
    let graph = c.args.graph.now in
    let rows = c.in_ok-rows.rows.items in
    let before = c.in_ok-rows.ensures.wanted in (
      lines_of (length graph.vars) rows (length graph.nodes),
      record { rows = rows; are = before; carried = c.in_ok-rows.ensures.carried; text_is = refl },
      c.in_ok-put_each.ensures
          ∙ ap (λ (l : List (List ℕ)). c.args.text.now.items ++ lines_of (length c.vars.result.now) l (length l)) c.as_slice.ensures.value
          ∙ ap (λ k. c.args.text.now.items ++ lines_of (length c.vars.result.now) rows k) before.are.long
          ∙ ap (λ k. c.args.text.now.items ++ lines_of k rows (length graph.nodes)) (ap (λ (l : List (List ℕ)). length l) c.vars.ensures),
    )
