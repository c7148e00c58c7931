use Rattle.std.proofs.Common.{◌++◌, ◌∙◌, List, ℕ, add-one, ap, append_assoc, slice_get, sym}
use Rattle.pass_table.specs.Terms.{term_line, terms_below}
use Rattle.pass_table.proofs.terms.put_table.Goals as goal

-- the line that is put is that of the next term
pub loop-number-preserved : goal.loop-number-preserved
loop-number-preserved c =
    let n = c.loop-number.number in
    let vars = c.args.vars.now in
    let table = c.args.table.now in
    let line = term_line vars n (slice_get table n) in
    let put = c.in_ok-put_term.ensures ∙ ap (λ o. c.loop-number.text.items ++ term_line vars n o) (sym c.get.ensures) in
    put ∙ ap (λ (l : List ℕ). l ++ line) c.loop-number.invariant ∙ append_assoc c.args.text.now.items (terms_below vars table n) line
    ∙ ap (λ (k : ℕ). c.args.text.now.items ++ terms_below vars table k) (sym (add-one n))
