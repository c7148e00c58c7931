use Rattle.std.proofs.Common.{◌<◌, ◌++◌, ◌∙◌, List, ℕ, Some, add-one, ap, append_assoc, arith, length, slice_get, sym}
use Rattle.pass_table.specs.Copies.{copies_below, copy_lines}
use Rattle.pass_table.proofs.BitLaws.{have_bit}
use Rattle.pass_table.proofs.copies.put_each.Goals as goal

pub put_copy-requires : goal.put_copy-requires
put_copy-requires c =
    let low : c.loop-number.number < length c.args.table.now = omega (arith, c.loop-number-test.true, c.len-number-end.ensures) in
    have_bit (length c.args.graph.now.nodes) (length c.args.table.now) c.args.held.now c.loop-number.number c.requires.shape low

-- the lines that are put are those of the next copy
pub loop-number-preserved : goal.loop-number-preserved
loop-number-preserved c =
    let n = c.loop-number.number in
    let vars = c.args.graph.now.vars in
    let front = copies_below vars c.args.table.now c.args.held.now n in
    let lines = copy_lines vars c.args.held.now n (slice_get c.args.table.now n) in
    let put = c.in_ok-put_copy.ensures ∙ ap (λ (l : List (List ℕ)). c.loop-number.text.items ++ copy_lines l c.args.held.now n (Some c.get.result.now)) c.vars.ensures
    ∙ ap (λ o. c.loop-number.text.items ++ copy_lines vars c.args.held.now n o) (sym c.get.ensures) in
    put ∙ ap (λ (l : List ℕ). l ++ lines) c.loop-number.invariant ∙ append_assoc c.args.text.now.items front lines
    ∙ ap (λ (k : ℕ). c.args.text.now.items ++ copies_below vars c.args.table.now c.args.held.now k) (sym (add-one n))
