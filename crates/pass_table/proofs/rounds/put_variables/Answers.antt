use Rattle.std.proofs.Common.{◌<◌, ◌++◌, ◌∙◌, List, ℕ, add-one, ap, codes, length, subst, sym}
use Rattle.table_text.specs.Rows.{bits_line}
use Rattle.pass_table.specs.Rounds.{variable_line, variables_below}
use Rattle.pass_table.proofs.BitLaws.{have_bit}
use Rattle.table_text.specs.TurnLaws.{two_pieces}
use Rattle.pass_table.proofs.rounds.put_variables.Goals as goal

pub put_bits-requires : goal.put_bits-requires
put_bits-requires c =
    let graph = c.args.graph.now in
    have_bit (length graph.nodes) (length graph.vars) c.args.live.now c.loop-number.number c.requires (subst (λ l. c.loop-number.number < length l) c.vars-number-end.ensures c.loop-number-test.true)

-- the lines that are put are those of the next variable
pub loop-number-preserved : goal.loop-number-preserved
loop-number-preserved c =
    let n = c.loop-number.number in
    let vars = c.args.graph.now.vars in
    let start = c.args.text.now in
    let before = c.loop-number.text in
    let named = c.put_variable.new.text in
    let front = variables_below vars c.args.live.now n in
    let line = variable_line vars n in
    let first = c.in_ok-put_variable.ensures ∙ ap (λ (l : List (List ℕ)). before.items ++ variable_line l n) c.vars.ensures in
    two_pieces start named c.put_bits.new.text (front ++ line) (bits_line c.args.live.now n (codes "live before"))
    (two_pieces start before named front line c.loop-number.invariant first) c.in_ok-put_bits.ensures
    ∙ ap (λ (k : ℕ). start.items ++ variables_below vars c.args.live.now k) (sym (add-one n))
