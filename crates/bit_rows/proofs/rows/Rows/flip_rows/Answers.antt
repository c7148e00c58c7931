use Rattle.std.proofs.Common.{◌≡◌, ◌≤◌, List, Bool, length, false, get_or, ap, arith, ◌∙◌}
use Rattle.bit_rows.specs.BitLaws.{not_bit}
use Rattle.bit_rows.specs.Bits.{row_of}
use Rattle.bit_rows.proofs.rows.Rows.flip_rows.Goals as goal

pub returns-clause-bits : goal.returns-clause-bits
returns-clause-bits c = λ n b late h l.
    let end : c.len-row-end.result ≤ c.loop-row.row = c.loop-row-test.false in
    let all : c.len-row-end.result ≡ length c.args.self.now = c.len-row-end.ensures in
    ap (λ (xs : List Bool). get_or xs b false) (c.loop-row.invariant.after n late (omega arith)) ∙ not_bit (row_of c.args.self.now n) b l
