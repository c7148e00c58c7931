use Rattle.std.proofs.Common.{◌≡◌, ◌+◌, ◌/◌, ◌%◌, min, arith, subst}
use Rattle.table_text.specs.Columns.{AreColumns}
use Rattle.table_text.proofs.ColumnLaws.{turned}
use Rattle.table_text.proofs.columns.Columns.of.Goals as goal

-- the columns are as many as the bits need
pub returns : goal.returns
returns c =
    let many : c.div_ceil.result ≡ (c.bits-bits.result + 15) / 16 = let e : c.div_ceil.result ≡ c.bits-bits.result / 16 + min 1 (c.bits-bits.result % 16) = c.div_ceil.ensures in omega arith in
    rw c.len.ensures (turned c.args.rows.now c.bits-bits.result c.in_ok-words.words.items c.bits-bits.ensures (subst (λ k. AreColumns c.args.rows.now k c.in_ok-words.words.items) many c.in_ok-words.ensures))
