use Rattle.std.proofs.Common.{◌≡◌, ◌∙◌, ◌++◌, ◌%◌, List, OnOk, ap, length, subst, ℕ}
use Rattle.table_text.specs.Columns.{column_below}
use Rattle.table_text.specs.Rows.{bits_below}
use Rattle.table_text.proofs.ColumnLaws.{same_below}
use Rattle.table_text.proofs.rows.put_each.Goals as goal

-- the bits of the column are those of the rows
pub returns : goal.returns
returns c =
    let lines = c.args.lines.now in
    let column = c.column.result.now in
    let bit = c.args.bit in
    let same : column_below column (bit % 16) (length column) ≡ bits_below lines bit (length lines) =
    ap (column_below column (bit % 16)) c.column.ensures.len ∙ same_below lines column bit (bit % 16) (length lines) c.column.ensures.bits in
    subst (λ (l : List ℕ). OnOk c.put_column.result (c.put_column.new.text.items ≡ c.args.text.now.items ++ l)) same c.put_column.ensures
