use Rattle.std.proofs.Common.{◌≡◌, ℕ, ◌+◌, ◌*◌, ◌/◌, ◌%◌, ◌<◌, ap, arith, sym, ◌∙◌}
use Rattle.bit_rows.specs.Bits.{row_bit, row_of}
use Rattle.table_text.proofs.columns.row_word.Goals as goal

-- a quarter of the word of 64 bits is the word of the column
pub returns : goal.returns
returns c = λ i low.
    let number = c.args.number in
    let row = row_of c.args.rows.now c.args.row in
    let place : 16 * c.args.number + i ≡ 64 * (c.args.number / 4) + (16 * (c.args.number % 4) + i) = omega arith in
    let inside : 16 * (c.args.number % 4) + i < 64 = omega arith in
    ap (row_bit row) place ∙ ap (λ r. row_bit r (64 * (number / 4) + (16 * (number % 4) + i))) (sym c.row.ensures) ∙ c.word.ensures (16 * (number % 4) + i) inside ∙ sym (c.word_part.ensures i low)
