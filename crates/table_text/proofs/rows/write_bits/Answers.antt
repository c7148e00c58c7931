use Rattle.std.proofs.Common.{◌≡◌, ℕ, zero, suc, ◌+◌, ◌<◌, ◌++◌, ◌∷◌, [], List, drop, length, set, take, get_or, refl, sym, ap, ◌∙◌, arith, append_assoc, append-nil, length-append}
use Rattle.std.proofs.Math.Seq.{drop-cons, set-append_seam}
use Rattle.std.proofs.lemmas.List.{drop_all, length-take, take-append-drop}
use Rattle.table_text.specs.Columns.{column_below, word_bit}
use Rattle.table_text.specs.Rows.{bit_byte}
use Rattle.table_text.proofs.rows.write_bits.Goals as goal

-- each word gives one byte
bits_long : (column : List ℕ) (bit n : ℕ) → length (column_below column bit n) ≡ n
bits_long column bit zero = refl
bits_long column bit (suc n) = omega (arith, length-append (column_below column bit n) (bit_byte (word_bit (get_or column n 0) bit) ∷ []), bits_long column bit n)

-- the byte after those that are written is written over
over_seam : (done rest : List ℕ) (at old new : ℕ) → length done ≡ at → set (done ++ old ∷ rest) at new ≡ done ++ new ∷ rest
over_seam done rest at old new is = ap (λ k. set (done ++ old ∷ rest) k new) (sym is) ∙ set-append_seam done old rest new

-- so one word more is written
one_more : (column : List ℕ) (bit start row new : ℕ) (old now : List ℕ) → start + row < length old → new ≡ bit_byte (word_bit (get_or column row 0) bit)
    → now ≡ take start old ++ (column_below column bit row ++ drop (start + row) old)
    → set now (start + row) new ≡ take start old ++ (column_below column bit (suc row) ++ drop (suc (start + row)) old)
one_more column bit start row new old now within is now_is =
    let front = take start old in
    let bits = column_below column bit row in
    let rest = drop (suc (start + row)) old in
    let byte = get_or old (start + row) 0 in
    let long : length (take start old ++ column_below column bit row) ≡ start + row = omega (arith, length-append (take start old) (column_below column bit row), length-take start old, bits_long column bit row, within) in
    ap (λ (l : List ℕ). set l (start + row) new) (now_is ∙ ap (λ (l : List ℕ). front ++ (bits ++ l)) (drop-cons old (start + row) 0 within) ∙ sym (append_assoc front bits (byte ∷ rest)))
    ∙ over_seam (front ++ bits) rest (start + row) byte new long
    ∙ append_assoc front bits (new ∷ rest)
    ∙ ap (λ (l : List ℕ). front ++ l) (ap (λ (b : ℕ). bits ++ b ∷ rest) is ∙ sym (append_assoc bits (bit_byte (word_bit (get_or column row 0) bit) ∷ []) rest))

pub loop-row-init : goal.loop-row-init
loop-row-init c =
    let none : c.args.start + 0 ≡ c.args.start = omega arith in
    sym (ap (λ k. take c.args.start c.args.bytes.now ++ drop k c.args.bytes.now) none ∙ take-append-drop c.args.start c.args.bytes.now)

pub loop-row-preserved : goal.loop-row-preserved
loop-row-preserved c =
    let column = c.args.column.now in
    let old = c.args.bytes.now in
    let start = c.args.start in
    let bit = c.args.bit in
    let row = c.loop-row.row in
    let next : suc c.loop-row.row ≡ c.loop-row.row + 1 = omega arith in
    let past : suc (c.args.start + c.loop-row.row) ≡ c.args.start + (c.loop-row.row + 1) = omega arith in
    one_more column bit start row c.word_byte.result old c.loop-row.bytes (omega (arith, c.requires.room, c.loop-row-test.true)) c.word_byte.ensures c.loop-row.invariant
    ∙ ap (λ k. take start old ++ (column_below column bit k ++ drop (suc (start + row)) old)) next
    ∙ ap (λ k. take start old ++ (column_below column bit (row + 1) ++ drop k old)) past

pub returns : goal.returns
returns c =
    let column = c.args.column.now in
    let old = c.args.bytes.now in
    let start = c.args.start in
    let row = c.loop-row.row in
    let all : c.loop-row.row ≡ length c.args.column.now = omega (arith, c.loop-row-test.false, c.loop-row.auto.row-end) in
    c.loop-row.invariant
    ∙ ap (λ (l : List ℕ). take start old ++ (column_below column c.args.bit row ++ l)) (drop_all (start + row) old (omega (arith, all, c.requires.room)))
    ∙ ap (λ (l : List ℕ). take start old ++ l) (append-nil (column_below column c.args.bit row) ∙ ap (column_below column c.args.bit) all)
