-- Rows in columns of words: which rows the words are, what a column has of them, and how columns grow.
use Rattle.std.proofs.Common.{◌≡◌, ℕ, zero, suc, ◌+◌, ◌-◌, ◌*◌, ◌/◌, ◌%◌, ◌<◌, ◌≤◌, Bool, false, List, [], ◌∷◌, ◌++◌, length, drop, get_or, refl, sym, ap, subst, inl, inr, arith, ◌∙◌, length-drop, length-take, get_or-drop, get_or-take}
use Rattle.std.specs.Prelude.{slice_range}
use Rattle.std.proofs.lemmas.Bool.{cases_lt}
use Rattle.std.proofs.lemmas.List.{ext_get_or}
use Rattle.std.proofs.lemmas.List.FromFn.{length-map-range_with_len, get_or-map-range_with_len}
use Rattle.std.proofs.lemmas.Nat.{row_fits}
use Rattle.bit_rows.specs.Bits.{AreEquallyLong, row_bit, row_of}
use Rattle.table_text.specs.Columns.{AddsColumn, AreColumns, FitsColumns, IsWordOf, column_below, line_bit, line_row, lines_of, word_bit}
use Rattle.table_text.specs.Rows.{HaveBit, bit_byte, bits_below}

-- ---- which rows they are

-- as many rows as are asked for
pub length_lines_of : (rows bits : ℕ) (words : List ℕ) → length (lines_of rows bits words) ≡ rows
unfolding lines_of
length_lines_of rows bits words = length-map-range_with_len (line_row rows bits words) 0 rows

-- and each of them
row_lines_of : (rows bits : ℕ) (words : List ℕ) (n : ℕ) → n < rows → row_of (lines_of rows bits words) n ≡ line_row rows bits words n
unfolding lines_of
row_lines_of rows bits words n h = get_or-map-range_with_len (line_row rows bits words) 0 rows n n [] h (omega arith)

-- as many bits as are asked for
length_line_row : (rows bits : ℕ) (words : List ℕ) (n : ℕ) → length (line_row rows bits words n) ≡ bits
unfolding line_row
length_line_row rows bits words n = length-map-range_with_len (line_bit rows words n) 0 bits

-- and each of them
bit_line_row : (rows bits : ℕ) (words : List ℕ) (n b : ℕ) → b < bits → row_bit (line_row rows bits words n) b ≡ word_bit (get_or words (b / 16 * rows + n) 0) (b % 16)
unfolding line_row line_bit
bit_line_row rows bits words n b h = get_or-map-range_with_len (line_bit rows words n) 0 bits b b false h (omega arith)

-- the columns of rows are those rows
pub turned : (all : List (List Bool)) (bits : ℕ) (words : List ℕ) → AreEquallyLong bits all → AreColumns all ((bits + 15) / 16) words
    → lines_of (length all) bits words ≡ all
turned all bits words long are =
    ext_get_or [] (lines_of (length all) bits words) all (length_lines_of (length all) bits words)
    (λ n h. let low : n < length all = subst (λ k. n < k) (length_lines_of (length all) bits words) h in
    row_lines_of (length all) bits words n low
    ∙ ext_get_or false (line_row (length all) bits words n) (row_of all n) (length_line_row (length all) bits words n ∙ sym (long.each n low))
    (λ b l. let within : b < bits = subst (λ k. b < k) (length_line_row (length all) bits words n) l in
    let word : b / 16 < (bits + 15) / 16 = omega arith in
    let place : b % 16 < 16 = omega arith in
    let whole : 16 * (b / 16) + b % 16 ≡ b = omega arith in
    bit_line_row (length all) bits words n b within ∙ sym (are.each (b / 16) n word low (b % 16) place) ∙ ap (row_bit (row_of all n)) whole))

-- ---- one column

module _ (rows bits : ℕ) (words : List ℕ) (all : List (List Bool)) (fits : FitsColumns rows bits words) (view : lines_of rows bits words ≡ all) where
  -- as many rows as the fields say
  pub lines_are : length all ≡ rows
  lines_are = rw view at (length_lines_of rows bits words)

  -- a row of these is one of so many
  in_rows : (n : ℕ) → n < length all → n < rows
  in_rows n h = subst (λ k. n < k) lines_are h

  -- each row is read from the words
  row_is : (n : ℕ) → n < length all → line_row rows bits words n ≡ row_of all n
  row_is n h = sym (row_lines_of rows bits words n (in_rows n h)) ∙ ap (λ (xs : List (List Bool)). row_of xs n) view

  -- a bit that a row has is one of these
  in_bits : (bit n : ℕ) → HaveBit all bit → n < length all → bit < bits
  in_bits bit n have h = subst (λ k. bit < k) (sym (ap length (row_is n h)) ∙ length_line_row rows bits words n) (have n h)

  -- the words have its column
  pub column_within : (bit : ℕ) → HaveBit all bit → bit / 16 * rows + rows ≤ length words
  column_within bit have = elim (cases_lt 0 rows) as (λ _. bit / 16 * rows + rows ≤ length words) [
    | inl some ↦ (
        let low : bit < bits = in_bits bit 0 have (subst (λ k. 0 < k) (sym lines_are) some) in
        let before : bit / 16 < (bits + 15) / 16 = omega arith in
        subst (λ k. bit / 16 * rows + rows ≤ k) (sym fits.len) (row_fits (bit / 16) rows ((bits + 15) / 16) rows before (omega arith))
        )
    | inr none ↦ (
        let zero_is : rows ≡ 0 = omega arith in
        rw zero_is (omega arith)
        )
  ]

  -- which has the bits of this number
  pub column_bit : (bit n : ℕ) → HaveBit all bit → n < length all → row_bit (row_of all n) bit ≡ word_bit (get_or words (bit / 16 * rows + n) 0) (bit % 16)
  column_bit bit n have h = ap (λ (r : List Bool). row_bit r bit) (sym (row_is n h)) ∙ bit_line_row rows bits words n bit (in_bits bit n have h)

  -- the words of the column
  module _ (bit : ℕ) (have : HaveBit all bit) where
    -- they stand one after the other
    abbrev part : List ℕ
    part = slice_range words (bit / 16 * rows) (bit / 16 * rows + rows)

    -- one for each row
    pub column_long : length part ≡ length all
    column_long = let within : bit / 16 * rows + rows ≤ length words = column_within bit have in let are : length all ≡ rows = lines_are in grind (arith, length-drop, length-take)

    -- with the bit of this number
    pub column_part : (n : ℕ) → n < length all → row_bit (row_of all n) bit ≡ word_bit (get_or part n 0) (bit % 16)
    column_part n h =
        let low : n < rows = in_rows n h in
        let at = bit / 16 * rows in
        column_bit bit n have h
        ∙ ap (λ (w : ℕ). word_bit w (bit % 16)) (sym (get_or-take (at + rows - at) (drop at words) n 0 (omega (arith, low)) ∙ get_or-drop at words n 0))

-- what is written of a column is what is written of the rows
pub same_below : (all : List (List Bool)) (column : List ℕ) (bit at n : ℕ)
    → ((k : ℕ) → k < n → row_bit (row_of all k) bit ≡ word_bit (get_or column k 0) at)
    → column_below column at n ≡ bits_below all bit n
same_below all column bit at zero same = refl
same_below all column bit at (suc n) same =
    ap (λ (l : List ℕ). l ++ bit_byte (word_bit (get_or column n 0) at) ∷ []) (same_below all column bit at n (λ k h. same k (omega arith)))
    ∙ ap (λ (b : Bool). bits_below all bit n ++ bit_byte b ∷ []) (sym (same n (omega arith)))

-- ---- columns that grow

-- one column more
pub one_column_more : (all : List (List Bool)) (k : ℕ) (old new : List ℕ) → AreColumns all k old → AddsColumn all k (length all) old new
    → AreColumns all (k + 1) new
one_column_more all k old new are adds = record {
  len = let a : length new ≡ length old + length all = adds.len in let b : length old ≡ k * length all = are.len in omega arith;
  each = λ j n below within. elim (cases_lt j k) as (λ _. IsWordOf all j n (get_or new (j * length all + n) 0)) [
    | inl before ↦ (
        let fits : j * length all + length all ≤ k * length all = row_fits j (length all) k (length all) before (omega arith) in
        let at : j * length all + n < length old = let b : length old ≡ k * length all = are.len in omega arith in
        subst (λ w. IsWordOf all j n w) (sym (adds.before (j * length all + n) at)) (are.each j n before within)
        )
    | inr last ↦ (
        let is : k ≡ j = omega arith in
        subst (λ i. IsWordOf all i n (get_or new (i * length all + n) 0)) is (subst (λ at. IsWordOf all k n (get_or new (at + n) 0)) are.len (adds.added n within))
        )
  ];
}
