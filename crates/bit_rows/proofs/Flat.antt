-- Rows that stand one after the other in one list of words: what is known of each row, what rows stand after one of
-- them got other words, and rows that are all false.
use Rattle.std.proofs.Common.{◌≡◌, ℕ, ◌+◌, ◌-◌, ◌*◌, ◌/◌, ◌%◌, ◌<◌, ◌≤◌, Bool, false, List, [], ◌++◌, length, take, drop, get_or, set, replicate, sym, ap, inl, inr, arith, ◌∙◌, bit_and, w64, length-drop, length-take, get_or-drop, get_or-take}
use Rattle.std.proofs.Math.Nat.{mul-le-mul_left}
use Rattle.std.proofs.lemmas.Bool.{cases_eq}
use Rattle.std.proofs.lemmas.List.{ext_get_or, get_or-replicate, get_or-set_same, get_or-set_other, length-replicate, length-set}
use Rattle.std.proofs.lemmas.List.FromFn.{length-map-range_with_len, get_or-map-range_with_len}
use Rattle.std.specs.Int.{bit_not}
use Rattle.bit_rows.specs.Bits.{AreEquallyLong, zip_with, minus_bits, not_bits, or_bits, row_of}
use Rattle.bit_rows.specs.Words.{bits_of, rows_of, used_bits, with_bit, words_at, EachOrMinus, EachOrPassed, FitsRows, FitsWords, Rewritten}
use Rattle.bit_rows.proofs.Views.{Holds, IsBitwise, length_bits_of, rewritten_whole, joined_hold, or_minus_hold, or_passed_hold, flip_holds, set_holds, zeros_hold}

-- as many rows as are asked for, and each of them
pub length_rows_of : (rows bits stride : ℕ) (words : List ℕ) → length (rows_of rows bits stride words) ≡ rows
unfolding rows_of
length_rows_of rows bits stride words = length-map-range_with_len (λ row. bits_of bits (words_at stride words row)) 0 rows

-- a row of the whole is read from its own words
pub row_rows_of : (rows bits stride : ℕ) (words : List ℕ) (row : ℕ) → row < rows → row_of (rows_of rows bits stride words) row ≡ bits_of bits (words_at stride words row)
unfolding rows_of
row_rows_of rows bits stride words row h = get_or-map-range_with_len (λ row. bits_of bits (words_at stride words row)) 0 rows row row [] h (omega arith)

-- words that hold rows
pub record HoldRows (rows bits stride : ℕ) (words : List ℕ) (all : List (List Bool)) : Type 0 where
  pub fit : FitsRows rows bits stride words
  pub seen : rows_of rows bits stride words ≡ all

module _ (rows bits stride : ℕ) (words : List ℕ) (all : List (List Bool)) (fits : FitsRows rows bits stride words) (view : rows_of rows bits stride words ≡ all) where
  pub rows_are : length all ≡ rows
  rows_are = rw view at (length_rows_of rows bits stride words)

  pub long_rows : AreEquallyLong bits all
  long_rows = record {
    each = λ row h. let h' : row < rows = rw rows_are at h in rw (← view) (rw (row_rows_of rows bits stride words row h') (length_bits_of bits (words_at stride words row)));
  }

  -- one row of these
  module _ (row : ℕ) (h : row < length all) where
    in_rows : row < rows
    in_rows = rw rows_are at h

    pub row_within : stride * row + stride ≤ length words
    row_within =
        let a : stride * (row + 1) ≤ stride * rows = mul-le-mul_left stride (let l : row < rows = in_rows in let l' : row + 1 ≤ rows = omega arith in l') in
        let b : length words ≡ stride * rows = fits.all in
        omega arith

    pub words_long : length (words_at stride words row) ≡ stride
    words_long = let a : stride * row + stride ≤ length words = row_within in grind (arith, length-drop, length-take)

    pub stride_is : stride ≡ (bits + 63) / 64
    stride_is = sym words_long ∙ (fits.each row in_rows).len

    pub row_view : bits_of bits (words_at stride words row) ≡ row_of all row
    row_view = rw (← view) (sym (row_rows_of rows bits stride words row in_rows))

    pub row_fits : FitsWords bits (words_at stride words row)
    row_fits = fits.each row in_rows

    pub row_long : length (row_of all row) ≡ bits
    row_long = rw row_view at (length_bits_of bits (words_at stride words row))

    -- which gets other words
    module _ (len : ℕ) (words' : List ℕ) (len_is : len ≡ length words) (made : Rewritten stride row words words') where
      put : (bs : List Bool) → Holds bits (words_at stride words' row) bs → HoldRows rows bits stride (take len (words' ++ drop (length words') words)) (set all row bs)
      put bs holds = rw (rewritten_whole len words words' len_is made.len) (record {
        fit = record {
          all = made.len ∙ fits.all;
          each = λ r l. elim (cases_eq r row) as (λ _. FitsWords bits (words_at stride words' r)) [
            | inl e ↦ rw e holds.fits
            | inr d ↦ rw (made.others r d) (fits.each r l)
          ];
        };
        seen = ext_get_or [] (rows_of rows bits stride words') (set all row bs) (length_rows_of rows bits stride words' ∙ sym rows_are ∙ sym (length-set all row bs))
            (λ r l. let l' : r < rows = rw length_rows_of at l in
            row_rows_of rows bits stride words' r l' ∙ elim (cases_eq r row) as (λ _. bits_of bits (words_at stride words' r) ≡ get_or (set all row bs) r []) [
              | inl e ↦ rw (e, get_or-set_same all row bs [] h) holds.view
              | inr d ↦ rw (made.others r d, get_or-set_other all row r bs [] d) (sym (row_rows_of rows bits stride words r l') ∙ ap (λ (xs : List (List Bool)). row_of xs r) view)
            ]);
      })

      new_long : length (words_at stride words' row) ≡ length (words_at stride words row)
      new_long = let a : stride * row + stride ≤ length words = row_within in let b : length words' ≡ length words = made.len in grind (arith, length-drop, length-take)

      pub flipped_row : ((k : ℕ) → k < stride → get_or (words_at stride words' row) k 0 ≡ bit_and (bit_not w64 (get_or (words_at stride words row) k 0)) (used_bits bits k))
          → HoldRows rows bits stride (take len (words' ++ drop (length words') words)) (set all row (not_bits (row_of all row)))
      flipped_row each = put _ (rw (← row_view) (flip_holds bits (words_at stride words row) (words_at stride words' row) row_fits new_long (λ k l. each k (rw words_long at l))))

      pub written_row : (b : ℕ) (v : Bool) → b < length (row_of all row) → words_at stride words' row ≡ set (words_at stride words row) (b / 64) (with_bit (get_or (words_at stride words row) (b / 64) 0) (b % 64) v)
          → HoldRows rows bits stride (take len (words' ++ drop (length words') words)) (set all row (set (row_of all row) b v))
      written_row b v early is = put _ (rw (← row_view, is) (set_holds bits b v (words_at stride words row) row_fits (rw row_long at early)))

      -- by those of another row
      module _ (m : ℕ) (ys : List ℕ) (other : List Bool) (fy : FitsWords m ys) (view' : bits_of m ys ≡ other) (same : length (row_of all row) ≡ length other) where
        same_bits : m ≡ bits
        same_bits = sym (length_bits_of m ys) ∙ ap length view' ∙ sym same ∙ row_long

        fits_n : FitsWords bits ys
        fits_n = rw (← same_bits) fy

        view_n : bits_of bits ys ≡ other
        view_n = rw (← same_bits) view'

        pub joined_row : (op : ℕ → ℕ → ℕ) (f : Bool → Bool → Bool) → IsBitwise op f → ((k : ℕ) → k < stride → get_or (words_at stride words' row) k 0 ≡ op (get_or (words_at stride words row) k 0) (get_or ys k 0))
            → HoldRows rows bits stride (take len (words' ++ drop (length words') words)) (set all row (zip_with f (row_of all row) other))
        joined_row op f is each = put _ (rw (← row_view, ← view_n) (joined_hold op f is bits (words_at stride words row) ys (words_at stride words' row) row_fits fits_n new_long (λ k l. each k (rw words_long at l))))

        -- and those of a third
        pub or_minused_row : (m2 : ℕ) (ws : List ℕ) (less : List Bool) → FitsWords m2 ws → bits_of m2 ws ≡ less → length (row_of all row) ≡ length less
            → EachOrMinus stride (words_at stride words row) ys ws (words_at stride words' row)
            → HoldRows rows bits stride (take len (words' ++ drop (length words') words)) (set all row (or_bits (row_of all row) (minus_bits other less)))
        or_minused_row m2 ws less fw view2 same2 each =
            let e : m2 ≡ bits = sym (length_bits_of m2 ws) ∙ ap length view2 ∙ sym same2 ∙ row_long in
            let fits3 : FitsWords bits ws = rw (← e) fw in
            let view3 : bits_of bits ws ≡ less = rw (← e) view2 in
            put _ (rw (← row_view, ← view_n, ← view3) (or_minus_hold bits (words_at stride words row) ys ws (words_at stride words' row) row_fits fits_n fits3 new_long (λ k l. each k (rw words_long at l))))

        -- the words of a row of as many bits
        as_wide : (m2 : ℕ) (ws : List ℕ) (third : List Bool) → FitsWords m2 ws → bits_of m2 ws ≡ third → length (row_of all row) ≡ length third → Holds bits ws third
        as_wide m2 ws third fw seen same2 =
            let e : m2 ≡ bits = sym (length_bits_of m2 ws) ∙ ap length seen ∙ sym same2 ∙ row_long in
            rw (← e) (record { fits = fw; view = seen })

        -- and those of a fourth, which is joined to the second
        pub or_passed_row : (m2 : ℕ) (ms : List ℕ) (more : List Bool) → FitsWords m2 ms → bits_of m2 ms ≡ more → length (row_of all row) ≡ length more
            → (m3 : ℕ) (ws : List ℕ) (less : List Bool) → FitsWords m3 ws → bits_of m3 ws ≡ less → length (row_of all row) ≡ length less
            → EachOrPassed stride (words_at stride words row) ys ms ws (words_at stride words' row)
            → HoldRows rows bits stride (take len (words' ++ drop (length words') words)) (set all row (or_bits (row_of all row) (minus_bits (or_bits other more) less)))
        or_passed_row m2 ms more fm view2 same2 m3 ws less fw view3 same3 each =
            let two = as_wide m2 ms more fm view2 same2 in
            let three = as_wide m3 ws less fw view3 same3 in
            put _ (rw (← row_view, ← view_n, ← two.view, ← three.view) (or_passed_hold bits (words_at stride words row) ys ms ws (words_at stride words' row) row_fits fits_n two.fits three.fits new_long (λ k l. each k (rw words_long at l))))

    -- a second row has as many words
    pub as_many_words : (m : ℕ) (ys : List ℕ) (other : List Bool) → FitsWords m ys → bits_of m ys ≡ other → length (row_of all row) ≡ length other → length ys ≡ stride
    as_many_words m ys other fy view' same =
        let e : m ≡ bits = sym (length_bits_of m ys) ∙ ap length view' ∙ sym same ∙ row_long in
        fy.len ∙ rw e (sym stride_is)

-- ---- rows that are all false

-- a part of a list of equal items
part_of_equal : (count at n x : ℕ) → at + n ≤ count → take n (drop at (replicate count x)) ≡ replicate n x
part_of_equal count at n x within =
    let whole : length (replicate {A = ℕ} count x) ≡ count = length-replicate {A = ℕ} count x in
    let long : length (take n (drop at (replicate count x))) ≡ n = grind (arith, length-drop, length-take) in
    ext_get_or 0 (take n (drop at (replicate count x))) (replicate n x) (long ∙ sym (length-replicate {A = ℕ} n x))
    (λ k h. let h' : k < n = rw long at h in
    get_or-take {A = ℕ} n (drop at (replicate count x)) k 0 h' ∙ get_or-drop {A = ℕ} at (replicate count x) k 0
    ∙ get_or-replicate {A = ℕ} count (at + k) x 0 (omega arith) ∙ sym (get_or-replicate {A = ℕ} n k x 0 h'))

module _ (rows bits stride : ℕ) (stride_is : stride ≡ (bits + 63) / 64) where
  words_all_zero : (row : ℕ) → row < rows → words_at stride (replicate (stride * rows) 0) row ≡ replicate stride 0
  words_all_zero row h =
      let a : stride * (row + 1) ≤ stride * rows = mul-le-mul_left stride (let l : row + 1 ≤ rows = omega arith in l) in
      part_of_equal (stride * rows) (stride * row) (stride * row + stride - stride * row) 0 (omega arith) ∙ ap (λ n. replicate n 0) (let e : stride * row + stride - stride * row ≡ stride = omega arith in e)

  pub zero_rows : (words : List ℕ) → words ≡ replicate (stride * rows) 0 → HoldRows rows bits stride words (replicate rows (replicate bits false))
  zero_rows words is = rw is (record {
    fit = record {
      all = length-replicate {A = ℕ} (stride * rows) 0;
      each = λ row h. rw (words_all_zero row h) (zeros_hold bits stride stride_is).fits;
    };
    seen = ext_get_or [] (rows_of rows bits stride (replicate (stride * rows) 0)) (replicate rows (replicate bits false))
        (length_rows_of rows bits stride (replicate (stride * rows) 0) ∙ sym (length-replicate {A = List Bool} rows (replicate bits false)))
        (λ row l. let h : row < rows = rw length_rows_of at l in
        row_rows_of rows bits stride (replicate (stride * rows) 0) row h ∙ rw (words_all_zero row h) (zeros_hold bits stride stride_is).view
        ∙ sym (get_or-replicate {A = List Bool} rows row (replicate bits false) [] h));
  })
