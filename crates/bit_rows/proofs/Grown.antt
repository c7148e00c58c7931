-- Rows that grow at their end: with one more row the words hold the old rows, as before, and the new one.
use Rattle.std.proofs.Common.{◌≡◌, ℕ, ◌+◌, ◌-◌, ◌*◌, ◌/◌, ◌<◌, ◌≤◌, Bool, false, List, [], ◌∷◌, ◌++◌, length, drop, replicate, refl, sym, ap, inl, inr, arith, ◌∙◌, length-append}
use Rattle.std.proofs.Math.Seq.{drop-append_seam, get_or-append_seam}
use Rattle.std.proofs.lemmas.Bool.{cases_lt}
use Rattle.std.proofs.lemmas.List.{ext_get_or, get_or_append_left, length-replicate, take-append-le, take_all}
use Rattle.std.proofs.lemmas.Slice.{between_is}
use Rattle.bit_rows.specs.Bits.{AreEquallyLong, row_of}
use Rattle.bit_rows.specs.Words.{rows_of, words_at, FitsRows}
use Rattle.bit_rows.proofs.Views.{Holds, length_bits_of, zeros_hold}
use Rattle.bit_rows.proofs.Flat.{HoldRows, length_rows_of, row_rows_of, row_fits, row_long, row_view, row_within, rows_are, stride_is}

-- words that hold rows, row by row
hold_rows : (rows bits stride : ℕ) (words : List ℕ) (all : List (List Bool)) → length words ≡ stride * rows → length all ≡ rows
    → ((row : ℕ) → row < rows → Holds bits (words_at stride words row) (row_of all row)) → HoldRows rows bits stride words all
hold_rows rows bits stride words all long many each = record {
  fit = record { all = long; each = λ row h. (each row h).fits };
  seen = ext_get_or [] (rows_of rows bits stride words) all (length_rows_of rows bits stride words ∙ sym many)
      (λ row l. let h : row < rows = rw length_rows_of at l in row_rows_of rows bits stride words row h ∙ (each row h).view);
}

-- the words of a row of the front part of a list
part_before : (stride row : ℕ) (xs ys : List ℕ) → stride * row + stride ≤ length xs → words_at stride (xs ++ ys) row ≡ words_at stride xs row
part_before stride row xs ys within =
    between_is (xs ++ ys) (stride * row) (stride * row + stride)
    ∙ ap (λ (zs : List ℕ). drop (stride * row) zs) (take-append-le (stride * row + stride) xs ys within)
    ∙ sym (between_is xs (stride * row) (stride * row + stride))

-- ---- one row more

module _ (rows bits stride : ℕ) (words : List ℕ) (all : List (List Bool)) (fits : FitsRows rows bits stride words) (view : rows_of rows bits stride words ≡ all)
    (m : ℕ) (ys : List ℕ) (row : List Bool) (held : Holds m ys row) (long : AreEquallyLong (length row) all) where
  -- the row is as long as its words say
  as_wide : length row ≡ m
  as_wide = rw held.view at (length_bits_of m ys)

  in_all : 0 < rows → 0 < length all
  in_all some = rw (rows_are rows bits stride words all fits view) some

  same_width : 0 < rows → bits ≡ m
  same_width some = sym (row_long rows bits stride words all fits view 0 (in_all some)) ∙ long.each 0 (in_all some) ∙ as_wide

  same_step : 0 < rows → stride ≡ length ys
  same_step some = stride_is rows bits stride words all fits view 0 (in_all some) ∙ ap (λ b. (b + 63) / 64) (same_width some) ∙ sym held.fits.len

  stands : length words ≡ length ys * rows
  stands = elim (cases_lt 0 rows) as (λ _. length words ≡ length ys * rows) [
    | inl some ↦ fits.all ∙ ap (λ s. s * rows) (same_step some)
    | inr none ↦ let none' : rows ≡ 0 = omega arith in let a : length words ≡ stride * 0 = rw none' at fits.all in rw none' (let b : length words ≡ length ys * 0 = omega arith in b)
  ]

  old_row : (r : ℕ) → r < rows → Holds m (words_at (length ys) (words ++ ys) r) (row_of (all ++ row ∷ []) r)
  old_row r h =
      let some : 0 < rows = omega arith in
      let r_in : r < length all = rw (rows_are rows bits stride words all fits view) h in
      let within : stride * r + stride ≤ length words = row_within rows bits stride words all fits view r r_in in
      let front : Holds m (words_at stride (words ++ ys) r) (row_of all r) =
      rw (part_before stride r words ys within, ← same_width some) (record { fits = row_fits rows bits stride words all fits view r r_in; view = row_view rows bits stride words all fits view r r_in }) in
      rw (get_or_append_left all (row ∷ []) [] r r_in, ← same_step some) front

  new_row : Holds m (words_at (length ys) (words ++ ys) rows) (row_of (all ++ row ∷ []) rows)
  new_row =
      let many : length all ≡ rows = rows_are rows bits stride words all fits view in
      let last : row_of (all ++ row ∷ []) rows ≡ row = rw (← many) (get_or-append_seam all row [] []) in
      let behind : drop (length ys * rows) (words ++ ys) ≡ ys = rw (← stands) (drop-append_seam words ys) in
      rw (behind, last, take_all (length ys * rows + length ys - length ys * rows) ys (omega arith)) held

  pub grown : HoldRows (rows + 1) m (length ys) (words ++ ys) (all ++ row ∷ [])
  grown = hold_rows (rows + 1) m (length ys) (words ++ ys) (all ++ row ∷ [])
      (let a : length words ≡ length ys * rows = stands in grind (arith, length-append))
      (let a : length all ≡ rows = rows_are rows bits stride words all fits view in grind (arith, length-append))
      (λ r h. elim (cases_lt r rows) as (λ _. Holds m (words_at (length ys) (words ++ ys) r) (row_of (all ++ row ∷ []) r)) [
        | inl before ↦ old_row r before
        | inr last ↦ let e : r ≡ rows = omega arith in rw e new_row
      ])

-- one row more that is all false
pub grown_false : (rows bits stride : ℕ) (words : List ℕ) (all : List (List Bool)) (fits : FitsRows rows bits stride words) (view : rows_of rows bits stride words ≡ all)
    (m step : ℕ) → step ≡ (m + 63) / 64 → AreEquallyLong m all
    → HoldRows (rows + 1) m step (words ++ replicate step 0) (all ++ replicate m false ∷ [])
grown_false rows bits stride words all fits view m step step_is long =
    let zeros : Holds m (replicate step 0) (replicate m false) = zeros_hold m step step_is in
    let wide : length (replicate {A = Bool} m false) ≡ m = length-replicate {A = Bool} m false in
    let more : HoldRows (rows + 1) m (length (replicate {A = ℕ} step 0)) (words ++ replicate step 0) (all ++ replicate m false ∷ []) = grown rows bits stride words all fits view m (replicate step 0) (replicate m false) zeros (rw wide long) in
    rw (length-replicate {A = ℕ} step 0) at more

-- no rows need no words
pub no_rows : (bits stride : ℕ) (words : List ℕ) → rows_of 0 bits stride words ≡ []
unfolding rows_of
no_rows bits stride words = refl
