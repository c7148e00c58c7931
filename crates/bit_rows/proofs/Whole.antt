-- All rows at once: one pass over all words is the operation on each row.
use Rattle.std.proofs.Common.{◌≡◌, ℕ, ◌+◌, ◌*◌, ◌/◌, ◌<◌, ◌≤◌, Bool, false, List, [], ◌++◌, length, take, drop, get_or, refl, sym, ap, inl, inr, arith, ◌∙◌, length-drop, length-take}
use Rattle.std.proofs.lemmas.Bool.{cases_lt}
use Rattle.std.proofs.lemmas.List.{get_or_past}
use Rattle.bit_rows.specs.Bits.{AreAlike, zip_with, row_of}
use Rattle.bit_rows.specs.BitLaws.{zip_bit}
use Rattle.bit_rows.specs.Words.{bits_of, rows_of, words_at, FitsRows, FitsWords}
use Rattle.bit_rows.proofs.Views.{Holds, IsBitwise, length_bits_of, rewritten_whole, joined_hold}
use Rattle.bit_rows.proofs.Splices.{word_at}
use Rattle.bit_rows.proofs.Flat.{length_rows_of, row_rows_of, row_fits, row_long, row_view, row_within, rows_are, stride_is, words_long}

-- words that hold rows made of others row by row
pub record HoldEach (rows bits stride : ℕ) (f : Bool → Bool → Bool) (words : List ℕ) (all more : List (List Bool)) : Type 0 where
  pub fit : FitsRows rows bits stride words
  pub alike : AreAlike all (rows_of rows bits stride words)
  pub each : (n : ℕ) → row_of (rows_of rows bits stride words) n ≡ zip_with f (row_of all n) (row_of more n)
  pub bit : (n b : ℕ) → get_or (row_of (rows_of rows bits stride words) n) b false ≡ f (get_or (row_of all n) b false) (get_or (row_of more n) b false)

module _ (rows bits stride : ℕ) (words : List ℕ) (all : List (List Bool)) (fits : FitsRows rows bits stride words) (view : rows_of rows bits stride words ≡ all)
    (rows2 bits2 stride2 : ℕ) (words2 : List ℕ) (more : List (List Bool)) (fits2 : FitsRows rows2 bits2 stride2 words2) (view2 : rows_of rows2 bits2 stride2 words2 ≡ more) (alike : AreAlike all more) where
  rows_equal : rows2 ≡ rows
  rows_equal = sym (rows_are rows2 bits2 stride2 words2 more fits2 view2) ∙ alike.len ∙ rows_are rows bits stride words all fits view

  in_all : (r : ℕ) → r < rows → r < length all
  in_all r h = rw (rows_are rows bits stride words all fits view) h

  in_more : (r : ℕ) → r < rows → r < length more
  in_more r h = rw (alike.len) (in_all r h)

  same_bits : (r : ℕ) → r < rows → bits2 ≡ bits
  same_bits r h = sym (row_long rows2 bits2 stride2 words2 more fits2 view2 r (in_more r h)) ∙ alike.each r (in_all r h) ∙ row_long rows bits stride words all fits view r (in_all r h)

  same_stride : (r : ℕ) → r < rows → stride2 ≡ stride
  same_stride r h = stride_is rows2 bits2 stride2 words2 more fits2 view2 r (in_more r h) ∙ ap (λ b. (b + 63) / 64) (same_bits r h) ∙ sym (stride_is rows bits stride words all fits view r (in_all r h))

  pub all_long : length words ≡ length words2
  all_long = elim (cases_lt 0 rows) as (λ _. length words ≡ length words2) [
    | inl some ↦ fits.all ∙ rw (← same_stride 0 some, ← rows_equal) (sym fits2.all)
    | inr none ↦ let none' : rows ≡ 0 = omega arith in let a : length words ≡ stride * 0 = rw none' at fits.all in let b : length words2 ≡ stride2 * 0 = rw (rows_equal, none') at fits2.all in omega arith
  ]

  -- past the last row both have none
  past_all : (r : ℕ) → rows ≤ r → row_of all r ≡ []
  past_all r past = get_or_past {X = List Bool} all r [] (rw (rows_are rows bits stride words all fits view) past)

  past_more : (r : ℕ) → rows ≤ r → row_of more r ≡ []
  past_more r past = get_or_past {X = List Bool} more r [] (rw (rows_are rows2 bits2 stride2 words2 more fits2 view2, rows_equal) past)

  same_long : (r : ℕ) → length (row_of all r) ≡ length (row_of more r)
  same_long r = elim (cases_lt r rows) as (λ _. length (row_of all r) ≡ length (row_of more r)) [
    | inl h ↦ sym (alike.each r (in_all r h))
    | inr past ↦ rw (past_all r past, past_more r past) refl
  ]

  module _ (len : ℕ) (zs : List ℕ) (len_is : len ≡ length words) (same : length zs ≡ length words) (op : ℕ → ℕ → ℕ)
      (f : Bool → Bool → Bool) (is : IsBitwise op f) (each : (k : ℕ) → k < length words → get_or zs k 0 ≡ op (get_or words k 0) (get_or words2 k 0)) where
    at_row : (r k : ℕ) → r < rows → k < stride → get_or (words_at stride zs r) k 0 ≡ op (get_or (words_at stride words r) k 0) (get_or (words_at stride2 words2 r) k 0)
    at_row r k h l =
        let within : stride * r + stride ≤ length words = row_within rows bits stride words all fits view r (in_all r h) in
        rw (same_stride r h) (word_at stride r k zs l ∙ each (stride * r + k) (omega arith) ∙ rw (word_at stride r k words l, word_at stride r k words2 l) refl)

    -- one pass over all words joins each row with that of the other
    pub joined_all : HoldEach rows bits stride f (take len (zs ++ drop (length zs) words)) all more
    joined_all = rw (rewritten_whole len words zs len_is same) (record {
      fit = record { all = same ∙ fits.all; each = λ r h. (row_holds r h).fits };
      alike = record {
        len = length_rows_of rows bits stride zs ∙ sym (rows_are rows bits stride words all fits view);
        each = λ r l. let h : r < rows = rw (rows_are rows bits stride words all fits view) at l in
            rw (row_rows_of rows bits stride zs r h, row_long rows bits stride words all fits view r l) (length_bits_of bits (words_at stride zs r));
      };
      each = row_is;
      bit = λ r b. ap (λ (xs : List Bool). get_or xs b false) (row_is r) ∙ zip_bit f is.off (row_of all r) (row_of more r) b (same_long r);
    })
      where
        row_holds : (r : ℕ) → r < rows → Holds bits (words_at stride zs r) (zip_with f (row_of all r) (row_of more r))
        row_holds r h =
            let fy : FitsWords bits (words_at stride2 words2 r) = rw (same_bits r h) at (row_fits rows2 bits2 stride2 words2 more fits2 view2 r (in_more r h)) in
            let vy : bits_of bits (words_at stride2 words2 r) ≡ row_of more r = rw (same_bits r h) at (row_view rows2 bits2 stride2 words2 more fits2 view2 r (in_more r h)) in
            let long : length (words_at stride words r) ≡ stride = words_long rows bits stride words all fits view r (in_all r h) in
            let within : stride * r + stride ≤ length words = row_within rows bits stride words all fits view r (in_all r h) in
            let zs_long : length (words_at stride zs r) ≡ stride = grind (arith, length-drop, length-take) in
            rw (← row_view rows bits stride words all fits view r (in_all r h), ← vy)
            (joined_hold op f is bits (words_at stride words r) (words_at stride2 words2 r) (words_at stride zs r) (row_fits rows bits stride words all fits view r (in_all r h)) fy (zs_long ∙ sym long) (λ k l. at_row r k h (rw long at l)))

        row_is : (r : ℕ) → row_of (rows_of rows bits stride zs) r ≡ zip_with f (row_of all r) (row_of more r)
        row_is r = elim (cases_lt r rows) as (λ _. row_of (rows_of rows bits stride zs) r ≡ zip_with f (row_of all r) (row_of more r)) [
          | inl h ↦ row_rows_of rows bits stride zs r h ∙ (row_holds r h).view
          | inr past ↦ rw (get_or_past {X = List Bool} (rows_of rows bits stride zs) r [] (rw length_rows_of past), past_all r past) refl
        ]
