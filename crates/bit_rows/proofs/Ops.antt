-- A row in its own vector of words, which is written whole, alone or with other rows of as many bits.
use Rattle.std.proofs.Common.{◌≡◌, ◌↔◌, ℕ, ◌<◌, Bool, false, List, ◌++◌, length, take, drop, get_or, sym, ap, ◌∙◌, bit_or}
use Rattle.bit_rows.specs.Bits.{zip_with, or_bits, minus_bits}
use Rattle.bit_rows.specs.Words.{bits_of, minus_word, FitsWords}
use Rattle.bit_rows.proofs.Views.{Holds, IsBitwise, length_bits_of, rewritten_whole, joined_hold, or_minus_hold, same_words, two_hold, unchanged_row}

-- how many bits a row has
pub row_len : (n : ℕ) (xs : List ℕ) (row : List Bool) → bits_of n xs ≡ row → length row ≡ n
row_len n xs row view = rw view at (length_bits_of n xs)

-- words of as many bits make a row that is as long
pub as_long : (n : ℕ) (xs zs : List ℕ) (row : List Bool) → bits_of n xs ≡ row → length (bits_of n zs) ≡ length row
as_long n xs zs row view = length_bits_of n zs ∙ sym (row_len n xs row view)

-- words that hold a row hold it as a row of as many bits as another
module _ (n : ℕ) (xs : List ℕ) (row : List Bool) (fx : FitsWords n xs) (view : bits_of n xs ≡ row) (m : ℕ) (ys : List ℕ) (other : List Bool) (fy : FitsWords m ys) (view' : bits_of m ys ≡ other) (long : length row ≡ length other) where
  same_bits : m ≡ n
  same_bits = sym (row_len m ys other view') ∙ sym long ∙ row_len n xs row view

  pub as_wide : Holds n ys other
  as_wide = rw (← same_bits) (record { fits = fy; view = view' })

  pub words_long : length xs ≡ length ys
  words_long = fx.len ∙ sym as_wide.fits.len

  -- the rows are the same exactly where their words are
  pub rows_alike : xs ≡ ys → row ≡ other
  rows_alike e = sym view ∙ ap (bits_of n) e ∙ as_wide.view

  pub words_alike : row ≡ other → xs ≡ ys
  words_alike e = same_words n xs ys fx as_wide.fits (view ∙ e ∙ sym as_wide.view)

module _ (n len : ℕ) (xs zs : List ℕ) (row : List Bool) (fx : FitsWords n xs) (view : bits_of n xs ≡ row) (len_is : len ≡ length xs) (same : length zs ≡ length xs) where
  -- with a second row of as many bits
  module _ (m : ℕ) (ys : List ℕ) (other : List Bool) (fy : FitsWords m ys) (view' : bits_of m ys ≡ other) (long : length row ≡ length other) where
    pub joined : (op : ℕ → ℕ → ℕ) (f : Bool → Bool → Bool) → IsBitwise op f → ((k : ℕ) → k < length xs → get_or zs k 0 ≡ op (get_or xs k 0) (get_or ys k 0))
        → Holds n (take len (zs ++ drop (length zs) xs)) (zip_with f row other)
    joined op f is each =
        let held : Holds n ys other = as_wide n xs row fx view m ys other fy view' long in
        rw (rewritten_whole len xs zs len_is same) (rw (← view, ← held.view) (joined_hold op f is n xs ys zs fx held.fits same each))

    -- which it becomes
    pub copied : zs ≡ ys → Holds n (take len (zs ++ drop (length zs) xs)) other
    copied e = rw (rewritten_whole len xs zs len_is same, e) (as_wide n xs row fx view m ys other fy view' long)

    -- and a third
    pub or_minused : (m2 : ℕ) (ws : List ℕ) (less : List Bool) → FitsWords m2 ws → bits_of m2 ws ≡ less → length row ≡ length less
        → ((k : ℕ) → k < length xs → get_or zs k 0 ≡ bit_or (get_or xs k 0) (minus_word (get_or ys k 0) (get_or ws k 0)))
        → Holds n (take len (zs ++ drop (length zs) xs)) (or_bits row (minus_bits other less))
    or_minused m2 ws less fw view2 long2 each =
        let held : Holds n ys other = as_wide n xs row fx view m ys other fy view' long in
        let held2 : Holds n ws less = as_wide n xs row fx view m2 ws less fw view2 long2 in
        rw (rewritten_whole len xs zs len_is same) (rw (← view, ← held.view, ← held2.view) (or_minus_hold n xs ys ws zs fx held.fits held2.fits same each))

    -- by one operator after another
    pub joined_by_two : (m2 : ℕ) (ws : List ℕ) (third : List Bool) → FitsWords m2 ws → bits_of m2 ws ≡ third → length row ≡ length third
        → (op : ℕ → ℕ → ℕ) (f : Bool → Bool → Bool) → IsBitwise op f → (next : ℕ → ℕ → ℕ) (g : Bool → Bool → Bool) → IsBitwise next g
        → ((k : ℕ) → k < length xs → get_or zs k 0 ≡ next (op (get_or xs k 0) (get_or ys k 0)) (get_or ws k 0))
        → Holds n (take len (zs ++ drop (length zs) xs)) (zip_with g (zip_with f row other) third)
    joined_by_two m2 ws third fw view2 long2 op f is next g is2 each =
        let held : Holds n ys other = as_wide n xs row fx view m ys other fy view' long in
        let held2 : Holds n ws third = as_wide n xs row fx view m2 ws third fw view2 long2 in
        rw (rewritten_whole len xs zs len_is same) (rw (← view, ← held.view, ← held2.view) (two_hold op f is next g is2 n xs ys ws zs fx held.fits held2.fits same each))

  -- whether the words changed tells whether the row did
  pub changed_row : (row' : List Bool) (b : Bool) → Holds n (take len (zs ++ drop (length zs) xs)) row' → ((b ≡ false) ↔ (zs ≡ xs)) → (b ≡ false) ↔ (bits_of n (take len (zs ++ drop (length zs) xs)) ≡ row)
  changed_row row' b h words =
      let fz : FitsWords n zs = rw (rewritten_whole len xs zs len_is same) at h.fits in
      rw (rewritten_whole len xs zs len_is same, ← view) (unchanged_row n zs xs fz fx b words)
