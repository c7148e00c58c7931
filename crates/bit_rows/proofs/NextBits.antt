-- The first set bit from a number on: in one word, in the words, and in the row that they hold.
use Rattle.std.proofs.Common.{◌≡◌, ℕ, ◌+◌, ◌-◌, ◌*◌, ◌/◌, ◌%◌, ◌^◌, ◌<◌, ◌≤◌, Bool, true, false, eqb, List, Option, None, Some, IfNone, IfSome, length, get_or, refl, sym, ap, inl, inr, arith, ◌∙◌, w64}
use Rattle.std.proofs.lemmas.Bool.{cases_lt}
use Rattle.std.proofs.lemmas.Nat.{shr-shr, shr_le}
use Rattle.std.proofs.lemmas.Nat.Bits.{bit_at-trailing_zeros, bit_at-zero, bit_at_above}
use Rattle.std.specs.Int.{bit_at, trailing_zeros}
use Rattle.std.proofs.lemmas.Option.{IfSome_then}
use Rattle.bit_rows.specs.Words.{bit_of, bits_of, FitsWords}
use Rattle.bit_rows.proofs.Ops.{row_len}
use Rattle.bit_rows.proofs.Views.{get_or_bits_of}

-- ---- in a word that was shifted down

module _ (word from : ℕ) where
  shifted : (i : ℕ) → from ≤ i → bit_at (word / 2 ^ from) (i - from) ≡ bit_at word i
  shifted i h =
      let sum : from + (i - from) ≡ i = omega arith in
      ap (λ x. x % 2) (shr-shr word from (i - from) ∙ ap (λ k. word / 2 ^ k) sum)

  pub none_left : word / 2 ^ from ≡ 0 → (i : ℕ) → from ≤ i → bit_at word i ≡ 0
  none_left e i h = sym (shifted i h) ∙ ap (λ x. bit_at x (i - from)) e ∙ bit_at-zero (i - from)

  -- the lowest bit that is left
  module _ (small : word < 2 ^ 64) (left : 0 < word / 2 ^ from) where
    lowest : (trailing_zeros w64 (word / 2 ^ from) < 64) × (bit_at (word / 2 ^ from) (trailing_zeros w64 (word / 2 ^ from)) ≡ 1) × ((i : ℕ) → i < trailing_zeros w64 (word / 2 ^ from) → bit_at (word / 2 ^ from) i ≡ 0)
    lowest = let le : word / 2 ^ from ≤ word = shr_le word from in bit_at-trailing_zeros w64 (word / 2 ^ from) left (omega arith)

    pub set_left : bit_at word (from + trailing_zeros w64 (word / 2 ^ from)) ≡ 1
    set_left = sym (ap (λ x. x % 2) (shr-shr word from (trailing_zeros w64 (word / 2 ^ from)))) ∙ lowest.1

    pub place_left : from + trailing_zeros w64 (word / 2 ^ from) < 64
    place_left = elim (cases_lt (from + trailing_zeros w64 (word / 2 ^ from)) 64) as (λ _. from + trailing_zeros w64 (word / 2 ^ from) < 64) [
      | inl within ↦ within
      | inr past ↦ let none : bit_at word (from + trailing_zeros w64 (word / 2 ^ from)) ≡ 0 = bit_at_above word 64 (from + trailing_zeros w64 (word / 2 ^ from)) small past in absurd (omega (arith, none, set_left))
    ]

    pub first_left : (i : ℕ) → from ≤ i → i < from + trailing_zeros w64 (word / 2 ^ from) → bit_at word i ≡ 0
    first_left i h below = sym (shifted i h) ∙ lowest.2 (i - from) (omega arith)

-- ---- in words

-- bit j of word i is bit 64 * i + j of the words
pub bit_in_word : (ws : List ℕ) (i j : ℕ) → j < 64 → bit_of ws (64 * i + j) ≡ eqb (bit_at (get_or ws i 0) j) 1
unfolding bit_of
bit_in_word ws i j h =
    let whole : (64 * i + j) / 64 ≡ i = omega arith in
    let part : (64 * i + j) % 64 ≡ j = omega arith in
    rw (whole, part) refl

-- no bit is set up to a place in a word, where none is up to an earlier place in it, nor from there on
pub clear_until : (ws : List ℕ) (from i start end : ℕ) → end ≤ 64 → ((k : ℕ) → from ≤ k → k < 64 * i + start → bit_of ws k ≡ false)
    → ((j : ℕ) → start ≤ j → j < end → bit_at (get_or ws i 0) j ≡ 0) → (k : ℕ) → from ≤ k → k < 64 * i + end → bit_of ws k ≡ false
clear_until ws from i start end within before clear k late early = elim (cases_lt k (64 * i + start)) as (λ _. bit_of ws k ≡ false) [
  | inl passed ↦ before k late passed
  | inr past ↦
      let place : 64 * i + (k - 64 * i) ≡ k = omega arith in
      ap (bit_of ws) (sym place) ∙ bit_in_word ws i (k - 64 * i) (omega arith) ∙ ap (λ x. eqb x 1) (clear (k - 64 * i) (omega arith) (omega arith))
]

-- ---- in the row that words hold

module _ (n : ℕ) (ws : List ℕ) (row : List Bool) (fits : FitsWords n ws) (view : bits_of n ws ≡ row) (from : ℕ) where
  held_bit : (k : ℕ) → k < n → get_or row k false ≡ bit_of ws k
  held_bit k h = rw (← view) (get_or_bits_of n ws k h)

  held_len : length row ≡ n
  held_len = row_len n ws row view

  -- a bit that is set is not one of the unused ones
  used : (k : ℕ) → k < 64 * length ws → bit_of ws k ≡ true → k < n
  used k within on = elim (cases_lt k n) as (λ _. k < n) [
    | inl early ↦ early
    | inr late ↦ let off : bit_of ws k ≡ false = fits.unused k late within in cc
  ]

  pub next_found : (r : Option ℕ) → IfSome r (λ bit. (from ≤ bit) × (bit < 64 * length ws) × (bit_of ws bit ≡ true)) → IfSome r (λ bit. (from ≤ bit) × (bit < length row) × (get_or row bit false ≡ true))
  next_found r found = IfSome_then r found (λ bit h.
      let early : bit < n = used bit h.1 h.2 in
      (h.0, rw held_len early, held_bit bit early ∙ h.2))

  pub next_first : (r : Option ℕ) → IfSome r (λ bit. (from ≤ bit) × (bit < 64 * length ws) × (bit_of ws bit ≡ true)) → IfSome r (λ bit. (k : ℕ) → from ≤ k → k < bit → bit_of ws k ≡ false)
      → IfSome r (λ bit. (k : ℕ) → from ≤ k → k < bit → get_or row k false ≡ false)
  next_first None found first = tt
  next_first (Some bit) found first = λ k late before.
      let early : bit < n = used bit found.1 found.2 in
      held_bit k (omega arith) ∙ first k late before

  pub next_none : (r : Option ℕ) → IfNone r ((k : ℕ) → from ≤ k → k < 64 * length ws → bit_of ws k ≡ false) → IfNone r ((k : ℕ) → from ≤ k → k < length row → get_or row k false ≡ false)
  next_none (Some bit) none = tt
  next_none None none = λ k late within.
      let early : k < n = rw held_len at within in
      let len : length ws ≡ (n + 63) / 64 = fits.len in
      held_bit k early ∙ none k late (omega arith)
