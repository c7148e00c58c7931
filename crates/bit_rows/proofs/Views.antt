-- One row of bits in words: what words hold which row, and what row they hold after an operator of words, a flip, or
-- the write of one bit. Each is proved bit by bit. At the end: rows that are seen alike have the same words.
use Rattle.std.proofs.Math.Bool.{and-false, and-true}
use Rattle.std.proofs.Common.{◌≡◌, ◌≢◌, ◌↔◌, ℕ, zero, suc, max, min, ◌+◌, ◌-◌, ◌*◌, ◌/◌, ◌%◌, ◌^◌, ◌<◌, ◌≤◌, Bool, true, false, not, ◌||◌, ◌&&◌, cond, eqb, ltb, List, ◌++◌, length, map, take, drop, get_or, refl, sym, ap, inl, inr, arith, ◌∙◌, bit_or, bit_and, replicate, w64, set, lit<}
use Rattle.std.proofs.Math.Nat.{mod-eq_of_lt, one-mul}
use Rattle.std.proofs.Math.Pow.{pow-lt}
use Rattle.std.proofs.lemmas.Bool.{cases_Bool, cases_eq, cases_lt, le-ltb, lt-ltb}
use Rattle.std.proofs.lemmas.List.{append-nil, drop_all, ext_get_or, get_or-map, get_or-replicate, get_or_past, get_or-set_same, get_or-set_other, length-map, length-replicate, length-set, take_all}
use Rattle.std.proofs.lemmas.List.FromFn.{length-map-range_with_len, get_or-map-range_with_len}
use Rattle.std.proofs.lemmas.Nat.{and_le_l, or_lt}
use Rattle.std.proofs.lemmas.Nat.Bits.{bit_at_or, bit_at_and, bit_at_not, bit_at_ones, bit_at_ones_above, bit_at-zero, bit_at_set_same, bit_at_set_other, bit_at_clear_same, bit_at_clear_other, bit_at-lt, same_from_bits_below, shr_and_one}
use Rattle.std.specs.Int.{bit_at, bit_not}
use Rattle.std.specs.List.{range_with_len}
use Rattle.bit_rows.specs.Bits.{zip_with, or_bits, minus_bits, not_bits}
use Rattle.bit_rows.specs.declared.joining.Joining.{Joining}
use Rattle.bit_rows.specs.declared.joining.Joining.TheVariants.{Or, And, Minus}
use Rattle.bit_rows.specs.Joinings.{bit_join, word_join}
use Rattle.bit_rows.specs.Words.{bit_of, bits_of, minus_word, used_bits, with_bit, FitsWords}
use Rattle.bit_rows.specs.BitLaws.{length_zip_with, get_or_zip_with}

-- a row that is seen in words has as many bits as are asked for
pub length_bits_of : (n : ℕ) (ws : List ℕ) → length (bits_of n ws) ≡ n
unfolding bits_of
length_bits_of n ws = length-map-range_with_len (bit_of ws) 0 n

-- a bit of the row is the bit of the words at that index
pub get_or_bits_of : (n : ℕ) (ws : List ℕ) (k : ℕ) → k < n → get_or (bits_of n ws) k false ≡ bit_of ws k
unfolding bits_of
get_or_bits_of n ws k h = get_or-map-range_with_len (bit_of ws) 0 n k k false h (omega arith)

-- how the code reads a bit
pub word_bit_is : (ws : List ℕ) (k : ℕ) → eqb (bit_and (get_or ws (k / 64) 0 / 2 ^ (k % 64)) 1) 1 ≡ bit_of ws k
unfolding bit_of
word_bit_is ws k = ap (λ x. eqb x 1) (shr_and_one (get_or ws (k / 64) 0) (k % 64))

-- a vector's items after a write to all of them
pub rewritten_whole : (len : ℕ) (xs ws : List ℕ) → len ≡ length xs → length ws ≡ length xs → take len (ws ++ drop (length ws) xs) ≡ ws
rewritten_whole len xs ws e same = rw (drop_all (length ws) xs (omega arith), append-nil ws) (take_all len ws (omega arith))

-- words that hold a row
pub record Holds (n : ℕ) (words : List ℕ) (row : List Bool) : Type 0 where
  pub fits : FitsWords n words
  pub view : bits_of n words ≡ row

-- words that hold a row, bit by bit
pub holds : (n : ℕ) (zs : List ℕ) (row : List Bool) → length zs ≡ (n + 63) / 64 → ((k : ℕ) → get_or zs k 0 < 2 ^ 64) → length row ≡ n
    → ((k : ℕ) → k < n → bit_of zs k ≡ get_or row k false) → ((k : ℕ) → n ≤ k → k < 64 * length zs → bit_of zs k ≡ false) → Holds n zs row
holds n zs row len small row_len bits unused = record {
  fits = record { len = len; small = small; unused = unused };
  view = ext_get_or false (bits_of n zs) row (length_bits_of n zs ∙ sym row_len) (λ k h. let h' : k < n = rw length_bits_of at h in get_or_bits_of n zs k h' ∙ bits k h');
}

-- each bit of the row is within the words
room : (n k : ℕ) (xs : List ℕ) → FitsWords n xs → k < n → k < 64 * length xs
room n k xs f h = let e : length xs ≡ (n + 63) / 64 = f.len in omega arith

-- ---- numbers below 2

-- what holds of 0 and 1 holds of two numbers below 2
of_two_bits : (P : ℕ → ℕ → Type 0) → P 0 0 → P 0 1 → P 1 0 → P 1 1 → (x y : ℕ) → x < 2 → y < 2 → P x y
of_two_bits P a b c d zero zero p q = a
of_two_bits P a b c d zero (suc zero) p q = b
of_two_bits P a b c d zero (suc (suc y)) p q = absurd (omega arith)
of_two_bits P a b c d (suc zero) zero p q = c
of_two_bits P a b c d (suc zero) (suc zero) p q = d
of_two_bits P a b c d (suc zero) (suc (suc y)) p q = absurd (omega arith)
of_two_bits P a b c d (suc (suc x)) y p q = absurd (omega arith)

-- numbers below 2 are equal if comparing them with 1 gives the same
pub same_test : (x y : ℕ) → x < 2 → y < 2 → eqb x 1 ≡ eqb y 1 → x ≡ y
same_test = of_two_bits (λ x y. eqb x 1 ≡ eqb y 1 → x ≡ y) (λ e. refl) (λ e. absurd (cc)) (λ e. absurd (cc)) (λ e. refl)

-- taking such a number from 1 negates it
rest_test : (x : ℕ) → x < 2 → eqb (1 - x) 1 ≡ not (eqb x 1)
rest_test x h = of_two_bits (λ x y. eqb (1 - x) 1 ≡ not (eqb x 1)) refl refl refl refl x x h h

-- ---- operators of words that work on each bit alone

-- the operations on words act on each bit, here the disjunction
or_at : (a b i : ℕ) → eqb (bit_at (bit_or a b) i) 1 ≡ (eqb (bit_at a i) 1 || eqb (bit_at b i) 1)
or_at a b i = rw (bit_at_or a b i) (of_two_bits (λ x y. eqb (max x y) 1 ≡ (eqb x 1 || eqb y 1)) refl refl refl refl (bit_at a i) (bit_at b i) (bit_at-lt a i) (bit_at-lt b i))

-- the same of the conjunction
and_at : (a b i : ℕ) → eqb (bit_at (bit_and a b) i) 1 ≡ (eqb (bit_at a i) 1 && eqb (bit_at b i) 1)
and_at a b i = rw (bit_at_and a b i) (of_two_bits (λ x y. eqb (min x y) 1 ≡ (eqb x 1 && eqb y 1)) refl refl refl refl (bit_at a i) (bit_at b i) (bit_at-lt a i) (bit_at-lt b i))

-- the same of the negation, which needs the width of a word
not_at : (a i : ℕ) → a < 2 ^ 64 → i < 64 → eqb (bit_at (bit_not w64 a) i) 1 ≡ not (eqb (bit_at a i) 1)
not_at a i h l = rw (bit_at_not w64 a i h l) (rest_test (bit_at a i) (bit_at-lt a i))

-- a conjunction is still a word
and_lt : (a b : ℕ) → a < 2 ^ 64 → bit_and a b < 2 ^ 64
and_lt a b h = let le : bit_and a b ≤ a = and_le_l a b in omega arith

-- what an operator of words makes of each pair of bits
pub record IsBitwise (op : ℕ → ℕ → ℕ) (f : Bool → Bool → Bool) : Type 0 where
  pub off : f false false ≡ false
  pub small : (a b : ℕ) → a < 2 ^ 64 → b < 2 ^ 64 → op a b < 2 ^ 64
  pub at : (a b i : ℕ) → b < 2 ^ 64 → i < 64 → eqb (bit_at (op a b) i) 1 ≡ f (eqb (bit_at a i) 1) (eqb (bit_at b i) 1)

-- disjunction, conjunction and difference of words are such operators
pub or_bitwise : IsBitwise bit_or (λ x y. x || y)
or_bitwise = record { off = refl; small = λ a b h l. or_lt 64 a b h l; at = λ a b i h l. or_at a b i }

-- the conjunction of words acts on each bit
pub and_bitwise : IsBitwise bit_and (λ x y. x && y)
and_bitwise = record { off = refl; small = λ a b h l. and_lt a b h; at = λ a b i h l. and_at a b i }

-- and so does one word without another
pub minus_bitwise : IsBitwise minus_word (λ x y. x && not y)
minus_bitwise = record {
  off = refl;
  small = λ a b h l. and_lt a (bit_not w64 b) h;
  at = λ a b i h l. and_at a (bit_not w64 b) i ∙ ap (λ c. eqb (bit_at a i) 1 && c) (not_at b i h l);
}

-- so the joinings are
pub joining_bitwise : (how : Joining) → IsBitwise (word_join how) (bit_join how)
joining_bitwise Or = or_bitwise
joining_bitwise And = and_bitwise
joining_bitwise Minus = minus_bitwise

-- words stay small
small_words : (xs zs : List ℕ) → length zs ≡ length xs → ((k : ℕ) → k < length xs → get_or zs k 0 < 2 ^ 64) → (k : ℕ) → get_or zs k 0 < 2 ^ 64
small_words xs zs len each k = elim (cases_lt k (length xs)) as (λ _. get_or zs k 0 < 2 ^ 64) [
  | inl within ↦ each k within
  | inr past ↦ rw (get_or_past zs k 0 (rw len past)) (lit< tt)
]

-- words that such an operator makes of two others hold the row that it makes of theirs
module _ (op : ℕ → ℕ → ℕ) (f : Bool → Bool → Bool) (is : IsBitwise op f) (n : ℕ) (xs ys zs : List ℕ) (fx : FitsWords n xs) (fy : FitsWords n ys) (len : length zs ≡ length xs)
    (each : (k : ℕ) → k < length xs → get_or zs k 0 ≡ op (get_or xs k 0) (get_or ys k 0)) where
  joined_bit : (k : ℕ) → k < 64 * length xs → bit_of zs k ≡ f (bit_of xs k) (bit_of ys k)
  unfolding bit_of
  joined_bit k h = rw (each (k / 64) (omega arith)) (is.at (get_or xs (k / 64) 0) (get_or ys (k / 64) 0) (k % 64) (fy.small (k / 64)) (omega arith))

  pub joined_hold : Holds n zs (zip_with f (bits_of n xs) (bits_of n ys))
  joined_hold =
      let same : length (bits_of n xs) ≡ length (bits_of n ys) = length_bits_of n xs ∙ sym (length_bits_of n ys) in
      holds n zs (zip_with f (bits_of n xs) (bits_of n ys)) (len ∙ fx.len)
      (small_words xs zs len (λ k h. rw (each k h) (is.small (get_or xs k 0) (get_or ys k 0) (fx.small k) (fy.small k))))
      (length_zip_with f (bits_of n xs) (bits_of n ys) same ∙ length_bits_of n xs)
      (λ k h. joined_bit k (room n k xs fx h)
      ∙ sym (get_or_zip_with f (bits_of n xs) (bits_of n ys) k same (rw length_bits_of h)
      ∙ rw (get_or_bits_of n xs k h, get_or_bits_of n ys k h) refl))
      (λ k late within.
      let within' : k < 64 * length xs = rw len at within in
      let lens : length ys ≡ length xs = fy.len ∙ sym fx.len in
      joined_bit k within' ∙ rw (fx.unused k late within', fy.unused k late (rw lens within')) is.off)

-- a disjunction with what another has and a third has not: two joins, of which the inner one is in no vector
pub or_minus_hold : (n : ℕ) (xs ys ws zs : List ℕ) → FitsWords n xs → FitsWords n ys → FitsWords n ws → length zs ≡ length xs
    → ((k : ℕ) → k < length xs → get_or zs k 0 ≡ bit_or (get_or xs k 0) (minus_word (get_or ys k 0) (get_or ws k 0))) → Holds n zs (or_bits (bits_of n xs) (minus_bits (bits_of n ys) (bits_of n ws)))
or_minus_hold n xs ys ws zs fx fy fw len each =
    let word : ℕ → ℕ = λ k. minus_word (get_or ys k 0) (get_or ws k 0) in
    let vs : List ℕ = map word (range_with_len 0 (length ys)) in
    let lens : length ys ≡ length xs = fy.len ∙ sym fx.len in
    let at : (k : ℕ) → k < length ys → get_or vs k 0 ≡ word k = λ k h. get_or-map-range_with_len word 0 (length ys) k k 0 h (omega arith) in
    let inner : Holds n vs (minus_bits (bits_of n ys) (bits_of n ws)) = joined_hold minus_word (λ x y. x && not y) minus_bitwise n ys ws vs fy fw (length-map-range_with_len word 0 (length ys)) at in
    rw (← inner.view) (joined_hold bit_or (λ x y. x || y) or_bitwise n xs vs zs fx inner.fits len (λ k h. each k h ∙ ap (λ w. bit_or (get_or xs k 0) w) (sym (at k (rw lens h)))))

-- the same with what another or a fourth has
pub or_passed_hold : (n : ℕ) (xs ys ms ws zs : List ℕ) → FitsWords n xs → FitsWords n ys → FitsWords n ms → FitsWords n ws → length zs ≡ length xs
    → ((k : ℕ) → k < length xs → get_or zs k 0 ≡ bit_or (get_or xs k 0) (minus_word (bit_or (get_or ys k 0) (get_or ms k 0)) (get_or ws k 0)))
    → Holds n zs (or_bits (bits_of n xs) (minus_bits (or_bits (bits_of n ys) (bits_of n ms)) (bits_of n ws)))
or_passed_hold n xs ys ms ws zs fx fy fm fw len each =
    let word : ℕ → ℕ = λ k. bit_or (get_or ys k 0) (get_or ms k 0) in
    let vs : List ℕ = map word (range_with_len 0 (length ys)) in
    let lens : length ys ≡ length xs = fy.len ∙ sym fx.len in
    let at : (k : ℕ) → k < length ys → get_or vs k 0 ≡ word k = λ k h. get_or-map-range_with_len word 0 (length ys) k k 0 h (omega arith) in
    let inner : Holds n vs (or_bits (bits_of n ys) (bits_of n ms)) = joined_hold bit_or (λ x y. x || y) or_bitwise n ys ms vs fy fm (length-map-range_with_len word 0 (length ys)) at in
    rw (← inner.view) (or_minus_hold n xs vs ws zs fx inner.fits fw len (λ k h. each k h ∙ ap (λ w. bit_or (get_or xs k 0) (minus_word w (get_or ws k 0))) (sym (at k (rw lens h)))))

-- one operator of words after another: the row that the first makes is in no vector
pub two_hold : (op : ℕ → ℕ → ℕ) (f : Bool → Bool → Bool) → IsBitwise op f → (next : ℕ → ℕ → ℕ) (g : Bool → Bool → Bool) → IsBitwise next g
    → (n : ℕ) (xs ys ws zs : List ℕ) → FitsWords n xs → FitsWords n ys → FitsWords n ws → length zs ≡ length xs
    → ((k : ℕ) → k < length xs → get_or zs k 0 ≡ next (op (get_or xs k 0) (get_or ys k 0)) (get_or ws k 0)) → Holds n zs (zip_with g (zip_with f (bits_of n xs) (bits_of n ys)) (bits_of n ws))
two_hold op f is next g is2 n xs ys ws zs fx fy fw len each =
    let word : ℕ → ℕ = λ k. op (get_or xs k 0) (get_or ys k 0) in
    let vs : List ℕ = map word (range_with_len 0 (length xs)) in
    let lens : length vs ≡ length xs = length-map-range_with_len word 0 (length xs) in
    let at : (k : ℕ) → k < length xs → get_or vs k 0 ≡ word k = λ k h. get_or-map-range_with_len word 0 (length xs) k k 0 h (omega arith) in
    let inner : Holds n vs (zip_with f (bits_of n xs) (bits_of n ys)) = joined_hold op f is n xs ys vs fx fy lens at in
    rw (← inner.view) (joined_hold next g is2 n vs ws zs inner.fits fw (len ∙ sym lens) (λ k h. let h' : k < length xs = rw lens at h in each k h' ∙ ap (λ w. next w (get_or ws k 0)) (sym (at k h'))))

-- ---- a flip

-- all bits of a word are below such a number
pub whole_word : (n word x : ℕ) → 64 * word + 64 ≤ n → x < 2 ^ 64 → bit_and x (used_bits n word) ≡ x
whole_word n word x full small =
    let top : min 64 (n - 64 * word) ≡ 64 = omega arith in
    let le : bit_and x (2 ^ min 64 (n - 64 * word) - 1) ≤ x = and_le_l _ _ in
    let low : bit_and x (used_bits n word) < 2 ^ 64 = omega arith in
    same_from_bits_below 64 _ _ low small (λ i h. bit_at_and x (used_bits n word) i ∙ rw (top, bit_at_ones 64 i h) (let b : bit_at x i < 2 = bit_at-lt x i in omega arith))

-- the bits of a word below a number
used_at : (n word i : ℕ) → i < 64 → eqb (bit_at (used_bits n word) i) 1 ≡ ltb (64 * word + i) n
used_at n word i h = elim (cases_lt (64 * word + i) n) as (λ _. eqb (bit_at (2 ^ min 64 (n - 64 * word) - 1) i) 1 ≡ ltb (64 * word + i) n) [
  | inl low ↦ rw (bit_at_ones (min 64 (n - 64 * word)) i (omega arith), lt-ltb (64 * word + i) n low) refl
  | inr high ↦ rw (bit_at_ones_above (min 64 (n - 64 * word)) i (omega arith), le-ltb (64 * word + i) n high) refl
]

-- a flip negates each bit of the row, although it clears the unused bits of the last word
flip_bit : (n : ℕ) (xs zs : List ℕ) → ((k : ℕ) → get_or xs k 0 < 2 ^ 64) → ((k : ℕ) → k < length xs → get_or zs k 0 ≡ bit_and (bit_not w64 (get_or xs k 0)) (used_bits n k))
    → (k : ℕ) → k < 64 * length xs → bit_of zs k ≡ (not (bit_of xs k) && ltb k n)
unfolding bit_of
flip_bit n xs zs small each k h =
    let place : 64 * (k / 64) + k % 64 ≡ k = omega arith in
    rw (each (k / 64) (omega arith)) (and_at (bit_not w64 (get_or xs (k / 64) 0)) (used_bits n (k / 64)) (k % 64)
    ∙ rw (not_at (get_or xs (k / 64) 0) (k % 64) (small (k / 64)) (omega arith), used_at n (k / 64) (k % 64) (omega arith), place) refl)

-- each bit flipped
pub flip_holds : (n : ℕ) (xs zs : List ℕ) (fx : FitsWords n xs) (len : length zs ≡ length xs)
    → ((k : ℕ) → k < length xs → get_or zs k 0 ≡ bit_and (bit_not w64 (get_or xs k 0)) (used_bits n k)) → Holds n zs (not_bits (bits_of n xs))
flip_holds n xs zs fx len words =
    let each = flip_bit n xs zs fx.small words in
    holds n zs (not_bits (bits_of n xs)) (len ∙ fx.len)
    (small_words xs zs len (λ k h. let le : bit_and (bit_not w64 (get_or xs k 0)) (used_bits n k) ≤ bit_not w64 (get_or xs k 0) = and_le_l _ _ in let top : bit_not w64 (get_or xs k 0) < 2 ^ 64 = omega arith in rw (words k h) (omega arith)))
    (length-map (bits_of n xs) not ∙ length_bits_of n xs)
    (λ k h. each k (room n k xs fx h) ∙ rw (lt-ltb k n h) (and-true (not (bit_of xs k)) ∙ ap not (sym (get_or_bits_of n xs k h)) ∙ sym (get_or-map not (bits_of n xs) k false false (rw length_bits_of h))))
    (λ k late within. each k (rw len at within) ∙ rw (le-ltb k n late) (and-false (not (bit_of xs k))))

-- ---- rows that are seen alike have the same words

module _ (n : ℕ) (xs ys : List ℕ) (fx : FitsWords n xs) (fy : FitsWords n ys) where
  same_bit : bits_of n xs ≡ bits_of n ys → (k : ℕ) → k < 64 * length xs → bit_of xs k ≡ bit_of ys k
  same_bit e k h =
      elim (cases_lt k n) as (λ _. bit_of xs k ≡ bit_of ys k) [
        | inl early ↦ sym (get_or_bits_of n xs k early) ∙ ap (λ bs. get_or bs k false) e ∙ get_or_bits_of n ys k early
        | inr late ↦ fx.unused k late h ∙ sym (fy.unused k late (rw (fy.len ∙ sym fx.len) h))
      ]

  same_word : bits_of n xs ≡ bits_of n ys → (j i : ℕ) → j < length xs → i < 64 → bit_at (get_or xs j 0) i ≡ bit_at (get_or ys j 0) i
  unfolding bit_of
  same_word e j i h l =
      let whole : (64 * j + i) / 64 ≡ j = omega arith in
      let part : (64 * j + i) % 64 ≡ i = omega arith in
      let t : bit_of xs (64 * j + i) ≡ bit_of ys (64 * j + i) = same_bit e (64 * j + i) (omega arith) in
      let t' : eqb (bit_at (get_or xs j 0) i) 1 ≡ eqb (bit_at (get_or ys j 0) i) 1 = rw (whole, part) at t in
      same_test _ _ (bit_at-lt _ _) (bit_at-lt _ _) t'

  pub same_words : bits_of n xs ≡ bits_of n ys → xs ≡ ys
  same_words e = ext_get_or 0 xs ys (fx.len ∙ sym fy.len) (λ j h. same_from_bits_below 64 _ _ (fx.small j) (fy.small j) (λ i l. same_word e j i h l))

  -- whether words changed tells whether the row did
  pub unchanged_row : (b : Bool) → ((b ≡ false) ↔ (xs ≡ ys)) → (b ≡ false) ↔ (bits_of n xs ≡ bits_of n ys)
  unchanged_row b words = (λ off. ap (bits_of n) (words.0 off), λ same. words.1 (same_words same))

-- a flag that is set at each change tells whether words changed
pub changed_exactly : (xs zs : List ℕ) (b : Bool) → length zs ≡ length xs → (b ≡ false → (k : ℕ) → get_or zs k 0 ≡ get_or xs k 0) → (b ≡ true → (k : ℕ) × (get_or zs k 0 ≢ get_or xs k 0)) → (b ≡ false) ↔ (zs ≡ xs)
changed_exactly xs zs b len same other = (
  λ off. ext_get_or 0 zs xs len (λ k h. same off k),
  λ e. elim (cases_Bool b) as (λ _. b ≡ false) [
    | inl on ↦ let place = other on in absurd (place.1 (ap (λ ws. get_or ws place.0 0) e))
    | inr off ↦ off
  ],
)

-- ---- rows that are all false

-- words of zeros have no true bit
zero_bit : (count k : ℕ) → bit_of (replicate count 0) k ≡ false
unfolding bit_of
zero_bit count k = elim (cases_lt (k / 64) count) as (λ _. eqb (bit_at (get_or (replicate count 0) (k / 64) 0) (k % 64)) 1 ≡ false) [
  | inl within ↦ rw (get_or-replicate {A = ℕ} count (k / 64) 0 0 within, bit_at-zero (k % 64)) refl
  | inr past ↦ rw (get_or_past {X = ℕ} (replicate count 0) (k / 64) 0 (rw (length-replicate {A = ℕ} count 0) past), bit_at-zero (k % 64)) refl
]

-- and zeros are words
zero_small : (count k : ℕ) → get_or (replicate {A = ℕ} count 0) k 0 < 2 ^ 64
zero_small count k = elim (cases_lt k count) as (λ _. get_or (replicate {A = ℕ} count 0) k 0 < 2 ^ 64) [
  | inl within ↦ rw (get_or-replicate {A = ℕ} count k 0 0 within) (omega arith)
  | inr past ↦ rw (get_or_past {X = ℕ} (replicate count 0) k 0 (rw (length-replicate {A = ℕ} count 0) past)) (omega arith)
]

-- zero words hold a row that is all false
pub zeros_hold : (n count : ℕ) → count ≡ (n + 63) / 64 → Holds n (replicate count 0) (replicate n false)
zeros_hold n count e =
    holds n (replicate count 0) (replicate n false) (length-replicate {A = ℕ} count 0 ∙ e) (zero_small count) (length-replicate n false)
    (λ k h. zero_bit count k ∙ sym (get_or-replicate n k false false h)) (λ k late within. zero_bit count k)

-- ---- one bit written

module _ (w i : ℕ) (v : Bool) (low : i < 64) where
  power : 1 * 2 ^ i % 2 ^ 64 ≡ 2 ^ i
  power = let small : 2 ^ i < 2 ^ 64 = pow-lt low in rw one-mul (mod-eq_of_lt small)

  here : eqb (bit_at (with_bit w i v) i) 1 ≡ v
  here = elim v as (λ v. eqb (bit_at (cond v (bit_or w (2 ^ i)) (bit_and w (bit_not w64 (2 ^ i)))) i) 1 ≡ v) [
    | true ↦ rw (rw power at (bit_at_set_same w64 w i low)) refl
    | false ↦ rw (rw power at (bit_at_clear_same w64 w i low)) refl
  ]

  other : (j : ℕ) → j < 64 → j ≢ i → bit_at (with_bit w i v) j ≡ bit_at w j
  other j l d = elim v as (λ v. bit_at (cond v (bit_or w (2 ^ i)) (bit_and w (bit_not w64 (2 ^ i)))) j ≡ bit_at w j) [
    | true ↦ rw power at (bit_at_set_other w64 w i low j d)
    | false ↦ rw power at (bit_at_clear_other w64 w i low j l d)
  ]

  small : w < 2 ^ 64 → with_bit w i v < 2 ^ 64
  small h = elim v as (λ v. cond v (bit_or w (2 ^ i)) (bit_and w (bit_not w64 (2 ^ i))) < 2 ^ 64) [
    | true ↦ or_lt 64 w (2 ^ i) h (pow-lt low)
    | false ↦ and_lt w (bit_not w64 (2 ^ i)) h
  ]

module _ (ws : List ℕ) (b : ℕ) (v : Bool) (h : b < 64 * length ws) where
  bit_here : bit_of (set ws (b / 64) (with_bit (get_or ws (b / 64) 0) (b % 64) v)) b ≡ v
  unfolding bit_of
  bit_here = rw (get_or-set_same ws (b / 64) (with_bit (get_or ws (b / 64) 0) (b % 64) v) 0 (omega arith)) (here (get_or ws (b / 64) 0) (b % 64) v (omega arith))

  bit_other : (k : ℕ) → k ≢ b → bit_of (set ws (b / 64) (with_bit (get_or ws (b / 64) 0) (b % 64) v)) k ≡ bit_of ws k
  unfolding bit_of
  bit_other k d =
      let x = with_bit (get_or ws (b / 64) 0) (b % 64) v in
      elim (cases_eq (k / 64) (b / 64)) as (λ _. eqb (bit_at (get_or (set ws (b / 64) x) (k / 64) 0) (k % 64)) 1 ≡ eqb (bit_at (get_or ws (k / 64) 0) (k % 64)) 1) [
        | inl e ↦ rw (e, get_or-set_same ws (b / 64) x 0 (omega arith)) (ap (λ y. eqb y 1) (other (get_or ws (b / 64) 0) (b % 64) v (omega arith) (k % 64) (omega arith) (λ p. let p' : k % 64 ≡ b % 64 = p in d (omega arith))))
        | inr n ↦ rw (get_or-set_other ws (b / 64) (k / 64) x 0 n) refl
      ]

  word_small : ((k : ℕ) → get_or ws k 0 < 2 ^ 64) → (k : ℕ) → get_or (set ws (b / 64) (with_bit (get_or ws (b / 64) 0) (b % 64) v)) k 0 < 2 ^ 64
  word_small all k =
      let x = with_bit (get_or ws (b / 64) 0) (b % 64) v in
      elim (cases_eq k (b / 64)) as (λ _. get_or (set ws (b / 64) x) k 0 < 2 ^ 64) [
        | inl e ↦ rw (e, get_or-set_same ws (b / 64) x 0 (omega arith)) (small (get_or ws (b / 64) 0) (b % 64) v (omega arith) (all (b / 64)))
        | inr d ↦ rw (get_or-set_other ws (b / 64) k x 0 d) (all k)
      ]

-- writing a bit of the words writes it in the row
pub set_holds : (n b : ℕ) (v : Bool) (xs : List ℕ) (fx : FitsWords n xs) → b < n → Holds n (set xs (b / 64) (with_bit (get_or xs (b / 64) 0) (b % 64) v)) (set (bits_of n xs) b v)
set_holds n b v xs fx early =
    let within = room n b xs fx early in
    let len = length-set xs (b / 64) (with_bit (get_or xs (b / 64) 0) (b % 64) v) in
    holds n _ (set (bits_of n xs) b v) (len ∙ fx.len) (word_small xs b v within fx.small) (length-set (bits_of n xs) b v ∙ length_bits_of n xs)
    (λ k h. elim (cases_eq k b) as (λ _. bit_of (set xs (b / 64) (with_bit (get_or xs (b / 64) 0) (b % 64) v)) k ≡ get_or (set (bits_of n xs) b v) k false) [
      | inl e ↦ rw (e, get_or-set_same (bits_of n xs) b v false (rw length_bits_of early)) (bit_here xs b v within)
      | inr d ↦ rw (get_or-set_other (bits_of n xs) b k v false d, get_or_bits_of n xs k h) (bit_other xs b v within k d)
    ])
    (λ k late high. bit_other xs b v within k (λ e. let e' : k ≡ b = e in absurd (omega arith)) ∙ fx.unused k late (rw len at high))

-- ---- a word of a row

-- the bit of words at a number of a word and one below 64
bit_of_word : (words : List ℕ) (k i : ℕ) → i < 64 → bit_of words (64 * k + i) ≡ eqb (bit_at (get_or words k 0) i) 1
unfolding bit_of
bit_of_word words k i h =
    let word : (64 * k + i) / 64 ≡ k = omega arith in
    let place : (64 * k + i) % 64 ≡ i = omega arith in
    rw (word, place) refl

-- a bit of the word at a number is the bit of the row there, which is not set past the last
pub word_of_bits : (n : ℕ) (words : List ℕ) (k : ℕ) → FitsWords n words → 64 * k < n
    → (i : ℕ) → i < 64 → get_or (bits_of n words) (64 * k + i) false ≡ eqb (bit_at (get_or words k 0) i) 1
word_of_bits n words k fits low i h =
    let here : bit_of words (64 * k + i) ≡ eqb (bit_at (get_or words k 0) i) 1 = bit_of_word words k i h in
    let len : length words ≡ (n + 63) / 64 = fits.len in
    elim (cases_lt (64 * k + i) n) as (λ _. get_or (bits_of n words) (64 * k + i) false ≡ eqb (bit_at (get_or words k 0) i) 1) [
      | inl inside ↦ get_or_bits_of n words (64 * k + i) inside ∙ here
      | inr past ↦ get_or_past (bits_of n words) (64 * k + i) false (let long : length (bits_of n words) ≤ 64 * k + i = rw length_bits_of past in long) ∙ sym (sym here ∙ fits.unused (64 * k + i) past (omega arith))
    ]
