-- One row rewritten among others, in one list of words.
use Rattle.std.proofs.Common.{◌≡◌, ◌≢◌, ◌⊎◌, ℕ, ◌+◌, ◌-◌, ◌*◌, ◌<◌, ◌≤◌, List, length, take, drop, get_or, set, refl, inl, inr, ap, sym, arith, bit_or, length-append, length-drop, length-take, ◌∙◌}
use Rattle.std.proofs.Math.Nat.{mul-le-mul_left}
use Rattle.std.proofs.lemmas.Bool.{cases_eq, cases_lt}
use Rattle.std.proofs.lemmas.List.{ext_get_or, get_or-drop, get_or-set_other, get_or-set_same, get_or-take}
use Rattle.std.proofs.lemmas.Slice.{between-put_mid, between_is, drop-put_mid, take-put_mid_below}
use borrow.Rule.Slice.PartMut.{put_mid}
use Rattle.bit_rows.specs.Words.{AddsWithout, Rewritten, minus_word, words_at}

-- a row before another ends where that one begins, or earlier
pub rows_apart : (stride r row : ℕ) → r < row → stride * r + stride ≤ stride * row
rows_apart stride r row h = let a : stride * (r + 1) ≤ stride * row = mul-le-mul_left stride (let l : r + 1 ≤ row = omega arith in l) in omega arith

-- a part replaced by one of the same length keeps the length of the whole
length_put_mid : (a k : ℕ) (xs ys : List ℕ) → a + k ≤ length xs → length ys ≡ k → length (put_mid a k xs ys) ≡ length xs
length_put_mid a k xs ys within long = grind (arith, length-append, length-drop, length-take)

module _ (stride row : ℕ) (xs ys : List ℕ) (within : stride * row + stride ≤ length xs) (long : length ys ≡ stride) where
  pub rewritten_here : words_at stride (put_mid (stride * row) (stride * row + stride - stride * row) xs ys) row ≡ ys
  rewritten_here = between-put_mid (stride * row) (stride * row + stride - stride * row) xs ys (stride * row + stride) (omega arith) (omega arith)

  pub rewrites : Rewritten stride row xs (put_mid (stride * row) (stride * row + stride - stride * row) xs ys)
  rewrites = record {
    len = length_put_mid (stride * row) (stride * row + stride - stride * row) xs ys (omega arith) (omega arith);
    others = λ r d. elim (cases_lt r row) as (λ _. words_at stride (put_mid (stride * row) (stride * row + stride - stride * row) xs ys) r ≡ words_at stride xs r) [
      | inl below ↦
          let apart : stride * r + stride ≤ stride * row = rows_apart stride r row below in
          between_is (put_mid (stride * row) (stride * row + stride - stride * row) xs ys) (stride * r) (stride * r + stride)
          ∙ ap (λ (zs : List ℕ). drop (stride * r) zs) (take-put_mid_below (stride * row) (stride * row + stride - stride * row) xs ys (stride * r + stride) apart (omega arith))
          ∙ sym (between_is xs (stride * r) (stride * r + stride))
      | inr above ↦
          let apart : stride * row + stride ≤ stride * r = rows_apart stride row r (omega arith) in
          ap (λ (zs : List ℕ). take (stride * r + stride - stride * r) zs) (drop-put_mid (stride * row) (stride * row + stride - stride * row) xs ys (stride * r) (omega arith) (omega arith) (omega arith))
    ];
  }

-- ---- word by word

-- a word of a row
pub word_at : (stride row k : ℕ) (words : List ℕ) → k < stride → get_or (words_at stride words row) k 0 ≡ get_or words (stride * row + k) 0
word_at stride row k words h = get_or-take {A = ℕ} (stride * row + stride - stride * row) (drop (stride * row) words) k 0 (omega arith) ∙ get_or-drop {A = ℕ} (stride * row) words k 0

-- a word of another row stands before this row or after it
beside : (stride row r k : ℕ) → r ≢ row → k < stride → (stride * r + k < stride * row) ⊎ (stride * row + stride ≤ stride * r + k)
beside stride row r k d h = elim (cases_lt r row) as (λ _. (stride * r + k < stride * row) ⊎ (stride * row + stride ≤ stride * r + k)) [
  | inl below ↦ let apart : stride * r + stride ≤ stride * row = rows_apart stride r row below in inl (omega arith)
  | inr above ↦ let apart : stride * row + stride ≤ stride * r = rows_apart stride row r (omega arith) in inr (omega arith)
]

-- the words before a row and after it are as before
pub rewrites_within : (stride row : ℕ) (xs ys : List ℕ) → length ys ≡ length xs → ((j : ℕ) → (j < stride * row) ⊎ (stride * row + stride ≤ j) → get_or ys j 0 ≡ get_or xs j 0) → Rewritten stride row xs ys
rewrites_within stride row xs ys long rest = record {
  len = long;
  others = λ r d. ext_get_or 0 (words_at stride ys r) (words_at stride xs r) (let e : length ys ≡ length xs = long in grind (arith, length-drop, length-take))
      (λ k l.
      let l' : k < length (words_at stride ys r) = l in
      let h : k < stride = grind (arith, length-drop, length-take) in
      word_at stride r k ys h ∙ rest (stride * r + k) (beside stride row r k d h) ∙ sym (word_at stride r k xs h));
}

-- one word more of a row is made of the old one, and of what becomes of that of a second row, which may be the same
module _ (part : ℕ → ℕ → ℕ) (stride row from i : ℕ) (old words : List ℕ) (i_in : i < stride) (within : stride * row + stride ≤ length words)
    (done : (k : ℕ) → k < i → get_or words (stride * row + k) 0 ≡ bit_or (get_or old (stride * row + k) 0) (part k (get_or old (stride * from + k) 0)))
    (rest : (j : ℕ) → (j < stride * row) ⊎ (stride * row + i ≤ j) → get_or words j 0 ≡ get_or old j 0) where
  abbrev made : ℕ
  made = bit_or (get_or words (stride * row + i) 0) (part i (get_or words (stride * from + i) 0))

  from_kept : get_or words (stride * from + i) 0 ≡ get_or old (stride * from + i) 0
  from_kept = rest (stride * from + i) (elim (cases_lt from row) as (λ _. (stride * from + i < stride * row) ⊎ (stride * row + i ≤ stride * from + i)) [
    | inl below ↦ let apart : stride * from + stride ≤ stride * row = rows_apart stride from row below in inl (omega arith)
    | inr above ↦ let late : stride * row ≤ stride * from = mul-le-mul_left stride above in inr (omega arith)
  ])

  pub done_more : (k : ℕ) → k < i + 1 → get_or (set words (stride * row + i) made) (stride * row + k) 0 ≡ bit_or (get_or old (stride * row + k) 0) (part k (get_or old (stride * from + k) 0))
  done_more k h = elim (cases_eq k i) as (λ _. get_or (set words (stride * row + i) made) (stride * row + k) 0 ≡ bit_or (get_or old (stride * row + k) 0) (part k (get_or old (stride * from + k) 0))) [
    | inl last ↦ rw last (get_or-set_same words (stride * row + i) made 0 (omega arith) ∙ rw (from_kept, rest (stride * row + i) (inr (omega arith))) refl)
    | inr d ↦ get_or-set_other words (stride * row + i) (stride * row + k) made 0 (λ e. d (omega (arith, e))) ∙ done k (omega arith)
  ]

  pub rest_more : (j : ℕ) → (j < stride * row) ⊎ (stride * row + (i + 1) ≤ j) → get_or (set words (stride * row + i) made) j 0 ≡ get_or old j 0
  rest_more j (inl before) = get_or-set_other words (stride * row + i) j made 0 (λ e. absurd (omega (arith, e))) ∙ rest j (inl before)
  rest_more j (inr after) = get_or-set_other words (stride * row + i) j made 0 (λ e. absurd (omega (arith, e))) ∙ rest j (inr (omega arith))

-- ---- words put at the end

-- a part of the words
part_at : (words : List ℕ) (at n k : ℕ) → k < at + n - at → get_or (take (at + n - at) (drop at words)) k 0 ≡ get_or words (at + k) 0
part_at words at n k h = get_or-take {A = ℕ} (at + n - at) (drop at words) k 0 h ∙ get_or-drop {A = ℕ} at words k 0

-- a part of words without the bits of others stands after the part before it
module _ (words less old new : List ℕ) (at n : ℕ) (within : at + n ≤ length words) (long : length old ≡ at) (adds : AddsWithout old (take (at + n - at) (drop at words)) (take (at + n - at) (drop at less)) new) where
  part_long : length (take (at + n - at) (drop at words)) ≡ n
  part_long = grind (arith, length-drop, length-take)

  pub more_long : length new ≡ at + n
  more_long = adds.len ∙ rw (part_long, long) refl

  pub more_without : ((k : ℕ) → k < at → get_or old k 0 ≡ minus_word (get_or words k 0) (get_or less k 0)) → (k : ℕ) → k < at + n → get_or new k 0 ≡ minus_word (get_or words k 0) (get_or less k 0)
  more_without done k h = elim (cases_lt k at) as (λ _. get_or new k 0 ≡ minus_word (get_or words k 0) (get_or less k 0)) [
    | inl before ↦ adds.before k (rw long before) ∙ done k before
    | inr after ↦
        let place : length old + (k - at) ≡ k = omega arith in
        let back : at + (k - at) ≡ k = omega arith in
        let added = rw place at (adds.added (k - at) (rw part_long (omega arith))) in
        added ∙ rw (part_at words at n (k - at) (omega arith), part_at less at n (k - at) (omega arith), back) refl
  ]
