-- The pass over the words that are marked: what it has done up to a word, and what that says of rows.
use Rattle.std.proofs.Common.{◌≡◌, ◌≢◌, ◌↔◌, ℕ, ◌+◌, ◌*◌, ◌/◌, ◌%◌, ◌^◌, ◌<◌, ◌≤◌, Bool, true, false, not, ◌||◌, ◌&&◌, eqb, List, length, get_or, set, refl, sym, ap, inl, inr, arith, ◌∙◌, bit_or, get_or-set_same, get_or-set_other}
use Rattle.std.proofs.lemmas.Bool.{cases_Bool, cases_eq, cases_lt, or_parts}
use Rattle.std.proofs.lemmas.List.{get_or_default, get_or_past, length-set}
use Rattle.std.proofs.lemmas.Nat.Bits.{bit_at-lt, same_from_bits_below}
use Rattle.std.specs.Int.{bit_at}
use Rattle.bit_rows.specs.Marks.{AreMarked, AreMarkedWords, AreSettled, AreSettledWords}
use Rattle.bit_rows.specs.Words.{bit_of, bits_of, minus_word, FitsWords}
use Rattle.bit_rows.proofs.Views.{get_or_bits_of, length_bits_of, minus_bitwise, or_bitwise, same_test}
use Rattle.bit_rows.proofs.NextBits.{bit_in_word}
use Rattle.bit_rows.proofs.Ops.{as_wide, row_len}

-- ---- the words up to one

-- the words before this one are done, and the others are as they were
pub record MarkedSoFar (from less init : List ℕ) (before : List Bool) (into : List ℕ) (after : List Bool) (at : ℕ) (changed : Bool) : Type 0 where
  pub len : length into ≡ length init
  pub marks_len : length after ≡ length before
  pub done : (k : ℕ) → k < at → k < length init → get_or into k 0 ≡ bit_or (get_or init k 0) (minus_word (get_or from k 0) (get_or less k 0))
  pub rest : (k : ℕ) → at ≤ k → get_or into k 0 ≡ get_or init k 0
  pub same : changed ≡ false → (k : ℕ) → get_or into k 0 ≡ get_or init k 0
  pub other : changed ≡ true → (k : ℕ) × (get_or into k 0 ≢ get_or init k 0)
  pub marked : (k : ℕ) → get_or after k false ≡ false → (get_or before k false ≡ false) × (get_or into k 0 ≡ get_or init k 0)

module _ (from less init : List ℕ) (before marks : List Bool) (settled : AreSettledWords marks from less init) (long : length marks ≡ length init) (before_long : length before ≡ length init) where
  -- nothing is done
  pub marked_start : MarkedSoFar from less init before init before 0 false
  marked_start = record {
    len = refl;
    marks_len = refl;
    done = λ k h l. absurd (let h' : k < 0 = h in omega arith);
    rest = λ k h. refl;
    same = λ e k. refl;
    other = λ e. absurd (cc);
    marked = λ k off. (off, refl);
  }

  -- what is not marked from this word on is done
  unmarked_done : (into : List ℕ) (after : List Bool) (at to : ℕ) (changed : Bool) → MarkedSoFar from less init before into after at changed → ((k : ℕ) → at ≤ k → k < to → get_or marks k false ≡ false)
      → (k : ℕ) → k < to → k < length init → get_or into k 0 ≡ bit_or (get_or init k 0) (minus_word (get_or from k 0) (get_or less k 0))
  unmarked_done into after at to changed s none k h l = elim (cases_lt k at) as (λ _. get_or into k 0 ≡ bit_or (get_or init k 0) (minus_word (get_or from k 0) (get_or less k 0))) [
    | inl early ↦ s.done k early l
    | inr late ↦ s.rest k late ∙ sym (settled.each k l (none k late h))
  ]

  -- all is done where no mark is left
  pub marked_end : (into : List ℕ) (after : List Bool) (at : ℕ) (changed : Bool) → MarkedSoFar from less init before into after at changed → ((k : ℕ) → at ≤ k → k < length marks → get_or marks k false ≡ false)
      → (k : ℕ) → k < length init → get_or into k 0 ≡ bit_or (get_or init k 0) (minus_word (get_or from k 0) (get_or less k 0))
  marked_end into after at changed s none k l = unmarked_done into after at (length marks) changed s none k (rw long l) l

  -- the next word that is marked is done
  module _ (into into' : List ℕ) (after after' : List Bool) (at word : ℕ) (changed rises : Bool) (s : MarkedSoFar from less init before into after at changed) (late : at ≤ word) (within : word < length marks)
      (none : (k : ℕ) → at ≤ k → k < word → get_or marks k false ≡ false)
      (into_is : into' ≡ set into word (bit_or (get_or into word 0) (minus_word (get_or from word 0) (get_or less word 0)))) (rise : (rises ≡ false) ↔ (get_or into' word 0 ≡ get_or into word 0))
      (after_is : after' ≡ set after word (get_or after word false || rises)) where
    old_here : get_or into word 0 ≡ get_or init word 0
    old_here = s.rest word late

    here : get_or into' word 0 ≡ bit_or (get_or init word 0) (minus_word (get_or from word 0) (get_or less word 0))
    here = rw into_is (get_or-set_same into word _ 0 (omega (arith, s.len, long)) ∙ ap (λ x. bit_or x (minus_word (get_or from word 0) (get_or less word 0))) old_here)

    away : (k : ℕ) → k ≢ word → get_or into' k 0 ≡ get_or into k 0
    away k d = rw into_is (get_or-set_other into word k _ 0 d)

    marked_here : get_or after' word false ≡ (get_or after word false || rises)
    marked_here = rw after_is (get_or-set_same after word _ false (omega (arith, s.marks_len, before_long, long)))

    marked_away : (k : ℕ) → k ≢ word → get_or after' k false ≡ get_or after k false
    marked_away k d = rw after_is (get_or-set_other after word k _ false d)

    -- a word that did not change is as it was first
    same_here : rises ≡ false → get_or into' word 0 ≡ get_or init word 0
    same_here off = rise.0 off ∙ old_here

    step_done : (k : ℕ) → k < word + 1 → k < length init → get_or into' k 0 ≡ bit_or (get_or init k 0) (minus_word (get_or from k 0) (get_or less k 0))
    step_done k h l = elim (cases_eq k word) as (λ _. get_or into' k 0 ≡ bit_or (get_or init k 0) (minus_word (get_or from k 0) (get_or less k 0))) [
      | inl e ↦ rw e here
      | inr d ↦ away k d ∙ unmarked_done into after at word changed s none k (let d' : k ≢ word = d in let h' : k < word + 1 = h in omega arith) l
    ]

    step_same : (changed || rises) ≡ false → (k : ℕ) → get_or into' k 0 ≡ get_or init k 0
    step_same off k =
        let parts = or_parts changed rises off in
        elim (cases_eq k word) as (λ _. get_or into' k 0 ≡ get_or init k 0) [
          | inl e ↦ rw e (same_here parts.1)
          | inr d ↦ away k d ∙ s.same parts.0 k
        ]

    step_other : (changed || rises) ≡ true → (k : ℕ) × (get_or into' k 0 ≢ get_or init k 0)
    step_other on = elim (cases_Bool changed) as (λ _. (k : ℕ) × (get_or into' k 0 ≢ get_or init k 0)) [
      | inl was ↦
          let place = s.other was in
          let d : place.0 ≢ word = λ e. place.1 (rw e old_here) in
          (place.0, λ e. place.1 (sym (away place.0 d) ∙ e))
      | inr not_yet ↦
          let now : rises ≡ true = rw not_yet at on in
          (word, λ e. let off : rises ≡ false = rise.1 (e ∙ sym old_here) in let bad : true ≡ false = sym now ∙ off in absurd (cc))
    ]

    step_marked : (k : ℕ) → get_or after' k false ≡ false → (get_or before k false ≡ false) × (get_or into' k 0 ≡ get_or init k 0)
    step_marked k off = elim (cases_eq k word) as (λ _. (get_or before k false ≡ false) × (get_or into' k 0 ≡ get_or init k 0)) [
      | inl e ↦
          let parts = or_parts (get_or after word false) rises (sym marked_here ∙ (rw e at off)) in
          rw e ((s.marked word parts.0).0, same_here parts.1)
      | inr d ↦ let was = s.marked k (sym (marked_away k d) ∙ off) in (was.0, away k d ∙ was.1)
    ]

    pub marked_step : MarkedSoFar from less init before into' after' (word + 1) (changed || rises)
    marked_step = record {
      len = rw into_is (length-set into word _ ∙ s.len);
      marks_len = rw after_is (length-set after word _ ∙ s.marks_len);
      done = step_done;
      rest = λ k h. away k (λ e. let e' : k ≡ word = e in let h' : word + 1 ≤ k = h in omega arith) ∙ s.rest k (let h' : word + 1 ≤ k = h in omega arith);
      same = step_same;
      other = step_other;
      marked = step_marked;
    }

-- ---- rows

-- what is there already changes nothing
absorbed : (x y w : Bool) → (y ≡ true → w ≡ false → x ≡ true) → (x || (y && not w)) ≡ x
absorbed true y w h = refl
absorbed false true true h = refl
absorbed false true false h = sym (h refl refl)
absorbed false false w h = refl

module _ (n : ℕ) (xs ys ws : List ℕ) (fx : FitsWords n xs) (fy : FitsWords n ys) (fw : FitsWords n ws) (marks : List Bool) (long : length marks ≡ length xs)
    (settled : AreSettled marks (bits_of n ys) (bits_of n ws) (bits_of n xs)) where
  -- bits of a word that is not marked
  settled_bit : (k i : ℕ) → k < length xs → i < 64 → get_or marks k false ≡ false → bit_of ys (64 * k + i) ≡ true → bit_of ws (64 * k + i) ≡ false → bit_of xs (64 * k + i) ≡ true
  settled_bit k i h l off on bar = elim (cases_lt (64 * k + i) n) as (λ _. bit_of xs (64 * k + i) ≡ true) [
    | inl low ↦
        let word : (64 * k + i) / 64 ≡ k = omega arith in
        sym (get_or_bits_of n xs (64 * k + i) low)
        ∙ settled.each (64 * k + i) (rw length_bits_of low) (rw word (get_or_default marks k true false (rw long h) ∙ off))
        (get_or_bits_of n ys (64 * k + i) low ∙ on) (get_or_bits_of n ws (64 * k + i) low ∙ bar)
    | inr past ↦
        let off_end : bit_of ys (64 * k + i) ≡ false = fy.unused (64 * k + i) past (omega (arith, fy.len, fx.len)) in
        let bad : true ≡ false = sym on ∙ off_end in absurd (cc)
  ]

  -- so the others bring it nothing
  pub settled_words : AreSettledWords marks ys ws xs
  settled_words = record {
    each = λ k h off.
        let x = get_or xs k 0 in
        let y = get_or ys k 0 in
        let w = get_or ws k 0 in
        let less_small : minus_word y w < 2 ^ 64 = minus_bitwise.small y w (fy.small k) (fw.small k) in
        same_from_bits_below 64 (bit_or x (minus_word y w)) x (or_bitwise.small x (minus_word y w) (fx.small k) less_small) (fx.small k)
        (λ i l. same_test _ _ (bit_at-lt _ _) (bit_at-lt _ _)
        (or_bitwise.at x (minus_word y w) i less_small l
        ∙ ap (λ b. eqb (bit_at x i) 1 || b) (minus_bitwise.at y w i (fw.small k) l)
        ∙ absorbed (eqb (bit_at x i) 1) (eqb (bit_at y i) 1) (eqb (bit_at w i) 1)
        (λ on bar. sym (bit_in_word xs k i l) ∙ settled_bit k i h l off (bit_in_word ys k i l ∙ on) (bit_in_word ws k i l ∙ bar))));
  }

-- words that changed only where they are marked hold such a row
pub marked_row : (n : ℕ) (xs zs : List ℕ) (before after : List Bool) → length before ≡ length xs → length after ≡ length xs → length xs ≡ (n + 63) / 64
    → AreMarkedWords before xs after zs → AreMarked before (bits_of n xs) after (bits_of n zs)
unfolding bit_of
marked_row n xs zs before after before_long after_long len words = record {
  each = λ b off.
      let word : b / 64 < length xs = elim (cases_lt (b / 64) (length xs)) as (λ _. b / 64 < length xs) [
        | inl within ↦ within
        | inr past ↦ let on : get_or after (b / 64) true ≡ true = get_or_past after (b / 64) true (rw after_long past) in let bad : true ≡ false = sym on ∙ off in absurd (cc)
      ] in
      let was = words.each (b / 64) (get_or_default after (b / 64) false true (rw after_long word) ∙ off) in (
        get_or_default before (b / 64) true false (rw before_long word) ∙ was.0,
        elim (cases_lt b n) as (λ _. get_or (bits_of n zs) b false ≡ get_or (bits_of n xs) b false) [
          | inl low ↦ get_or_bits_of n zs b low ∙ ap (λ x. eqb (bit_at x (b % 64)) 1) was.1 ∙ sym (get_or_bits_of n xs b low)
          | inr past ↦ get_or_past (bits_of n zs) b false (rw length_bits_of past) ∙ sym (get_or_past (bits_of n xs) b false (rw length_bits_of past))
        ],
      );
}

-- ---- the same of a row and the words that hold it

module _ (n : ℕ) (xs : List ℕ) (row : List Bool) (fx : FitsWords n xs) (view : bits_of n xs ≡ row) where
  -- a mark for each word
  pub marks_long : (marks : List Bool) → length marks ≡ (length row + 63) / 64 → length marks ≡ length xs
  marks_long marks long = long ∙ ap (λ k. (k + 63) / 64) (row_len n xs row view) ∙ sym fx.len

  -- what two others bring to words that are not marked
  pub settled_from : (m : ℕ) (ys : List ℕ) (other : List Bool) → FitsWords m ys → bits_of m ys ≡ other → length row ≡ length other → (m2 : ℕ) (ws : List ℕ) (less : List Bool) → FitsWords m2 ws → bits_of m2 ws ≡ less → length row ≡ length less
      → (marks : List Bool) → length marks ≡ (length row + 63) / 64 → AreSettled marks other less row → AreSettledWords marks ys ws xs
  settled_from m ys other fy view' long m2 ws less fw view2 long2 marks marked settled =
      let held = as_wide n xs row fx view m ys other fy view' long in
      let held2 = as_wide n xs row fx view m2 ws less fw view2 long2 in
      settled_words n xs ys ws fx held.fits held2.fits marks (marks_long marks marked) (rw (held.view, held2.view, view) settled)

  -- and what changed in words that are
  pub marked_from : (zs : List ℕ) (before after : List Bool) → length before ≡ (length row + 63) / 64 → length after ≡ length before → AreMarkedWords before xs after zs → AreMarked before row after (bits_of n zs)
  marked_from zs before after long same words = rw (← view) (marked_row n xs zs before after (marks_long before long) (same ∙ marks_long before long) fx.len words)
