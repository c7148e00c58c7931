-- Lists each of which has its own number alone: their links, which are the same forward and back, keep them.
use Rattle.std.proofs.Common.{◌≡◌, ℕ, zero, suc, ◌+◌, ◌-◌, ◌<◌, ◌≤◌, nat_lt, ltb, List, [], ◌∷◌, length, map, get_or, inl, inr, refl, sym, ap, arith, ◌∙◌, ◌⊎◌}
use Rattle.std.proofs.lemmas.Bool.{cases_lt, lt-ltb, le-ltb}
use Rattle.std.proofs.lemmas.List.FromFn.{length-map-range_with_len, get_or-map-range_with_len}
use Rattle.std.specs.List.{range_with_len}
use Rattle.node_list.specs.Lists.{list_at, times_in, times, is_listed}
use Rattle.node_list.specs.Rings.{AreRings, AreOwnLinks}
use Rattle.node_list.proofs.Counts.{times_in_cons_same, times_in_cons_other}
use Rattle.node_list.proofs.Writes.{Refilled, along_is, holds}

-- so many lists from a number on, each of which has its own number alone
abbrev pub own_from : ℕ → ℕ → List (List ℕ)
own_from first count = map (λ list. list ∷ []) (range_with_len first count)

-- there are so many
pub own_length : (count : ℕ) → length (own_from 0 count) ≡ count
own_length count = length-map-range_with_len (λ list. list ∷ []) 0 count

-- each has its own number alone
pub own_list : (count list : ℕ) → list < count → list_at (own_from 0 count) list ≡ list ∷ []
own_list count list h = get_or-map-range_with_len (λ s. s ∷ []) 0 count list list [] h (omega arith)

-- a number out of their range stands in none
times_out : (first count n : ℕ) → (n < first) ⊎ (first + count ≤ n) → times (own_from first count) n ≡ 0
times_out first zero n out = refl
times_out first (suc count) n out =
    let apart : first ≡ n → ⊥ = λ e. elim out [ inl low ↦ omega (arith, e, low) | inr high ↦ omega (arith, e, high) ] in
    let none = times_in_cons_other n first [] apart in
    let rest : times (own_from (first + 1) count) n ≡ 0 = times_out (first + 1) count n (elim out [ inl low ↦ inl (omega (arith, low)) | inr high ↦ inr (omega (arith, high)) ]) in
    omega (arith, none, rest)

-- and one in their range stands in one of them, once
times_own : (first count n : ℕ) → first ≤ n → n < first + count → times (own_from first count) n ≡ 1
times_own first zero n low high = absurd (omega (arith, low, high))
times_own first (suc count) n low high = elim (cases_lt first n) [
  | inl later ↦
      let none = times_in_cons_other n first [] (λ e. omega (arith, e, later)) in
      let rest : times (own_from (first + 1) count) n ≡ 1 = times_own (first + 1) count n (omega (arith, later)) (omega (arith, high)) in
      omega (arith, none, rest)
  | inr here ↦
      let is : first ≡ n = omega (arith, low, here) in
      let one : times_in n (first ∷ []) ≡ 1 = ap (λ k. times_in n (k ∷ [])) is ∙ times_in_cons_same n [] in
      let rest : times (own_from (first + 1) count) n ≡ 0 = times_out (first + 1) count n (inl (omega (arith, is))) in
      omega (arith, one, rest)
]

-- so the numbers of the lists are those that stand in one
pub own_listed : (count n : ℕ) → is_listed (own_from 0 count) n ≡ nat_lt n count
own_listed count n = elim (cases_lt n count) [
  | inl lt ↦ ap (ltb 0) (times_own 0 count n (omega arith) (omega (arith, lt))) ∙ sym (lt-ltb n count lt)
  | inr ge ↦ ap (ltb 0) (times_out 0 count n (inr (omega (arith, ge)))) ∙ sym (le-ltb n count ge)
]

-- ---- links

module _ (nodes count : ℕ) (links : List ℕ) (few : count ≤ nodes) (own : AreOwnLinks nodes count links) where
  abbrev link : ℕ → ℕ
  link k = get_or links k 0

  -- a link leads to a number from which the link leads back
  record LeadsBack (k : ℕ) : Type 0 where
    within : link k < nodes + count
    back : link (link k) ≡ k

  -- from the number of a list and from that of its ring
  leads_back : (k : ℕ) → k < nodes + count → LeadsBack k
  leads_back k h = elim (cases_lt k count) [
    | inl list ↦ record { within = omega (arith, own.rings k list, list); back = ap link (own.rings k list) ∙ own.lists k list }
    | inr past ↦ elim (cases_lt k nodes) [
      | inl low ↦ record { within = omega (arith, own.loose k past low, h); back = ap link (own.loose k past low) ∙ own.loose k past low }
      | inr ring ↦
          let list : ℕ = k - nodes in
          let whole : k ≡ nodes + list = omega (arith, ring) in
          let lt : list < count = omega (arith, whole, h) in
          let to : link k ≡ list = ap link whole ∙ own.lists list lt in
          record { within = omega (arith, to, lt); back = ap link to ∙ own.rings list lt ∙ sym whole }
    ]
  ]

  -- so the lists are rings
  own_rings : AreRings nodes (own_from 0 count) link link
  own_rings =
      let len = own_length count in
      let in_all : (k : ℕ) → k < nodes + length (own_from 0 count) → k < nodes + count = λ k h. omega (arith, h, len) in
      record {
        next_in = λ k h. let to = leads_back k (in_all k h) in omega (arith, to.within, len);
        prev_in = λ k h. let to = leads_back k (in_all k h) in omega (arith, to.within, len);
        back = λ k h. let to = leads_back k (in_all k h) in to.back;
        forth = λ k h. let to = leads_back k (in_all k h) in to.back;
        rings = λ list h.
            let lt : list < count = omega (arith, h, len) in
            rw (own_list count list lt) (own.lists list lt, own.rings list lt, (own.rings list lt, own.lists list lt, tt));
        within = λ n there. elim (cases_lt n count) [
          | inl lt ↦ omega (arith, lt, few)
          | inr ge ↦ let none = times_out 0 count n (inr (omega (arith, ge))) in absurd (omega (arith, there, none))
        ];
        once = λ n. elim (cases_lt n count) [
          | inl lt ↦ let one = times_own 0 count n (omega arith) (omega (arith, lt)) in omega (arith, one)
          | inr ge ↦ let none = times_out 0 count n (inr (omega (arith, ge))) in omega (arith, none)
        ];
        loose = λ n low none. elim (cases_lt n count) [
          | inl lt ↦ let one = times_own 0 count n (omega arith) (omega (arith, lt)) in absurd (omega (arith, one, none))
          | inr ge ↦ own.loose n ge low
        ];
      }

  -- and the links hold them
  pub own_refilled : Refilled nodes count (own_from 0 count) links links
  own_refilled = record {
    held = holds nodes count links links (own_from 0 count) own.len own.len (own_length count) own_rings;
    lists_are = along_is nodes count links links (own_from 0 count) own.len own.len (own_length count) own_rings;
  }
