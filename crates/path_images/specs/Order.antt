-- Assignments of which one blocks the other keep their order: what stands in a graph that steps have made in some order
-- came from the source in this order. So no two come from one place.
use Rattle.std.proofs.Common.{◌≡◌, ◌<◌, ◌≤◌, ℕ, zero, suc, Bool, true, List, ◌∷◌, length, flat_map, inl, inr, sym, ap, ◌∙◌, subst, arith}
use Rattle.std.proofs.lemmas.Bool.{cases_lt}
use Rattle.path_images.specs.Ends.{IsEndOf, IsLonger, cons_first, empty_or, end_itself, end_length, end_rest, end_through, ends_one, latest, latest_end, latest_nearest, latest_so, longer_end, longer_rest, rest_of}
use Rattle.path_images.specs.Images.{Acts, Ask, IsImage, Reads, Sets}

-- one of the two assigns what the other reads or assigns
pub data Clash (P : Type 0) (one other : Ask P → Bool) : Type 0 where
  both_set : (y : ℕ) → one (Sets y) ≡ true → other (Sets y) ≡ true → Clash P one other
  set_read : (y : ℕ) → one (Sets y) ≡ true → other (Reads y) ≡ true → Clash P one other
  read_set : (y : ℕ) → one (Reads y) ≡ true → other (Sets y) ≡ true → Clash P one other

-- it does not matter which of the two is named first
pub clash_back : (P : Type 0) (one other : Ask P → Bool) → Clash P one other → Clash P other one
clash_back P one other (both_set y p q) = both_set y q p
clash_back P one other (set_read y p q) = read_set y q p
clash_back P one other (read_set y p q) = set_read y q p

-- what does the same clashes with the same
pub clash_alike : (P : Type 0) (one other one' other' : Ask P → Bool) → ((q : Ask P) → one' q ≡ one q)
    → ((q : Ask P) → other' q ≡ other q) → Clash P one other → Clash P one' other'
clash_alike P one other one' other' f g (both_set y p q) = both_set y (f (Sets y) ∙ p) (g (Sets y) ∙ q)
clash_alike P one other one' other' f g (set_read y p q) = set_read y (f (Sets y) ∙ p) (g (Reads y) ∙ q)
clash_alike P one other one' other' f g (read_set y p q) = read_set y (f (Reads y) ∙ p) (g (Sets y) ∙ q)

module _ (P : Type 0) (Walk : List ℕ → Type 0) (does : Ask P → ℕ → Bool) (firm : ℕ → Bool)
    (over : ℕ → List ℕ) (doesX : Ask P → ℕ → Bool) (from : List ℕ → List ℕ) (image : IsImage P Walk does firm over doesX from) where
  -- what clashes acts
  pub clash_acts : (k : ℕ) (other : Ask P → Bool) → Clash P (λ q. doesX q k) other → Acts P Walk does firm doesX k
  clash_acts k other (both_set y p q) = (y, inr p)
  clash_acts k other (set_read y p q) = (y, inr p)
  clash_acts k other (read_set y p q) = (y, inl p)

  module _ (path : List ℕ) (walk : Walk path) where
    abbrev At : ℕ → List ℕ → Type 0
    At k rest = IsEndOf (k ∷ rest) (flat_map over path)

    -- two assignments of a variable
    writes : (n : ℕ) (y k g : ℕ) (rest grest : List ℕ) → length (g ∷ grest) ≤ n → At k rest → At g grest
        → doesX (Sets y) k ≡ true → doesX (Sets y) g ≡ true → IsEndOf (k ∷ rest) grest
        → length (from (k ∷ rest)) < length (from (g ∷ grest))
    writes zero y k g rest grest bound at_k at_g set_k set_g under = absurd (omega (arith, bound))
    writes (suc n) y k g rest grest bound at_k at_g set_k set_g under =
        let o = image.origin path g grest walk at_g (y, inr set_g) in
        let w = latest (doesX (Sets y)) grest in
        let low = end_length (from w) (latest (does (Sets y)) (rest_of (from (g ∷ grest)))) (image.wrote path g grest y walk at_g set_g) in
        let lower = end_length (latest (does (Sets y)) (rest_of (from (g ∷ grest)))) (rest_of (from (g ∷ grest))) (latest_end (does (Sets y)) (rest_of (from (g ∷ grest)))) in
        let whole = ap length o.is in
        let part = ap (λ q. length (rest_of q)) o.is in
        let inside = latest_nearest (doesX (Sets y)) k rest grest under set_k in
        elim (empty_or w) [
          | inl none ↦ (let l = end_length (k ∷ rest) w inside in let m = ap length none in absurd (omega (arith, l, m)))
          | inr c ↦ elim (cases_lt (length (k ∷ rest)) (length w)) [
            | inl less ↦
                let grest_bound = end_length w grest (latest_end (doesX (Sets y)) grest) in
                let m = ap length c.is in
                let at_c : At c.node c.rest = subst (λ l. IsEndOf l (flat_map over path)) c.is (end_through w grest (flat_map over path) (latest_end (doesX (Sets y)) grest) (end_rest g grest (flat_map over path) at_g)) in
                let longer : IsLonger (c.node ∷ c.rest) (k ∷ rest) = longer_end (c.node ∷ c.rest) (k ∷ rest) (c.node ∷ c.rest) (end_itself (c.node ∷ c.rest)) (subst (IsEndOf (k ∷ rest)) c.is inside) (omega (arith, less, m)) in
                let deeper = writes n y k c.node rest c.rest (omega (arith, bound, grest_bound, m)) at_k at_c set_k (latest_so (doesX (Sets y)) grest c.node c.rest c.is) (longer_rest c.node c.rest (k ∷ rest) longer) in
                let f = ap (λ l. length (from l)) c.is in
                omega (arith, deeper, f, low, lower, whole, part)
            | inr ge ↦
                let l = end_length (k ∷ rest) w inside in
                let one : k ∷ rest ≡ w = ends_one (k ∷ rest) w w inside (end_itself w) (omega (arith, l, ge)) in
                let f = ap (λ l. length (from l)) one in
                omega (arith, f, low, lower, whole, part)
          ]
        ]

    pub writes_in_order : (y k g : ℕ) (rest grest : List ℕ) → At k rest → At g grest → doesX (Sets y) k ≡ true
        → doesX (Sets y) g ≡ true → IsEndOf (k ∷ rest) grest → length (from (k ∷ rest)) < length (from (g ∷ grest))
    writes_in_order y k g rest grest = writes (length (g ∷ grest)) y k g rest grest (omega arith)

    -- what is read later
    reads_in_order : (y k g : ℕ) (rest grest : List ℕ) → At k rest → At g grest → doesX (Sets y) k ≡ true
        → doesX (Reads y) g ≡ true → IsEndOf (k ∷ rest) grest → length (from (k ∷ rest)) < length (from (g ∷ grest))
    reads_in_order y k g rest grest at_k at_g set_k reads_g under =
        let o = image.origin path g grest walk at_g (y, inl reads_g) in
        let w = latest (doesX (Sets y)) grest in
        let low = ap length (image.read path g grest y walk at_g reads_g) in
        let lower = end_length (latest (does (Sets y)) (rest_of (from (g ∷ grest)))) (rest_of (from (g ∷ grest))) (latest_end (does (Sets y)) (rest_of (from (g ∷ grest)))) in
        let whole = ap length o.is in
        let part = ap (λ q. length (rest_of q)) o.is in
        let inside = latest_nearest (doesX (Sets y)) k rest grest under set_k in
        elim (empty_or w) [
          | inl none ↦ (let l = end_length (k ∷ rest) w inside in let m = ap length none in absurd (omega (arith, l, m)))
          | inr c ↦ elim (cases_lt (length (k ∷ rest)) (length w)) [
            | inl less ↦
                let m = ap length c.is in
                let at_c : At c.node c.rest = subst (λ l. IsEndOf l (flat_map over path)) c.is (end_through w grest (flat_map over path) (latest_end (doesX (Sets y)) grest) (end_rest g grest (flat_map over path) at_g)) in
                let longer : IsLonger (c.node ∷ c.rest) (k ∷ rest) = longer_end (c.node ∷ c.rest) (k ∷ rest) (c.node ∷ c.rest) (end_itself (c.node ∷ c.rest)) (subst (IsEndOf (k ∷ rest)) c.is inside) (omega (arith, less, m)) in
                let deeper = writes_in_order y k c.node rest c.rest at_k at_c set_k (latest_so (doesX (Sets y)) grest c.node c.rest c.is) (longer_rest c.node c.rest (k ∷ rest) longer) in
                let f = ap (λ l. length (from l)) c.is in
                omega (arith, deeper, f, low, lower, whole, part)
            | inr ge ↦
                let l = end_length (k ∷ rest) w inside in
                let one : k ∷ rest ≡ w = ends_one (k ∷ rest) w w inside (end_itself w) (omega (arith, l, ge)) in
                let f = ap (λ l. length (from l)) one in
                omega (arith, f, low, lower, whole, part)
          ]
        ]

    -- what is assigned after it was read
    sets_in_order : (y k g : ℕ) (rest grest : List ℕ) → At k rest → At g grest → doesX (Reads y) k ≡ true
        → doesX (Sets y) g ≡ true → IsEndOf (k ∷ rest) grest → length (from (k ∷ rest)) < length (from (g ∷ grest))
    sets_in_order y k g rest grest at_k at_g reads_k set_g under =
        let o = image.origin path k rest walk at_k (y, inl reads_k) in
        let og = image.origin path g grest walk at_g (y, inr set_g) in
        let whole = ap length o.is in
        elim (cases_lt (length (from (k ∷ rest))) (length (from (g ∷ grest)))) [
          | inl lt ↦ lt
          | inr ge ↦ elim (cases_lt (length (from (g ∷ grest))) (length (from (k ∷ rest)))) [
            | inl less ↦
                let longer = longer_end (from (k ∷ rest)) (from (g ∷ grest)) path o.at og.at less in
                let in_rest : IsEndOf (og.node ∷ og.before) (rest_of (from (k ∷ rest))) = subst (λ l. IsEndOf l (rest_of (from (k ∷ rest)))) og.is (longer.front, ap rest_of longer.is) in
                let sets_g : does (Sets y) og.node ≡ true = sym (og.alike (Sets y)) ∙ set_g in
                let near = end_length (og.node ∷ og.before) (latest (does (Sets y)) (rest_of (from (k ∷ rest)))) (latest_nearest (does (Sets y)) og.node og.before (rest_of (from (k ∷ rest))) in_rest sets_g) in
                let w = latest (doesX (Sets y)) rest in
                let came = ap length (image.read path k rest y walk at_k reads_k) in
                let og_length = ap length og.is in
                elim (empty_or w) [
                  | inl none ↦ (let f = ap (λ l. length (from l)) none in let e = ap length image.none in absurd (omega (arith, near, came, f, e)))
                  | inr c ↦
                      let at_c : At c.node c.rest = subst (λ l. IsEndOf l (flat_map over path)) c.is (end_through w rest (flat_map over path) (latest_end (doesX (Sets y)) rest) (end_rest k rest (flat_map over path) at_k)) in
                      let under_c : IsEndOf (c.node ∷ c.rest) grest = subst (λ l. IsEndOf l grest) c.is (end_through w rest grest (latest_end (doesX (Sets y)) rest) (end_rest k rest grest under)) in
                      let deeper = writes_in_order y c.node g c.rest grest at_c at_g (latest_so (doesX (Sets y)) rest c.node c.rest c.is) set_g under_c in
                      let f = ap (λ l. length (from l)) c.is in
                      absurd (omega (arith, near, came, deeper, f, og_length))
                ]
            | inr le ↦
                let one : from (k ∷ rest) ≡ from (g ∷ grest) = ends_one (from (k ∷ rest)) (from (g ∷ grest)) path o.at og.at (omega (arith, ge, le)) in
                let node = cons_first o.node og.node o.before og.before (sym o.is ∙ one ∙ og.is) in
                let set_k : doesX (Sets y) k ≡ true = o.alike (Sets y) ∙ ap (does (Sets y)) node ∙ sym (og.alike (Sets y)) ∙ set_g in
                writes_in_order y k g rest grest at_k at_g set_k set_g under
          ]
        ]

    -- what clashes and stands later came from later
    pub in_order : (k g : ℕ) (rest grest : List ℕ) → At k rest → At g grest
        → Clash P (λ q. doesX q k) (λ q. doesX q g) → IsEndOf (k ∷ rest) grest
        → length (from (k ∷ rest)) < length (from (g ∷ grest))
    in_order k g rest grest at_k at_g (both_set y p q) under = writes_in_order y k g rest grest at_k at_g p q under
    in_order k g rest grest at_k at_g (set_read y p q) under = reads_in_order y k g rest grest at_k at_g p q under
    in_order k g rest grest at_k at_g (read_set y p q) under = sets_in_order y k g rest grest at_k at_g p q under

    -- and what came from later stands later
    pub stands_later : (k g : ℕ) (rest grest : List ℕ) → At k rest → At g grest
        → Clash P (λ q. doesX q k) (λ q. doesX q g) → length (from (k ∷ rest)) < length (from (g ∷ grest))
        → IsEndOf (k ∷ rest) grest
    stands_later k g rest grest at_k at_g clash lt = elim (cases_lt (length (k ∷ rest)) (length (g ∷ grest))) [
      | inl less ↦ longer_rest g grest (k ∷ rest) (longer_end (g ∷ grest) (k ∷ rest) (flat_map over path) at_g at_k less)
      | inr ge ↦ elim (cases_lt (length (g ∷ grest)) (length (k ∷ rest))) [
        | inl more ↦
            let under = longer_rest k rest (g ∷ grest) (longer_end (k ∷ rest) (g ∷ grest) (flat_map over path) at_k at_g more) in
            let other = in_order g k grest rest at_g at_k (clash_back P (λ q. doesX q k) (λ q. doesX q g) clash) under in
            absurd (omega (arith, lt, other))
        | inr le ↦
            let one = ap (λ l. length (from l)) (ends_one (k ∷ rest) (g ∷ grest) (flat_map over path) at_k at_g (omega (arith, ge, le))) in
            absurd (omega (arith, one, lt))
      ]
    ]

    -- no two assignments of a variable come from one place
    pub one_place : (y k g : ℕ) (rest grest : List ℕ) → At k rest → At g grest → doesX (Sets y) k ≡ true
        → doesX (Sets y) g ≡ true → from (k ∷ rest) ≡ from (g ∷ grest) → k ∷ rest ≡ g ∷ grest
    one_place y k g rest grest at_k at_g set_k set_g same =
        let l = ap length same in
        elim (cases_lt (length (k ∷ rest)) (length (g ∷ grest))) [
          | inl less ↦
              let lt = writes_in_order y k g rest grest at_k at_g set_k set_g (longer_rest g grest (k ∷ rest) (longer_end (g ∷ grest) (k ∷ rest) (flat_map over path) at_g at_k less)) in
              absurd (omega (arith, l, lt))
          | inr ge ↦ elim (cases_lt (length (g ∷ grest)) (length (k ∷ rest))) [
            | inl more ↦
                let lt = writes_in_order y g k grest rest at_g at_k set_g set_k (longer_rest k rest (g ∷ grest) (longer_end (k ∷ rest) (g ∷ grest) (flat_map over path) at_k at_g more)) in
                absurd (omega (arith, l, lt))
            | inr le ↦ ends_one (k ∷ rest) (g ∷ grest) (flat_map over path) at_k at_g (omega (arith, ge, le))
          ]
        ]
