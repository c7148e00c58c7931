-- What stands on a full path, counted: a graph above another has each pattern at least as often there.
use Rattle.std.proofs.Common.{◌≡◌, ◌+◌, ◌<◌, ◌≤◌, ℕ, zero, suc, Bool, true, if◌then◌else◌, List, [], ◌∷◌, ◌++◌, length, flat_map, inl, inr, refl, sym, ap, ◌∙◌, subst, arith}
use Rattle.std.proofs.lemmas.Bool.{cases_Bool, cases_lt}
use Rattle.path_images.specs.Ends.{IsEndOf, empty_or, end_length, end_rest, end_through, latest, latest_end, latest_here, latest_past, latest_so}
use Rattle.path_images.specs.Walks.{loose_stops}
use Rattle.path_images.specs.Images.{Ask, IsAbove, IsImage, Is, Sets}
use Rattle.path_images.specs.Order.{both_set, stands_later, writes_in_order}

-- how many of the list are so
abbrev pub how_many : (ℕ → Bool) → List ℕ → ℕ
how_many so [] = 0
how_many so (n ∷ l) = (if so n then 1 else 0) + how_many so l

-- no more in an end of it
pub fewer_in_end : (so : ℕ → Bool) (a b : List ℕ) → IsEndOf a b → how_many so a ≤ how_many so b
fewer_in_end so a b at = by at.0 b at.1
  where
    by : (f b : List ℕ) → b ≡ f ++ a → how_many so a ≤ how_many so b
    by [] b e = (let m = ap (how_many so) e in omega (arith, m))
    by (n ∷ f) b e = (let m = ap (how_many so) e in let r = by f (f ++ a) refl in omega (arith, m, r))

-- as many from the nearest on
pub from_latest : (so : ℕ → Bool) (l : List ℕ) → how_many so l ≡ how_many so (latest so l)
from_latest so [] = refl
from_latest so (n ∷ l) = elim (cases_Bool (so n)) [
  | inl is ↦ ap (how_many so) (sym (latest_here so n l is))
  | inr not ↦
      let one : how_many so (n ∷ l) ≡ 0 + how_many so l = ap (λ b. (if b then 1 else 0) + how_many so l) not in
      let r = from_latest so l in
      let e = ap (how_many so) (latest_past so n l not) in
      omega (arith, one, r, e)
]

-- a node that is so counts one more
pub one_more : (so : ℕ → Bool) (n : ℕ) (l : List ℕ) → so n ≡ true → how_many so (n ∷ l) ≡ 1 + how_many so l
one_more so n l is = ap (λ b. (if b then 1 else 0) + how_many so l) is

module _ (P : Type 0) (Walk : List ℕ → Type 0) (does : Ask P → ℕ → Bool) (firm : ℕ → Bool)
    (overZ : ℕ → List ℕ) (doesZ : Ask P → ℕ → Bool) (fromZ : List ℕ → List ℕ) (imageZ : IsImage P Walk does firm overZ doesZ fromZ)
    (overH : ℕ → List ℕ) (doesH : Ask P → ℕ → Bool) (fromH : List ℕ → List ℕ) (imageH : IsImage P Walk does firm overH doesH fromH)
    (above : IsAbove P Walk does firm overH doesH fromH overZ doesZ fromZ)
    (path : List ℕ) (last : ℕ) (before : List ℕ) (path_is : path ≡ last ∷ before) (is_firm : firm last ≡ true) (walk : Walk path)
    (p : P) (x : ℕ) (sets_z : (k : ℕ) → doesZ (Is p) k ≡ true → doesZ (Sets x) k ≡ true) (sets_h : (k : ℕ) → doesH (Is p) k ≡ true → doesH (Sets x) k ≡ true) where
  abbrev liftZ : List ℕ
  liftZ = flat_map overZ path

  abbrev liftH : List ℕ
  liftH = flat_map overH path

  abbrev inZ : ℕ → Bool
  inZ = doesZ (Is p)

  abbrev inH : ℕ → Bool
  inH = doesH (Is p)

  -- what stands in Z on the path stands in H on it
  record Here (k : ℕ) (rest : List ℕ) : Type 0 where
    node : ℕ
    under : List ℕ
    at : IsEndOf (node ∷ under) liftH
    same : fromH (node ∷ under) ≡ fromZ (k ∷ rest)
    is : doesH (Is p) node ≡ true

  here : (k : ℕ) (rest : List ℕ) → IsEndOf (k ∷ rest) liftZ → inZ k ≡ true → (Here k rest → ⊥) → ⊥
  here k rest at is go = above path k rest walk at (x, inr (sets_z k is)) (λ st.
      let none = loose_stops firm st.on path last before path_is is_firm st.loose in
      go (record { node = st.node; under = st.before; at = subst (λ l. IsEndOf (st.node ∷ st.before) (flat_map overH (l ++ path))) none st.at; same = st.same; is = st.alike (Is p) ∙ is }))

  counted : (n k : ℕ) (rest : List ℕ) (h : ℕ) (hrest : List ℕ) → length rest < n → IsEndOf (k ∷ rest) liftZ
      → IsEndOf (h ∷ hrest) liftH → inZ k ≡ true → inH h ≡ true → fromH (h ∷ hrest) ≡ fromZ (k ∷ rest)
      → (how_many inZ (k ∷ rest) ≤ how_many inH (h ∷ hrest) → ⊥) → ⊥
  counted zero k rest h hrest bound at at_h is is_h same go = absurd (omega (arith, bound))
  counted (suc n) k rest h hrest bound at at_h is is_h same go =
      let one = one_more inZ k rest is in
      let two = one_more inH h hrest is_h in
      let less = from_latest inZ rest in
      elim (empty_or (latest inZ rest)) [
        | inl none ↦ (let m = ap (how_many inZ) none in go (omega (arith, one, two, less, m)))
        | inr c ↦
            let under : IsEndOf (c.node ∷ c.rest) rest = subst (λ l. IsEndOf l rest) c.is (latest_end inZ rest) in
            let at_c = end_through (c.node ∷ c.rest) rest liftZ under (end_rest k rest liftZ at) in
            let is_c = latest_so inZ rest c.node c.rest c.is in
            let short = end_length (c.node ∷ c.rest) rest under in
            here c.node c.rest at_c is_c (λ v.
            let lt = writes_in_order P Walk does firm overZ doesZ fromZ imageZ path walk x c.node k c.rest rest at_c at (sets_z c.node is_c) (sets_z k is) under in
            let e1 = ap length same in
            let e2 = ap length v.same in
            let lower = stands_later P Walk does firm overH doesH fromH imageH path walk v.node h v.under hrest v.at at_h (both_set x (sets_h v.node v.is) (sets_h h is_h)) (omega (arith, lt, e1, e2)) in
            let fewer = fewer_in_end inH (v.node ∷ v.under) hrest lower in
            let m = ap (how_many inZ) c.is in
            counted n c.node c.rest v.node v.under (omega (arith, bound, short)) at_c v.at is_c v.is v.same (λ r. go (omega (arith, one, two, less, m, fewer, r))))
      ]

  -- so H has the pattern at least as often
  pub no_fewer : how_many inZ liftZ ≤ how_many inH liftH
  no_fewer = elim (cases_lt (how_many inH liftH) (how_many inZ liftZ)) [
    | inr le ↦ le
    | inl lt ↦
        let less = from_latest inZ liftZ in
        elim (empty_or (latest inZ liftZ)) [
          | inl none ↦ (let m = ap (how_many inZ) none in absurd (omega (arith, lt, less, m)))
          | inr c ↦
              let at_c : IsEndOf (c.node ∷ c.rest) liftZ = subst (λ l. IsEndOf l liftZ) c.is (latest_end inZ liftZ) in
              let is_c = latest_so inZ liftZ c.node c.rest c.is in
              let m = ap (how_many inZ) c.is in
              absurd (here c.node c.rest at_c is_c (λ v.
              let fewer = fewer_in_end inH (v.node ∷ v.under) liftH v.at in
              counted (suc (length c.rest)) c.node c.rest v.node v.under (omega arith) at_c v.at is_c v.is v.same (λ r. omega (arith, lt, less, m, fewer, r))))
        ]
  ]
