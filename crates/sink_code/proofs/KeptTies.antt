-- A stable sort keeps the order of items with one key: what passes a test stands in a list as it does in the list of all
-- that pass it.
use Rattle.std.proofs.Common.{◌≡◌, ℕ, zero, suc, ◌<◌, Bool, true, false, not, ◌&&◌, cond, List, [], ◌∷◌, slice_get, Some, refl, sym, ap, ◌∙◌, subst, true≢false, arith}
use Rattle.std.proofs.lemmas.Option.{same_Some}
use Rattle.std.specs.Cmp.{nat_cmp_is}
use Rattle.std.specs.List.{filter}
use Rattle.std.specs.List.Sorted.{IsStableByKey, ties}
use Rattle.std.specs.Ordering.{is_lt, nat_cmp}
use Rattle.std.specs.declared.cmp.Ordering.TheVariants.{Equal}

-- p stands at some place of the list, and q at a later one
abbrev pub StandsBefore : {X : Type 0} → List X → X → X → Type 0
StandsBefore l p q = (i j : ℕ) × (i < j) × (slice_get l i ≡ Some p) × (slice_get l j ≡ Some q)

module _ {X : Type 0} (t : X → Bool) (q : X) where
  -- q stands in the list
  abbrev Stands : List X → Type 0
  Stands l = (k : ℕ) × (slice_get l k ≡ Some q)

  -- what stands in a list stands in a longer one
  one_more : (x : X) (l : List X) (b : Bool) → Stands l → Stands (cond b (x ∷ l) l)
  one_more x l true w = (suc w.0, w.1)
  one_more x l false w = w

  -- what passes the test is among those that do
  among_kept : t q ≡ true → (xs : List X) (k : ℕ) → slice_get xs k ≡ Some q → Stands (filter t xs)
  among_kept passes [] k there = cc
  among_kept passes (x ∷ xs) zero there = by (t x) (ap t (same_Some x q there) ∙ passes)
    where
      by : (b : Bool) → b ≡ true → Stands (cond b (x ∷ filter t xs) (filter t xs))
      by true e = (0, there)
      by false e = absurd (true≢false (sym e))
  among_kept passes (x ∷ xs) (suc k) there = one_more x (filter t xs) (t x) (among_kept passes xs k there)

  -- and those stand in the list
  among_all : (xs : List X) (k : ℕ) → slice_get (filter t xs) k ≡ Some q → Stands xs
  among_all [] k there = cc
  among_all (x ∷ xs) k there = by (among_all xs) (t x) k there
    where
      by : ((i : ℕ) → slice_get (filter t xs) i ≡ Some q → Stands xs) → (b : Bool) (i : ℕ) → slice_get (cond b (x ∷ filter t xs) (filter t xs)) i ≡ Some q → Stands (x ∷ xs)
      by past true zero e = (0, e)
      by past true (suc i) e = let w = past i e in (suc w.0, w.1)
      by past false i e = let w = past i e in (suc w.0, w.1)

  module _ (p : X) where
    -- two of a list stand in a longer one
    two_more : (x : X) (l : List X) (b : Bool) → StandsBefore l p q → StandsBefore (cond b (x ∷ l) l) p q
    two_more x l true w = (suc w.0, suc w.1, omega (arith, w.2), w.3, w.4)
    two_more x l false w = w

    -- two that pass the test stand so among those that do
    before_kept : t p ≡ true → t q ≡ true → (xs : List X) (i j : ℕ) → i < j → slice_get xs i ≡ Some p → slice_get xs j ≡ Some q → StandsBefore (filter t xs) p q
    before_kept first second [] i j less at_i at_j = cc
    before_kept first second (x ∷ xs) zero zero less at_i at_j = absurd (omega (arith, less))
    before_kept first second (x ∷ xs) zero (suc j) less at_i at_j = by (t x) (ap t (same_Some x p at_i) ∙ first) (among_kept second xs j at_j)
      where
        by : (b : Bool) → b ≡ true → Stands (filter t xs) → StandsBefore (cond b (x ∷ filter t xs) (filter t xs)) p q
        by true e w = (0, suc w.0, omega arith, at_i, w.1)
        by false e w = absurd (true≢false (sym e))
    before_kept first second (x ∷ xs) (suc i) zero less at_i at_j = absurd (omega (arith, less))
    before_kept first second (x ∷ xs) (suc i) (suc j) less at_i at_j = two_more x (filter t xs) (t x) (before_kept first second xs i j (omega (arith, less)) at_i at_j)

    -- and those stand so in the list
    before_all : (xs : List X) (i j : ℕ) → i < j → slice_get (filter t xs) i ≡ Some p → slice_get (filter t xs) j ≡ Some q → StandsBefore xs p q
    before_all [] i j less at_i at_j = cc
    before_all (x ∷ xs) i j less at_i at_j = by (before_all xs) (t x) i j less at_i at_j
      where
        by : ((k l : ℕ) → k < l → slice_get (filter t xs) k ≡ Some p → slice_get (filter t xs) l ≡ Some q → StandsBefore xs p q) → (b : Bool) (k l : ℕ) → k < l → slice_get (cond b (x ∷ filter t xs) (filter t xs)) k ≡ Some p → slice_get (cond b (x ∷ filter t xs) (filter t xs)) l ≡ Some q → StandsBefore (x ∷ xs) p q
        by past true zero zero lt e f = absurd (omega (arith, lt))
        by past true zero (suc l) lt e f = let w = among_all xs l f in (0, suc w.0, omega arith, e, w.1)
        by past true (suc k) zero lt e f = absurd (omega (arith, lt))
        by past true (suc k) (suc l) lt e f = let w = past k l (omega (arith, lt)) e f in (suc w.0, suc w.1, omega (arith, w.2), w.3, w.4)
        by past false k l lt e f = let w = past k l lt e f in (suc w.0, suc w.1, omega (arith, w.2), w.3, w.4)

-- ---- of items with a key

-- no number is below an equal one
not_below : (x y : ℕ) → x ≡ y → is_lt (nat_cmp x y) ≡ false
not_below x y same = sym (ap is_lt (nat_cmp_is x y Equal same))

module _ {X : Type 0} (key : X → ℕ) where
  -- items with one key tie
  tied : (p q : X) → key p ≡ key q → ties (λ x y. is_lt (nat_cmp (key x) (key y))) p q ≡ true
  tied p q same = ap (λ b. not b && not (is_lt (nat_cmp (key q) (key p)))) (not_below (key p) (key q) same) ∙ ap not (not_below (key q) (key p) (sym same))

  -- so in a list that is sorted by the key, and stably, they stand as they stood before
  pub ties_kept : (old new : List X) → IsStableByKey key nat_cmp old new → (i j : ℕ) (p q : X) → i < j → slice_get new i ≡ Some p → slice_get new j ≡ Some q → key p ≡ key q → StandsBefore old p q
  ties_kept old new stable i j p q less at_i at_j same =
      let test : X → Bool = ties (λ x y. is_lt (nat_cmp (key x) (key y))) p in
      let kept = subst (λ l. StandsBefore l p q) (stable p) (before_kept test q p (tied p p refl) (tied p q same) new i j less at_i at_j) in
      before_all test q p old kept.0 kept.1 kept.2 kept.3 kept.4
