-- The facts are a lattice. Cited by the ghost members of `Fact`.
use Rattle.std.proofs.Common.{◌≡◌, ◌≢◌, ℕ, ◌<◌, ◌≤◌, ◌⊎◌, inl, inr, Bool, true, false, if◌then◌else◌, nat_le, [], ◌∷◌, slice_index_or, refl, sym, ap, ◌∙◌, subst, arith, ℤ}
use Rattle.std.proofs.lemmas.Int.{ints}
use Rattle.std.specs.Ordering.{int_eq}
use Rattle.fix_solve.specs.Order.{OrderLaws, IsLeastUpper}
use Rattle.bounds.specs.declared.ends.End.{End}
use Rattle.bounds.specs.declared.ends.End.TheVariants.{Least, Min32, Min16, Min8, MinusOne, Zero, One, Max8, MaxU8, Max16, MaxU16, Max32, MaxU32, Greatest}
use Rattle.bounds.specs.declared.facts.Fact.{Fact}
use Rattle.bounds.specs.declared.facts.Fact.TheVariants.{Never, Fixed, Between}
use Rattle.bounds.specs.Ends.{index, lower, upper}
use Rattle.bounds.specs.Facts.{low_end, high_end, Reaches, BelowFact, fact_rank, hull, joined_fact}

-- ---- ends go by their places

-- the end at a place
end_at : ℕ → End
end_at n = slice_index_or (Least ∷ Min32 ∷ Min16 ∷ Min8 ∷ MinusOne ∷ Zero ∷ One ∷ Max8 ∷ MaxU8 ∷ Max16 ∷ MaxU16 ∷ Max32 ∷ MaxU32 ∷ []) n Greatest

-- it is the end of that place
at_index : (e : End) → end_at (index e) ≡ e
unfolding end_at
at_index Least = refl
at_index Min32 = refl
at_index Min16 = refl
at_index Min8 = refl
at_index MinusOne = refl
at_index Zero = refl
at_index One = refl
at_index Max8 = refl
at_index MaxU8 = refl
at_index Max16 = refl
at_index MaxU16 = refl
at_index Max32 = refl
at_index MaxU32 = refl
at_index Greatest = refl

-- ends of one place are equal
pub index_is_one : (e f : End) → index e ≡ index f → e ≡ f
index_is_one e f same = sym (at_index e) ∙ ap end_at same ∙ at_index f

-- there are 14 places
pub index_small : (e : End) → index e < 14
index_small Least = omega arith
index_small Min32 = omega arith
index_small Min16 = omega arith
index_small Min8 = omega arith
index_small MinusOne = omega arith
index_small Zero = omega arith
index_small One = omega arith
index_small Max8 = omega arith
index_small MaxU8 = omega arith
index_small Max16 = omega arith
index_small MaxU16 = omega arith
index_small Max32 = omega arith
index_small MaxU32 = omega arith
index_small Greatest = omega arith

-- m is the lesser of the ends e and f
pub record IsLower (e f m : End) : Type 0 where
  pub left : index m ≤ index e
  pub right : index m ≤ index f
  pub either : (n : ℕ) → n ≤ index e → n ≤ index f → n ≤ index m

-- m is the greater of the ends e and f
pub record IsUpper (e f m : End) : Type 0 where
  pub left : index e ≤ index m
  pub right : index f ≤ index m
  pub either : (n : ℕ) → index e ≤ n → index f ≤ n → index m ≤ n

-- where a is not found to be at most b, b is at most a
above : (a b : ℕ) → nat_le a b ≡ false → b ≤ a
above a b h = grind arith

-- and where it is found so, it is
at_most : (a b : ℕ) → nat_le a b ≡ true → a ≤ b
at_most a b h = grind arith

-- nor are they equal
differs : (a b : ℕ) → nat_le a b ≡ false → a ≡ b → ⊥
differs a b h same = grind arith

-- `lower` answers the lesser of two ends
pub lower_is : (e f : End) → IsLower e f (lower e f)
lower_is e f = cases (nat_le (index e) (index f)) refl
  where
    cases : (b : Bool) → nat_le (index e) (index f) ≡ b → IsLower e f (if b then e else f)
    cases true is =
        let le : index e ≤ index f = at_most _ _ is in
        record { left = omega arith; right = le; either = λ n p q. p }
    cases false is =
        let le : index f ≤ index e = above _ _ is in
        record { left = le; right = omega arith; either = λ n p q. q }

-- `upper` answers the greater of two ends
pub upper_is : (e f : End) → IsUpper e f (upper e f)
upper_is e f = cases (nat_le (index e) (index f)) refl
  where
    cases : (b : Bool) → nat_le (index e) (index f) ≡ b → IsUpper e f (if b then f else e)
    cases true is =
        let le : index e ≤ index f = at_most _ _ is in
        record { left = le; right = omega arith; either = λ n p q. q }
    cases false is =
        let le : index f ≤ index e = above _ _ is in
        record { left = omega arith; right = le; either = λ n p q. p }

-- ---- order

-- each fact is below itself
pub below_refl : (x : Fact) → BelowFact x x
below_refl Never = tt
below_refl (Fixed c) = refl
below_refl (Between e f) = record { low = omega arith; high = omega arith }

-- transitive
pub below_trans : (x y z : Fact) → BelowFact x y → BelowFact y z → BelowFact x z
below_trans Never y z p q = tt
below_trans (Fixed a) Never z p q = absurd p
below_trans (Fixed a) (Fixed b) Never p q = absurd q
below_trans (Fixed a) (Between e f) Never p q = absurd q
below_trans (Between e f) Never z p q = absurd p
below_trans (Between e f) (Between g h) Never p q = absurd q
below_trans (Fixed a) (Fixed b) (Fixed c) p q = p ∙ q
below_trans (Fixed a) (Fixed b) (Between g h) p q = subst (λ d. Reaches (Fixed d) g h) (sym p) q
below_trans (Fixed a) (Between e f) (Fixed c) p q = absurd q
below_trans (Fixed a) (Between e f) (Between g h) p q =
    record { low = omega (arith, p.low, q.low); high = omega (arith, p.high, q.high) }
below_trans (Between e f) (Fixed b) z p q = absurd p
below_trans (Between e f) (Between g h) (Fixed c) p q = absurd q
below_trans (Between e f) (Between g h) (Between i j) p q =
    record { low = omega (arith, p.low, q.low); high = omega (arith, p.high, q.high) }

-- two facts that are below each other are one
pub below_antisym : (x y : Fact) → BelowFact x y → BelowFact y x → x ≡ y
below_antisym Never Never p q = refl
below_antisym Never (Fixed b) p q = absurd q
below_antisym Never (Between g h) p q = absurd q
below_antisym (Fixed a) Never p q = absurd p
below_antisym (Between e f) Never p q = absurd p
below_antisym (Fixed a) (Fixed b) p q = ap Fixed p
below_antisym (Fixed a) (Between g h) p q = absurd q
below_antisym (Between e f) (Fixed b) p q = absurd p
below_antisym (Between e f) (Between g h) p q =
    let low : e ≡ g = index_is_one e g (omega (arith, p.low, q.low)) in
    let high : f ≡ h = index_is_one f h (omega (arith, p.high, q.high)) in
    cc

-- a fact that is below another is equal to it, or its rank is lower
pub below_rises : (x y : Fact) → BelowFact x y → (x ≡ y) ⊎ (fact_rank x < fact_rank y)
below_rises Never Never p = inl refl
below_rises Never (Fixed b) p = inr (omega arith)
below_rises Never (Between g h) p = inr (omega (arith, index_small g))
below_rises (Fixed a) Never p = absurd p
below_rises (Between e f) Never p = absurd p
below_rises (Fixed a) (Fixed b) p = inl (ap Fixed p)
below_rises (Fixed a) (Between g h) p = inr (omega (arith, index_small g))
below_rises (Between e f) (Fixed b) p = absurd p
below_rises (Between e f) (Between g h) p = cases (nat_le (index e) (index g)) refl (nat_le (index h) (index f)) refl
  where
    cases : (b : Bool) → nat_le (index e) (index g) ≡ b → (c : Bool) → nat_le (index h) (index f) ≡ c
        → (Between e f ≡ Between g h) ⊎ (fact_rank (Between e f) < fact_rank (Between g h))
    cases true is true is' =
        let low : e ≡ g = index_is_one e g (omega (arith, p.low, at_most _ _ is)) in
        let high : f ≡ h = index_is_one f h (omega (arith, p.high, at_most _ _ is')) in
        inl (cc)
    cases true is false is' =
        let differ : (index f ≡ index h) → ⊥ = λ same. differs (index h) (index f) is' (sym same) in
        inr (omega (arith, p.low, p.high, differ, index_small g, index_small e))
    cases false is c is' =
        let differ : (index e ≡ index g) → ⊥ = λ same. differs (index e) (index g) is same in
        inr (omega (arith, p.low, p.high, differ, index_small g, index_small e))

-- no rank is above 28
pub rank_bound : (x : Fact) → fact_rank x ≤ 28
rank_bound Never = omega arith
rank_bound (Fixed c) = omega arith
rank_bound (Between e f) = omega (arith, index_small e, index_small f)

-- ---- join

-- a fact is below an interval that reaches beyond it
pub reaching : (x : Fact) (e f : End) → Reaches x e f → BelowFact x (Between e f)
reaching Never e f r = tt
reaching (Fixed c) e f r = r
reaching (Between g h) e f r = r

-- the hull is above both
hull_left : (x y : Fact) → BelowFact x (hull x y)
hull_left x y =
    let low = lower_is (low_end x) (low_end y) in
    let high = upper_is (high_end x) (high_end y) in
    reaching x _ _ (record { low = low.left; high = high.left })

-- above the second too
hull_right : (x y : Fact) → BelowFact y (hull x y)
hull_right x y =
    let low = lower_is (low_end x) (low_end y) in
    let high = upper_is (high_end x) (high_end y) in
    reaching y _ _ (record { low = low.right; high = high.right })

-- and below each interval that is
hull_least : (x y : Fact) (e f : End) → Reaches x e f → Reaches y e f → BelowFact (hull x y) (Between e f)
hull_least x y e f p q =
    let low = lower_is (low_end x) (low_end y) in
    let high = upper_is (high_end x) (high_end y) in
    record { low = low.either (index e) p.low q.low; high = high.either (index f) p.high q.high }

-- numbers that are found equal are
int_eq_is : (a b : ℤ) → int_eq a b ≡ true → a ≡ b
int_eq_is a b h = grind (arith, ints)

-- numbers are found equal to themselves
int_eq_same : (a : ℤ) → int_eq a a ≡ true
int_eq_same a = grind (arith, ints)

-- the join is the least upper bound
pub fact_joins : (x y : Fact) → IsLeastUpper BelowFact x y (joined_fact x y)
fact_joins Never y = record { left = tt; right = below_refl y; least = λ w p q. q }
fact_joins (Fixed a) Never = record { left = refl; right = tt; least = λ w p q. p }
fact_joins (Between g h) Never = record { left = below_refl (Between g h); right = tt; least = λ w p q. p }
fact_joins (Fixed a) (Fixed b) = cases (int_eq a b) refl
  where
    cases : (t : Bool) → int_eq a b ≡ t
        → IsLeastUpper BelowFact (Fixed a) (Fixed b) (if t then Fixed a else hull (Fixed a) (Fixed b))
    cases true is = record { left = refl; right = sym (int_eq_is a b is); least = λ w p q. p }
    cases false is = record { left = hull_left (Fixed a) (Fixed b); right = hull_right (Fixed a) (Fixed b); least = least }
      where
        least : (w : Fact) → BelowFact (Fixed a) w → BelowFact (Fixed b) w
            → BelowFact (hull (Fixed a) (Fixed b)) w
        least Never p q = absurd p
        least (Fixed c) p q =
            let bad : int_eq a b ≡ true = ap (int_eq a) (q ∙ sym p) ∙ int_eq_same a in absurd (cc)
        least (Between e f) p q = hull_least (Fixed a) (Fixed b) e f p q
fact_joins (Fixed a) (Between g h) = record { left = hull_left (Fixed a) (Between g h); right = hull_right (Fixed a) (Between g h); least = least }
  where
    least : (w : Fact) → BelowFact (Fixed a) w → BelowFact (Between g h) w
        → BelowFact (hull (Fixed a) (Between g h)) w
    least Never p q = absurd p
    least (Fixed c) p q = absurd q
    least (Between e f) p q = hull_least (Fixed a) (Between g h) e f p q
fact_joins (Between g h) (Fixed b) = record {
  left = hull_left (Between g h) (Fixed b);
  right = hull_right (Between g h) (Fixed b);
  least = least;
}
  where
    least : (w : Fact) → BelowFact (Between g h) w → BelowFact (Fixed b) w
        → BelowFact (hull (Between g h) (Fixed b)) w
    least Never p q = absurd p
    least (Fixed c) p q = absurd p
    least (Between e f) p q = hull_least (Between g h) (Fixed b) e f p q
fact_joins (Between g h) (Between i j) = record {
  left = hull_left (Between g h) (Between i j);
  right = hull_right (Between g h) (Between i j);
  least = least;
}
  where
    least : (w : Fact) → BelowFact (Between g h) w → BelowFact (Between i j) w
        → BelowFact (hull (Between g h) (Between i j)) w
    least Never p q = absurd p
    least (Fixed c) p q = absurd p
    least (Between e f) p q = hull_least (Between g h) (Between i j) e f p q

-- the rank rises, as a solver needs it
rank_rises : (x y : Fact) → BelowFact x y → x ≢ y → fact_rank x < fact_rank y
rank_rises x y p d = elim (below_rises x y p) as (λ _. fact_rank x < fact_rank y) [ inl e ↦ absurd (d e) | inr l ↦ l ]

-- all facts have one size
abbrev pub fact_size : Fact → ℕ
fact_size x = 0

-- so the facts are ordered as a solver needs it
pub fact_laws : OrderLaws BelowFact fact_size fact_rank
fact_laws = record {
  reflexive = below_refl;
  transitive = below_trans;
  antisymmetric = below_antisym;
  same_size = λ x y p. refl;
  rises = rank_rises;
}
