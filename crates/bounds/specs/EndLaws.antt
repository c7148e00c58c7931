-- Which ends are next to a number. For proofs only.
use Rattle.std.proofs.Common.{◌≡◌, ℕ, ◌≤◌, Bool, true, false, if◌then◌else◌, nat_le, nat_eq, ◌&&◌, List, [], ◌∷◌, refl, subst, arith, ℤ, int_le, FitsSigned, w64}
use Rattle.std.proofs.lemmas.Int.{ints}
use Rattle.std.specs.Prelude.{◌≤ℤ◌}
use Rattle.mir_base.specs.Numbers.{wrapped}
use Rattle.mir_base.specs.NumberLaws.{wrapped_fits}
use Rattle.bounds.specs.declared.ends.End.{End}
use Rattle.bounds.specs.declared.ends.End.TheVariants.{Least, Min32, Min16, Min8, MinusOne, Zero, One, Max8, MaxU8, Max16, MaxU16, Max32, MaxU32, Greatest}
use Rattle.bounds.specs.declared.facts.Fact.{Fact}
use Rattle.bounds.specs.declared.facts.Fact.TheVariants.{Never, Fixed, Between}
use Rattle.bounds.specs.Ends.{index, end_value, floor_in, ceiling_in, floor, ceiling, descending, ascending}
use Rattle.bounds.specs.Facts.{low_of, high_of, BelowFact, Bounds}
use Rattle.bounds.specs.FactLaws.{index_is_one}

-- ---- tests of numbers

-- at most
pub le_is : (a b : ℤ) → int_le a b ≡ true → a ≤ℤ b
le_is a b h = grind (arith, ints)

-- not at most
pub gt_is : (a b : ℤ) → int_le a b ≡ false → b ≤ℤ a
gt_is a b h = grind (arith, ints)

-- a number that is at most another is found so
pub is_le : (a b : ℤ) → a ≤ℤ b → int_le a b ≡ true
is_le a b h = grind (arith, ints)

-- ---- the numbers of ends

-- no end is above the greatest number or below the least
pub value_fits : (e : End) → FitsSigned w64 (end_value e)
value_fits Least = record { sfits = omega arith }
value_fits Min32 = record { sfits = omega arith }
value_fits Min16 = record { sfits = omega arith }
value_fits Min8 = record { sfits = omega arith }
value_fits MinusOne = record { sfits = omega arith }
value_fits Zero = record { sfits = omega arith }
value_fits One = record { sfits = omega arith }
value_fits Max8 = record { sfits = omega arith }
value_fits MaxU8 = record { sfits = omega arith }
value_fits Max16 = record { sfits = omega arith }
value_fits MaxU16 = record { sfits = omega arith }
value_fits Max32 = record { sfits = omega arith }
value_fits MaxU32 = record { sfits = omega arith }
value_fits Greatest = record { sfits = omega arith }

-- a number of 64 bits is at least the least
pub fits_low : (z : ℤ) → FitsSigned w64 z → end_value Least ≤ℤ z
fits_low z fits = omega (arith, ints, fits.sfits)

-- and at most the greatest
pub fits_high : (z : ℤ) → FitsSigned w64 z → z ≤ℤ end_value Greatest
fits_high z fits = omega (arith, ints, fits.sfits)

-- ---- floors

-- the floor is at most the number
floor_in_low : (ends : List End) (z : ℤ) → end_value Least ≤ℤ z → end_value (floor_in ends z) ≤ℤ z
unfolding floor_in
floor_in_low [] z low = low
floor_in_low (e ∷ ends) z low = cases (floor_in_low ends z low) (int_le (end_value e) z) refl
  where
    cases : end_value (floor_in ends z) ≤ℤ z → (b : Bool) → int_le (end_value e) z ≡ b
        → end_value (if b then e else floor_in ends z) ≤ℤ z
    cases rest true is = le_is _ _ is
    cases rest false is = rest

-- the same of all ends
pub floor_low : (z : ℤ) → end_value Least ≤ℤ z → end_value (floor z) ≤ℤ z
unfolding floor
floor_low z low = floor_in_low descending z low

-- the end stands in the list, and no end before it there has a lower index
descends : End → List End → Bool
descends e [] = false
descends e (f ∷ ends) = if nat_eq (index e) (index f) then true else nat_le (index e) (index f) && descends e ends

-- numbers that are found equal
nat_eq_is : (a b : ℕ) → nat_eq a b ≡ true → a ≡ b
nat_eq_is a b h = grind arith

-- and those that are found at most
nat_le_is : (a b : ℕ) → nat_le a b ≡ true → a ≤ b
nat_le_is a b h = grind arith

-- both tests hold
pub both_left : (a b : Bool) → (a && b) ≡ true → a ≡ true
both_left true b h = refl
both_left false b h = h

-- the second too
pub both_right : (a b : Bool) → (a && b) ≡ true → b ≡ true
both_right true b h = h
both_right false true h = refl
both_right false false h = h

-- an end among these that is at most the number has no higher place than the floor
floor_in_best : (ends : List End) (e : End) (z : ℤ) → descends e ends ≡ true → end_value e ≤ℤ z
    → index e ≤ index (floor_in ends z)
unfolding floor_in descends
floor_in_best [] e z stands le = absurd (cc)
floor_in_best (f ∷ ends) e z stands le =
    cases (λ s. floor_in_best ends e z s le) (nat_eq (index e) (index f)) refl (int_le (end_value f) z) refl
  where
    cases : (descends e ends ≡ true → index e ≤ index (floor_in ends z)) → (b : Bool) → nat_eq (index e) (index f) ≡ b → (c : Bool) → int_le (end_value f) z ≡ c
        → index e ≤ index (if c then f else floor_in ends z)
    cases on true is true is' = let same : index e ≡ index f = nat_eq_is _ _ is in omega (arith, same)
    cases on true is false is' =
        let same : e ≡ f = index_is_one e f (nat_eq_is _ _ is) in
        let found : int_le (end_value f) z ≡ true = subst (λ g. int_le (end_value g) z ≡ true) same (is_le _ _ le) in absurd (cc)
    cases on false is c is' =
        let rest : (nat_le (index e) (index f) && descends e ends) ≡ true = subst
        (λ b. (if b then true else (nat_le (index e) (index f) && descends e ends)) ≡ true) is stands in
        further c is' (nat_le_is _ _ (both_left _ _ rest)) (both_right _ _ rest)
      where
        further : (c : Bool) → int_le (end_value f) z ≡ c → index e ≤ index f → descends e ends ≡ true
            → index e ≤ index (if c then f else floor_in ends z)
        further true is' lower stands' = lower
        further false is' lower stands' = on stands'

-- no end that is at most the number has a higher place than the floor
pub floor_best : (e : End) (z : ℤ) → end_value e ≤ℤ z → index e ≤ index (floor z)
unfolding floor descends
floor_best Least z le = omega arith
floor_best Min32 z le = floor_in_best descending Min32 z refl le
floor_best Min16 z le = floor_in_best descending Min16 z refl le
floor_best Min8 z le = floor_in_best descending Min8 z refl le
floor_best MinusOne z le = floor_in_best descending MinusOne z refl le
floor_best Zero z le = floor_in_best descending Zero z refl le
floor_best One z le = floor_in_best descending One z refl le
floor_best Max8 z le = floor_in_best descending Max8 z refl le
floor_best MaxU8 z le = floor_in_best descending MaxU8 z refl le
floor_best Max16 z le = floor_in_best descending Max16 z refl le
floor_best MaxU16 z le = floor_in_best descending MaxU16 z refl le
floor_best Max32 z le = floor_in_best descending Max32 z refl le
floor_best MaxU32 z le = floor_in_best descending MaxU32 z refl le
floor_best Greatest z le = floor_in_best descending Greatest z refl le

-- an end is its own floor
floor_exact : (e : End) → floor (end_value e) ≡ e
unfolding floor floor_in
floor_exact Least = refl
floor_exact Min32 = refl
floor_exact Min16 = refl
floor_exact Min8 = refl
floor_exact MinusOne = refl
floor_exact Zero = refl
floor_exact One = refl
floor_exact Max8 = refl
floor_exact MaxU8 = refl
floor_exact Max16 = refl
floor_exact MaxU16 = refl
floor_exact Max32 = refl
floor_exact MaxU32 = refl
floor_exact Greatest = refl

-- ends are in order as their places are
pub index_mono : (e f : End) → end_value e ≤ℤ end_value f → index e ≤ index f
index_mono e f le = subst (λ g. index e ≤ index g) (floor_exact f) (floor_best e (end_value f) le)

-- and the other way
pub value_mono : (e f : End) → index e ≤ index f → end_value e ≤ℤ end_value f
value_mono e f le = cases (int_le (end_value e) (end_value f)) refl
  where
    cases : (b : Bool) → int_le (end_value e) (end_value f) ≡ b → end_value e ≤ℤ end_value f
    cases true is = le_is _ _ is
    cases false is =
        let back : index f ≤ index e = index_mono f e (gt_is _ _ is) in
        let same : e ≡ f = index_is_one e f (omega (arith, le, back)) in
        subst (λ g. end_value e ≤ℤ end_value g) same (omega (arith, ints))

-- ---- ceilings

-- the ceiling is at least the number
ceiling_in_high : (ends : List End) (z : ℤ) → z ≤ℤ end_value Greatest → z ≤ℤ end_value (ceiling_in ends z)
unfolding ceiling_in
ceiling_in_high [] z high = high
ceiling_in_high (e ∷ ends) z high = cases (ceiling_in_high ends z high) (int_le z (end_value e)) refl
  where
    cases : z ≤ℤ end_value (ceiling_in ends z) → (b : Bool) → int_le z (end_value e) ≡ b
        → z ≤ℤ end_value (if b then e else ceiling_in ends z)
    cases rest true is = le_is _ _ is
    cases rest false is = rest

-- the same of all ends
pub ceiling_high : (z : ℤ) → z ≤ℤ end_value Greatest → z ≤ℤ end_value (ceiling z)
unfolding ceiling
ceiling_high z high = ceiling_in_high ascending z high

-- the end stands among these, and no end before it has a higher place
ascends : End → List End → Bool
ascends e [] = false
ascends e (f ∷ ends) = if nat_eq (index e) (index f) then true else nat_le (index f) (index e) && ascends e ends

-- an end among these that is at least the number has no lower place than the ceiling
ceiling_in_best : (ends : List End) (e : End) (z : ℤ) → ascends e ends ≡ true → z ≤ℤ end_value e
    → index (ceiling_in ends z) ≤ index e
unfolding ceiling_in ascends
ceiling_in_best [] e z stands le = absurd (cc)
ceiling_in_best (f ∷ ends) e z stands le =
    cases (λ s. ceiling_in_best ends e z s le) (nat_eq (index e) (index f)) refl (int_le z (end_value f)) refl
  where
    cases : (ascends e ends ≡ true → index (ceiling_in ends z) ≤ index e) → (b : Bool) → nat_eq (index e) (index f) ≡ b → (c : Bool) → int_le z (end_value f) ≡ c
        → index (if c then f else ceiling_in ends z) ≤ index e
    cases on true is true is' = let same : index e ≡ index f = nat_eq_is _ _ is in omega (arith, same)
    cases on true is false is' =
        let same : e ≡ f = index_is_one e f (nat_eq_is _ _ is) in
        let found : int_le z (end_value f) ≡ true = subst (λ g. int_le z (end_value g) ≡ true) same (is_le _ _ le) in absurd (cc)
    cases on false is c is' =
        let rest : (nat_le (index f) (index e) && ascends e ends) ≡ true = subst
        (λ b. (if b then true else (nat_le (index f) (index e) && ascends e ends)) ≡ true) is stands in
        further c is' (nat_le_is _ _ (both_left _ _ rest)) (both_right _ _ rest)
      where
        further : (c : Bool) → int_le z (end_value f) ≡ c → index f ≤ index e → ascends e ends ≡ true
            → index (if c then f else ceiling_in ends z) ≤ index e
        further true is' higher stands' = higher
        further false is' higher stands' = on stands'

-- there is no place above that of the greatest
pub top : (f : End) → index f ≤ 13
top Least = omega arith
top Min32 = omega arith
top Min16 = omega arith
top Min8 = omega arith
top MinusOne = omega arith
top Zero = omega arith
top One = omega arith
top Max8 = omega arith
top MaxU8 = omega arith
top Max16 = omega arith
top MaxU16 = omega arith
top Max32 = omega arith
top MaxU32 = omega arith
top Greatest = omega arith

-- no end that is at least the number has a lower place than the ceiling
pub ceiling_best : (e : End) (z : ℤ) → z ≤ℤ end_value e → index (ceiling z) ≤ index e
unfolding ceiling ascends
ceiling_best Least z le = ceiling_in_best ascending Least z refl le
ceiling_best Min32 z le = ceiling_in_best ascending Min32 z refl le
ceiling_best Min16 z le = ceiling_in_best ascending Min16 z refl le
ceiling_best Min8 z le = ceiling_in_best ascending Min8 z refl le
ceiling_best MinusOne z le = ceiling_in_best ascending MinusOne z refl le
ceiling_best Zero z le = ceiling_in_best ascending Zero z refl le
ceiling_best One z le = ceiling_in_best ascending One z refl le
ceiling_best Max8 z le = ceiling_in_best ascending Max8 z refl le
ceiling_best MaxU8 z le = ceiling_in_best ascending MaxU8 z refl le
ceiling_best Max16 z le = ceiling_in_best ascending Max16 z refl le
ceiling_best MaxU16 z le = ceiling_in_best ascending MaxU16 z refl le
ceiling_best Max32 z le = ceiling_in_best ascending Max32 z refl le
ceiling_best MaxU32 z le = ceiling_in_best ascending MaxU32 z refl le
ceiling_best Greatest z le = top (ceiling z)

-- ---- facts by the numbers of which they hold

-- all numbers of which a fact holds have 64 bits
pub low_fits : (x : Fact) → FitsSigned w64 (low_of x)
low_fits Never = value_fits Greatest
low_fits (Fixed c) = wrapped_fits c
low_fits (Between e f) = value_fits e

-- the greatest too
pub high_fits : (x : Fact) → FitsSigned w64 (high_of x)
high_fits Never = value_fits Least
high_fits (Fixed c) = wrapped_fits c
high_fits (Between e f) = value_fits f

-- the surer the fact, the greater its least number
pub below_low : (x y : Fact) → BelowFact x y → low_of y ≤ℤ low_of x
below_low Never y p = fits_high _ (low_fits y)
below_low (Fixed a) Never p = absurd p
below_low (Between e f) Never p = absurd p
below_low (Fixed a) (Fixed b) p = subst (λ c. wrapped c ≤ℤ wrapped a) p (omega (arith, ints))
below_low (Fixed a) (Between g h) p =
    let near : end_value g ≤ℤ end_value (floor (wrapped a)) = value_mono _ _ p.low in
    let down : end_value (floor (wrapped a)) ≤ℤ wrapped a = floor_low _ (fits_low _ (wrapped_fits a)) in
    omega (arith, ints, near, down)
below_low (Between e f) (Fixed b) p = absurd p
below_low (Between e f) (Between g h) p = value_mono _ _ p.low

-- and the less its greatest
pub below_high : (x y : Fact) → BelowFact x y → high_of x ≤ℤ high_of y
below_high Never y p = fits_low _ (high_fits y)
below_high (Fixed a) Never p = absurd p
below_high (Between e f) Never p = absurd p
below_high (Fixed a) (Fixed b) p = subst (λ c. wrapped a ≤ℤ wrapped c) p (omega (arith, ints))
below_high (Fixed a) (Between g h) p =
    let near : end_value (ceiling (wrapped a)) ≤ℤ end_value h = value_mono _ _ p.high in
    let up : wrapped a ≤ℤ end_value (ceiling (wrapped a)) = ceiling_high _ (fits_high _ (wrapped_fits a)) in
    omega (arith, ints, near, up)
below_high (Between e f) (Fixed b) p = absurd p
below_high (Between e f) (Between g h) p = value_mono _ _ p.high

-- so what holds by a surer fact holds by one that is less sure
pub bounds_mono : (x y : Fact) (z : ℤ) → BelowFact x y → Bounds x z → Bounds y z
bounds_mono x y z p b =
    let low = below_low x y p in
    let high = below_high x y p in
    record { low = omega (arith, ints, low, b.low); high = omega (arith, ints, high, b.high) }

-- an interval that reaches beyond the numbers of which a fact holds is above it
pub reaches_by : (x : Fact) (e f : End) → end_value e ≤ℤ low_of x → high_of x ≤ℤ end_value f → BelowFact x (Between e f)
reaches_by Never e f low high = tt
reaches_by (Fixed c) e f low high = record { low = floor_best e _ low; high = ceiling_best f _ high }
reaches_by (Between g h) e f low high = record { low = index_mono e g low; high = index_mono h f high }
