-- Rounding keeps what lies in a span, and is monotone. For proofs only.
use Rattle.std.proofs.Common.{◌≡◌, ◌≤◌, Bool, true, false, if◌then◌else◌, ◌&&◌, refl, subst, arith, ℤ, pos, negsuc, ◌+ℤ◌, int_lt, int_le, FitsSigned, w64}
use Rattle.std.proofs.lemmas.Int.{ints, int_wrap_fits}
use Rattle.std.specs.Prelude.{◌≤ℤ◌}
use Rattle.mir_base.specs.Numbers.{wrapped}
use Rattle.bounds.specs.declared.ends.End.{End}
use Rattle.bounds.specs.declared.ends.End.TheVariants.{Least, Greatest}
use Rattle.bounds.specs.declared.facts.Fact.{Fact}
use Rattle.bounds.specs.declared.facts.Fact.TheVariants.{Never, Fixed, Between}
use Rattle.bounds.specs.Ends.{index, end_value, floor, ceiling}
use Rattle.bounds.specs.Facts.{BelowFact, Bounds}
use Rattle.bounds.specs.FactLaws.{index_is_one}
use Rattle.bounds.specs.EndLaws.{le_is, is_le, gt_is, both_left, both_right, floor_low, floor_best, ceiling_high, ceiling_best, fits_low, fits_high, reaches_by, low_fits, high_fits, top}
use Rattle.bounds.specs.declared.spans.Span.{Span}
use Rattle.bounds.specs.Bounding.{surest, In, Within, fits, rounded}

-- a number lies in the span, unless one of the span has more than 64 bits
pub record InIfFits (s : Span) (z : ℤ) : Type 0 where
  pub in_span : end_value Least ≤ℤ s.low → s.high ≤ℤ end_value Greatest → In s z

-- the first span lies in the second, unless one of the second has more than 64 bits
pub record WithinIfFits (s t : Span) : Type 0 where
  pub within : end_value Least ≤ℤ t.low → t.high ≤ℤ end_value Greatest → Within s t

-- floors are monotone
pub floor_mono : (a b : ℤ) → end_value Least ≤ℤ a → a ≤ℤ b → index (floor a) ≤ index (floor b)
floor_mono a b low le =
    let near : end_value (floor a) ≤ℤ a = floor_low a low in floor_best (floor a) b (omega (arith, ints, near, le))

-- and so are ceilings
pub ceiling_mono : (a b : ℤ) → b ≤ℤ end_value Greatest → a ≤ℤ b → index (ceiling a) ≤ index (ceiling b)
ceiling_mono a b high le =
    let near : b ≤ℤ end_value (ceiling b) = ceiling_high b high in ceiling_best (ceiling b) a (omega (arith, ints, near, le))

-- two tests that hold
pub both_true : (a b : Bool) → a ≡ true → b ≡ true → (a && b) ≡ true
both_true true true p q = refl
both_true true false p q = q
both_true false b p q = p

-- above the greatest number is no other floor
pub floor_top : (z : ℤ) → end_value Greatest ≤ℤ z → Greatest ≡ floor z
floor_top z le = index_is_one Greatest (floor z) (omega (arith, floor_best Greatest z le, top (floor z)))

-- and below the least no other ceiling
pub ceiling_bottom : (z : ℤ) → z ≤ℤ end_value Least → Least ≡ ceiling z
ceiling_bottom z le = index_is_one Least (ceiling z) (omega (arith, ceiling_best Least z le))

-- each fact is below that of all numbers
pub below_all : (x : Fact) → BelowFact x (Between Least Greatest)
below_all x = reaches_by x Least Greatest (fits_low _ (low_fits x)) (fits_high _ (high_fits x))

-- at most is transitive
pub le_trans : (a b c : ℤ) → a ≤ℤ b → b ≤ℤ c → a ≤ℤ c
le_trans a b c p q = omega (arith, ints, p, q)

-- where a is found below b, a + 1 is at most b
pub lt_is : (a b : ℤ) → int_lt a b ≡ true → (a +ℤ pos 1) ≤ℤ b
lt_is a b h = grind (arith, ints)

-- where a is not found below b, b is at most a
lt_not : (a b : ℤ) → int_lt a b ≡ false → b ≤ℤ a
lt_not a b h = grind (arith, ints)

-- where a + 1 is at most b, a is found below b
is_lt : (a b : ℤ) → (a +ℤ pos 1) ≤ℤ b → int_lt a b ≡ true
is_lt a b h = grind (arith, ints)

-- a number that lies in a span of 64 bits is held by its surest fact
pub surest_holds : (s : Span) (z : ℤ) → end_value Least ≤ℤ s.low → s.high ≤ℤ end_value Greatest → FitsSigned w64 z → In s z
    → Bounds (surest s) z
surest_holds s z low high small within = cases _ refl _ refl
  where
    cases : (b : Bool) → int_lt s.high s.low ≡ b → (c : Bool) → int_le s.high s.low ≡ c
        → Bounds (if b then Never else if c then Fixed s.low else Between (floor s.low) (ceiling s.high)) z
    cases true is c is' = let none = lt_is s.high s.low is in absurd (omega (arith, ints, none, within.low, within.high))
    cases false is true is' =
        let one : s.high ≤ℤ s.low = le_is _ _ is' in
        let same : z ≡ s.low = omega (arith, ints, one, within.low, within.high) in
        let kept : wrapped s.low ≡ s.low = int_wrap_fits w64 _ (subst (FitsSigned w64) same small) in
        record { low = omega (arith, ints, same, kept); high = omega (arith, ints, same, kept) }
    cases false is false is' =
        record {
          low = le_trans _ _ _ (floor_low _ low) within.low;
          high = le_trans _ _ _ within.high (ceiling_high _ high);
        }

-- a number of 64 bits that lies in a span is held by the rounded span
pub rounded_holds : (s : Span) (z : ℤ) → FitsSigned w64 z → InIfFits s z → Bounds (rounded s) z
rounded_holds s z small is = cases (fits s) refl
  where
    cases : (b : Bool) → fits s ≡ b → Bounds (if b then surest s else Between Least Greatest) z
    cases true is_small =
        let low : end_value Least ≤ℤ s.low = le_is _ _ (both_left _ _ is_small) in
        let high : s.high ≤ℤ end_value Greatest = le_is _ _ (both_right _ _ is_small) in
        surest_holds s z low high small (is.in_span low high)
    cases false is_small = record { low = fits_low z small; high = fits_high z small }

-- a number from the least to the greatest has 64 bits
pub fits_from : (z : ℤ) → end_value Least ≤ℤ z → z ≤ℤ end_value Greatest → FitsSigned w64 z
fits_from (pos n) low high = record { sfits = omega (arith, ints, high) }
fits_from (negsuc n) low high = record { sfits = omega (arith, ints, low) }

-- the surest fact is monotone
pub surest_mono : (s t : Span) → end_value Least ≤ℤ t.low → t.high ≤ℤ end_value Greatest → Within s t
    → BelowFact (surest s) (surest t)
surest_mono s t low high within = cases _ refl _ refl _ refl _ refl
  where
    cases : (b : Bool) → int_lt s.high s.low ≡ b → (c : Bool) → int_le s.high s.low ≡ c
        → (b' : Bool) → int_lt t.high t.low ≡ b' → (c' : Bool) → int_le t.high t.low ≡ c'
        → BelowFact (if b then Never else if c then Fixed s.low else Between (floor s.low) (ceiling s.high))
        (if b' then Never else if c' then Fixed t.low else Between (floor t.low) (ceiling t.high))
    cases true is c is' b' it c' it' = tt
    cases false is c is' true it c' it' =
        let none = lt_is t.high t.low it in let some = lt_not s.high s.low is in
        absurd (omega (arith, ints, none, some, within.low, within.high))
    cases false is true is' false it true it' =
        let one : s.high ≤ℤ s.low = le_is _ _ is' in let some = lt_not s.high s.low is in
        let one' : t.high ≤ℤ t.low = le_is _ _ it' in
        omega (arith, ints, one, some, one', within.low, within.high)
    cases false is false is' false it true it' =
        let more = gt_is s.high s.low is' in
        let one' : t.high ≤ℤ t.low = le_is _ _ it' in
        let bad : int_le s.high s.low ≡ true = is_le s.high s.low (omega (arith, ints, one', within.low, within.high)) in
        absurd (cc)
    cases false is true is' false it false it' =
        let one : s.high ≤ℤ s.low = le_is _ _ is' in let some = lt_not s.high s.low is in
        let fits_low' : end_value Least ≤ℤ s.low = le_trans _ _ _ low within.low in
        let fits_high' : s.low ≤ℤ end_value Greatest = omega (arith, ints, some, high, within.high) in
        let kept : wrapped s.low ≡ s.low = int_wrap_fits w64 _ (fits_from s.low fits_low' fits_high') in
        let down : end_value (floor t.low) ≤ℤ t.low = floor_low _ low in
        let up : t.high ≤ℤ end_value (ceiling t.high) = ceiling_high _ high in
        reaches_by (Fixed s.low) _ _ (omega (arith, ints, kept, down, within.low))
        (omega (arith, ints, kept, up, some, within.high))
    cases false is false is' false it false it' =
        record { low = floor_mono _ _ low within.low; high = ceiling_mono _ _ high within.high }

-- a span that lies in another is rounded to a fact that is below that of the other
pub rounded_mono : (s t : Span) → WithinIfFits s t → BelowFact (rounded s) (rounded t)
rounded_mono s t is_within = cases (fits t) refl
  where
    small : (b : Bool) → fits s ≡ b → end_value Least ≤ℤ t.low → t.high ≤ℤ end_value Greatest
        → BelowFact (if b then surest s else Between Least Greatest) (surest t)
    small true is low high = surest_mono s t low high (is_within.within low high)
    small false is low high =
        let within = is_within.within low high in
        let l : end_value Least ≤ℤ s.low = omega (arith, ints, low, within.low) in
        let h : s.high ≤ℤ end_value Greatest = omega (arith, ints, high, within.high) in
        let bad : fits s ≡ true = both_true _ _ (is_le _ _ l) (is_le _ _ h) in absurd (cc)

    cases : (b : Bool) → fits t ≡ b → BelowFact (rounded s) (if b then surest t else Between Least Greatest)
    cases true is = small (fits s) refl (le_is _ _ (both_left _ _ is)) (le_is _ _ (both_right _ _ is))
    cases false is = below_all (rounded s)

-- a constant of which a rounded span holds is below it
pub rounded_below : (z : ℤ) (s : Span) → FitsSigned w64 z → Bounds (rounded s) z → BelowFact (Fixed z) (rounded s)
rounded_below z s small held = cases (fits s) refl held
  where
    interval : (e f : End) → Bounds (Between e f) z → BelowFact (Fixed z) (Between e f)
    interval e f b = let k : wrapped z ≡ z = int_wrap_fits w64 z small in
        reaches_by (Fixed z) e f (omega (arith, ints, k, b.low)) (omega (arith, ints, k, b.high))

    sure : end_value Least ≤ℤ s.low → s.high ≤ℤ end_value Greatest → (b c : Bool) → int_lt s.high s.low ≡ b
        → Bounds (if b then Never else if c then Fixed s.low else Between (floor s.low) (ceiling s.high)) z
        → BelowFact (Fixed z) (if b then Never else if c then Fixed s.low else Between (floor s.low) (ceiling s.high))
    sure low high true c is b = absurd (omega (arith, ints, b.low, b.high))
    sure low high false true is b =
        let some = lt_not s.high s.low is in
        let k : wrapped s.low ≡ s.low = int_wrap_fits w64 _ (fits_from s.low low (omega (arith, ints, some, high))) in
        omega (arith, ints, k, b.low, b.high)
    sure low high false false is b = interval _ _ b

    cases : (b : Bool) → fits s ≡ b → Bounds (if b then surest s else Between Least Greatest) z
        → BelowFact (Fixed z) (if b then surest s else Between Least Greatest)
    cases true is b = sure (le_is _ _ (both_left _ _ is)) (le_is _ _ (both_right _ _ is)) _ _ refl b
    cases false is b = interval _ _ b
