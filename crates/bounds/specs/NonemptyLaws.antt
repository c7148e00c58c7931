-- A narrowed operand holds of some number where the relation may hold, so no state that is reached says "never". For
-- proofs only.
use Rattle.std.proofs.Common.{◌≡◌, Bool, true, false, not, if◌then◌else◌, refl, arith, ℤ, pos, ◌+ℤ◌, ◌-ℤ◌, int_le, int_lt}
use Rattle.std.proofs.lemmas.Int.{clamps, ints}
use Rattle.std.specs.Prelude.{◌≤ℤ◌}
use Rattle.std.specs.Int.{int_max, int_min}
use Rattle.mir_base.specs.declared.operators.RelOp.{RelOp}
use Rattle.mir_base.specs.declared.operators.RelOp.TheVariants.{Eq, Ge, Gt, Le, Lt, Ne}
use Rattle.bounds.specs.declared.ends.End.TheVariants.{Greatest, Least}
use Rattle.bounds.specs.declared.facts.Fact.{Fact}
use Rattle.bounds.specs.declared.facts.Fact.TheVariants.{Between, Fixed, Never}
use Rattle.bounds.specs.declared.spans.Span.{Span}
use Rattle.bounds.specs.Ends.{ceiling, floor, end_value}
use Rattle.bounds.specs.Facts.{high_of, low_of}
use Rattle.bounds.specs.EndLaws.{both_left, both_right, ceiling_high, fits_high, fits_low, floor_low, high_fits, le_is, low_fits, is_le}
use Rattle.bounds.specs.Bounding.{are_one, span_of, surest}
use Rattle.bounds.specs.RoundingLaws.{both_true, le_trans, lt_is}
use Rattle.bounds.specs.Narrowing.{is_high, is_low, may_relate, meet, narrowed, span_where}

-- the fact holds of some number
pub record IsPossible (x : Fact) : Type 0 where
  pub order : low_of x ≤ℤ high_of x

-- the surest fact of a span that is not empty
surest_possible : (s : Span) → end_value Least ≤ℤ s.low → s.high ≤ℤ end_value Greatest → s.low ≤ℤ s.high
    → IsPossible (surest s)
surest_possible s low high some = cases _ refl (int_le s.high s.low)
  where
    cases : (b : Bool) → int_lt s.high s.low ≡ b → (c : Bool)
        → IsPossible (if b then Never else if c then Fixed s.low else Between (floor s.low) (ceiling s.high))
    cases true is c = let none = lt_is s.high s.low is in absurd (omega (arith, ints, none, some))
    cases false is true = record { order = omega (arith, ints) }
    cases false is false =
        record { order = le_trans _ _ _ (floor_low _ low) (le_trans _ _ _ some (ceiling_high _ high)) }

-- below
lt_means : (a b : ℤ) → int_lt a b ≡ true → (a +ℤ pos 1) ≤ℤ b
lt_means a b h = grind (arith, ints)

-- spans that are not one number
apart : (s t : Span) → not (are_one s t) ≡ true → s.high ≤ℤ t.low → t.high ≤ℤ s.low → ⊥
apart s t h p q = let one : are_one s t ≡ true = both_true _ _ (is_le s.high t.low p) (is_le t.high s.low q) in clash _ one h
  where
    clash : (b : Bool) → b ≡ true → not b ≡ true → ⊥
    clash true e f = cc
    clash false e f = cc

-- what is left where the numbers differ
differ_possible : (s t : Span) → s.low ≤ℤ s.high → t.low ≤ℤ t.high → not (are_one s t) ≡ true
    → (b : Bool) → is_low s t ≡ b → (c : Bool) → is_high s t ≡ c
    → (if b then s.low +ℤ pos 1 else s.low) ≤ℤ (if c then s.high -ℤ pos 1 else s.high)
differ_possible s t p q may false is false is' = p
differ_possible s t p q may true is c is' =
    let l : t.high ≤ℤ s.low = le_is _ _ (both_left _ (int_le s.low t.low) is) in
    let r : s.low ≤ℤ t.low = le_is _ _ (both_right (int_le t.high s.low) _ is) in
    more c is' (λ h. apart s t may (omega (arith, ints, h, r)) l) l r
  where
    more : (c : Bool) → is_high s t ≡ c → (s.high ≤ℤ s.low → ⊥) → t.high ≤ℤ s.low → s.low ≤ℤ t.low
        → (s.low +ℤ pos 1) ≤ℤ (if c then s.high -ℤ pos 1 else s.high)
    more false is' wide l r = strict s.low s.high wide
      where
        strict : (a b : ℤ) → (b ≤ℤ a → ⊥) → (a +ℤ pos 1) ≤ℤ b
        strict a b h = grind (arith, ints)
    more true is' wide l r =
        let r' : s.high ≤ℤ t.low = le_is _ _ (both_right (int_le t.high s.high) _ is') in
        absurd (wide (omega (arith, ints, r', q, l)))
differ_possible s t p q may false is true is' =
    let l : t.high ≤ℤ s.high = le_is _ _ (both_left _ (int_le s.high t.low) is') in
    let r : s.high ≤ℤ t.low = le_is _ _ (both_right (int_le t.high s.high) _ is') in
    strict s.low s.high (λ h. apart s t may r (omega (arith, ints, h, l)))
  where
    strict : (a b : ℤ) → (b ≤ℤ a → ⊥) → a ≤ℤ (b -ℤ pos 1)
    strict a b h = grind (arith, ints)

-- the ends of what is left by a relation meet those of the first
where_possible : (op : RelOp) (s t : Span) → s.low ≤ℤ s.high → t.low ≤ℤ t.high → end_value Least ≤ℤ s.low
    → s.high ≤ℤ end_value Greatest → may_relate op s t ≡ true
    → int_max s.low (span_where op s t).low ≤ℤ int_min s.high (span_where op s t).high
where_possible Eq s t p q l g may =
    let a : s.low ≤ℤ t.high = le_is _ _ (both_left _ (int_le t.low s.high) may) in
    let b : t.low ≤ℤ s.high = le_is _ _ (both_right (int_le s.low t.high) _ may) in
    omega (arith, ints, clamps, a, b, p, q)
where_possible Ne s t p q l g may = within s.low s.high _ _ (differ_possible s t p q may _ refl _ refl) (at_low _) (at_high _) p
  where
    within : (a b c d : ℤ) → c ≤ℤ d → a ≤ℤ c → d ≤ℤ b → a ≤ℤ b → int_max a c ≤ℤ int_min b d
    within a b c d h i j k = omega (arith, ints, clamps, h, i, j, k)

    at_low : (c : Bool) → s.low ≤ℤ (if c then s.low +ℤ pos 1 else s.low)
    at_low true = omega (arith, ints)
    at_low false = omega (arith, ints)

    at_high : (c : Bool) → (if c then s.high -ℤ pos 1 else s.high) ≤ℤ s.high
    at_high true = omega (arith, ints)
    at_high false = omega (arith, ints)
where_possible Lt s t p q l g may = let a = lt_means s.low t.high may in omega (arith, ints, clamps, a, p, l)
where_possible Le s t p q l g may = let a : s.low ≤ℤ t.high = le_is _ _ may in omega (arith, ints, clamps, a, p, l)
where_possible Gt s t p q l g may = let a = lt_means t.low s.high may in omega (arith, ints, clamps, a, p, g)
where_possible Ge s t p q l g may = let a : t.low ≤ℤ s.high = le_is _ _ may in omega (arith, ints, clamps, a, p, g)

-- so a narrowed operand is possible
pub narrowed_possible : (op : RelOp) (x y : Fact) → IsPossible x → IsPossible y
    → may_relate op (span_of x) (span_of y) ≡ true → IsPossible (narrowed op x y)
narrowed_possible op x y p q may =
    let low : end_value Least ≤ℤ low_of x = fits_low _ (low_fits x) in
    let high : high_of x ≤ℤ end_value Greatest = fits_high _ (high_fits x) in
    surest_possible (meet (span_of x) (span_where op (span_of x) (span_of y))) (omega (arith, ints, clamps, low))
    (omega (arith, ints, clamps, high)) (where_possible op _ _ p.order q.order low high may)
