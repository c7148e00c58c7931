-- What is narrowed holds where the relation does, and is monotone where it may. For proofs only.
use Rattle.std.proofs.Common.{◌≡◌, Bool, true, false, if◌then◌else◌, not, ◌&&◌, refl, sym, ap, subst, arith, ℤ, pos, ◌+ℤ◌, ◌-ℤ◌, int_lt, int_le, FitsSigned, w64}
use Rattle.std.proofs.lemmas.Int.{ints, clamps}
use Rattle.std.specs.Ordering.{int_eq}
use Rattle.std.specs.Prelude.{◌≤ℤ◌}
use Rattle.mir_base.specs.declared.operators.RelOp.{RelOp}
use Rattle.mir_base.specs.declared.operators.RelOp.TheVariants.{Eq, Ne, Lt, Le, Gt, Ge}
use Rattle.mir_base.specs.Numbers.{relation_holds}
use Rattle.bounds.specs.declared.ends.End.TheVariants.{Least, Greatest}
use Rattle.bounds.specs.declared.facts.Fact.{Fact}
use Rattle.bounds.specs.Ends.{end_value}
use Rattle.bounds.specs.Facts.{low_of, high_of, BelowFact, Bounds}
use Rattle.bounds.specs.EndLaws.{le_is, is_le, both_left, both_right, fits_low, fits_high, low_fits, high_fits, below_low, below_high}
use Rattle.bounds.specs.declared.spans.Span.{Span}
use Rattle.bounds.specs.Bounding.{In, Within, span_of, are_one}
use Rattle.bounds.specs.RoundingLaws.{surest_holds, surest_mono, both_true}
use Rattle.bounds.specs.SpanMono.{lt_stays, le_stays, may_stay, one_stays, not_falls}
use Rattle.bounds.specs.Narrowing.{meet, may_relate, is_low, is_high, span_where, narrowed, denied, turned}

-- ---- where a relation holds

-- equal numbers
eq_is : (a b : ℤ) → int_eq a b ≡ true → a ≡ b
eq_is a b h = grind (arith, ints)

-- numbers that differ
differ_is : (a b : ℤ) → not (int_eq a b) ≡ true → a ≡ b → ⊥
differ_is a b h e = grind (arith, ints)

-- below: at most one less
below_is : (a b : ℤ) → int_lt a b ≡ true → (a +ℤ pos 1) ≤ℤ b
below_is a b h = grind (arith, ints)

-- a low end that is left out
left_low : (s t : Span) (c : Bool) (a b : ℤ) → is_low s t ≡ c → In s a → In t b → (a ≡ b → ⊥)
    → (if c then s.low +ℤ pos 1 else s.low) ≤ℤ a
left_low s t true a b is v w differ =
    let p : t.high ≤ℤ s.low = le_is _ _ (both_left _ (int_le s.low t.low) is) in
    let q : s.low ≤ℤ t.low = le_is _ _ (both_right (int_le t.high s.low) _ is) in
    above s.low a v.low (λ e. differ (omega (arith, ints, e, p, q, w.low, w.high)))
  where
    above : (l a : ℤ) → l ≤ℤ a → (a ≡ l → ⊥) → (l +ℤ pos 1) ≤ℤ a
    above l a le apart = grind (arith, ints)
left_low s t false a b is v w differ = v.low

-- a high end that is left out
left_high : (s t : Span) (c : Bool) (a b : ℤ) → is_high s t ≡ c → In s a → In t b → (a ≡ b → ⊥)
    → a ≤ℤ (if c then s.high -ℤ pos 1 else s.high)
left_high s t true a b is v w differ =
    let p : t.high ≤ℤ s.high = le_is _ _ (both_left _ (int_le s.high t.low) is) in
    let q : s.high ≤ℤ t.low = le_is _ _ (both_right (int_le t.high s.high) _ is) in
    under s.high a v.high (λ e. differ (omega (arith, ints, e, p, q, w.low, w.high)))
  where
    under : (h a : ℤ) → a ≤ℤ h → (a ≡ h → ⊥) → a ≤ℤ (h -ℤ pos 1)
    under h a le apart = grind (arith, ints)
left_high s t false a b is v w differ = v.high

-- the first number lies there
where_holds : (op : RelOp) (s t : Span) (a b : ℤ) → FitsSigned w64 a → In s a → In t b → relation_holds op a b ≡ true
    → In (span_where op s t) a
where_holds Eq s t a b f v w h = let same : a ≡ b = eq_is a b h in subst (In t) (sym same) w
where_holds Ne s t a b f v w h = record {
  low = left_low s t _ a b refl v w (differ_is a b h);
  high = left_high s t _ a b refl v w (differ_is a b h);
}
where_holds Lt s t a b f v w h = record { low = fits_low a f; high = omega (arith, ints, below_is a b h, w.high) }
where_holds Le s t a b f v w h = let m : a ≤ℤ b = le_is a b h in record { low = fits_low a f; high = omega (arith, ints, m, w.high) }
where_holds Gt s t a b f v w h = record { low = omega (arith, ints, below_is b a h, w.low); high = fits_high a f }
where_holds Ge s t a b f v w h = let m : b ≤ℤ a = le_is b a h in record { low = omega (arith, ints, m, w.low); high = fits_high a f }

-- ---- what is narrowed

-- what holds of an operand and is in the relation holds of the operand narrowed
pub narrowed_holds : (op : RelOp) (x y : Fact) (a b : ℤ) → FitsSigned w64 a → Bounds x a → Bounds y b
    → relation_holds op a b ≡ true → Bounds (narrowed op x y) a
narrowed_holds op x y a b f p q h =
    let there = where_holds op (span_of x) (span_of y) a b f (record { low = p.low; high = p.high }) (record { low = q.low; high = q.high }) h in
    let low : end_value Least ≤ℤ low_of x = fits_low _ (low_fits x) in
    let high : high_of x ≤ℤ end_value Greatest = fits_high _ (high_fits x) in
    surest_holds (meet (span_of x) (span_where op (span_of x) (span_of y))) a (omega (arith, ints, clamps, low))
    (omega (arith, ints, clamps, high)) f
    (record { low = omega (arith, ints, clamps, p.low, there.low); high = omega (arith, ints, clamps, p.high, there.high) })

-- ---- and is monotone

-- a low end that is left out
low_mono : (s s' t t' : Span) (c c' : Bool) → is_low s t ≡ c → is_low s' t' ≡ c' → Within s s' → Within t t'
    → (if c' then s'.low +ℤ pos 1 else s'.low) ≤ℤ (if c then s.low +ℤ pos 1 else s.low)
low_mono s s' t t' true true is is' v w = omega (arith, ints, v.low)
low_mono s s' t t' false false is is' v w = v.low
low_mono s s' t t' true false is is' v w = omega (arith, ints, v.low)
low_mono s s' t t' false true is is' v w =
    let p : t'.high ≤ℤ s'.low = le_is _ _ (both_left _ (int_le s'.low t'.low) is') in
    let q : s'.low ≤ℤ t'.low = le_is _ _ (both_right (int_le t'.high s'.low) _ is') in
    cases p q (int_le s.low s'.low) refl
  where
    cases : t'.high ≤ℤ s'.low → s'.low ≤ℤ t'.low → (b : Bool) → int_le s.low s'.low ≡ b → (s'.low +ℤ pos 1) ≤ℤ s.low
    cases p q true le =
        let same : s.low ≤ℤ s'.low = le_is _ _ le in
        let found : is_low s t ≡ true = both_true _ _ (is_le t.high s.low (omega (arith, ints, p, v.low, w.high)))
        (is_le s.low t.low (omega (arith, ints, same, q, w.low))) in
        absurd (cc)
    cases p q false le = above s.low s'.low le
      where
        above : (a b : ℤ) → int_le a b ≡ false → (b +ℤ pos 1) ≤ℤ a
        above a b h = grind (arith, ints)

-- a high end that is
high_mono : (s s' t t' : Span) (c c' : Bool) → is_high s t ≡ c → is_high s' t' ≡ c' → Within s s' → Within t t'
    → (if c then s.high -ℤ pos 1 else s.high) ≤ℤ (if c' then s'.high -ℤ pos 1 else s'.high)
high_mono s s' t t' true true is is' v w = omega (arith, ints, v.high)
high_mono s s' t t' false false is is' v w = v.high
high_mono s s' t t' true false is is' v w = omega (arith, ints, v.high)
high_mono s s' t t' false true is is' v w =
    let p : t'.high ≤ℤ s'.high = le_is _ _ (both_left _ (int_le s'.high t'.low) is') in
    let q : s'.high ≤ℤ t'.low = le_is _ _ (both_right (int_le t'.high s'.high) _ is') in
    cases p q (int_le s'.high s.high) refl
  where
    cases : t'.high ≤ℤ s'.high → s'.high ≤ℤ t'.low → (b : Bool) → int_le s'.high s.high ≡ b
        → s.high ≤ℤ (s'.high -ℤ pos 1)
    cases p q true le =
        let same : s'.high ≤ℤ s.high = le_is _ _ le in
        let found : is_high s t ≡ true = both_true _ _ (is_le t.high s.high (omega (arith, ints, same, p, w.high)))
        (is_le s.high t.low (omega (arith, ints, q, v.high, w.low))) in
        absurd (cc)
    cases p q false le = under s.high s'.high le
      where
        under : (a b : ℤ) → int_le b a ≡ false → a ≤ℤ (b -ℤ pos 1)
        under a b h = grind (arith, ints)

-- where the relation holds
where_mono : (op : RelOp) (s s' t t' : Span) → Within s s' → Within t t'
    → Within (span_where op s t) (span_where op s' t')
where_mono Eq s s' t t' v w = w
where_mono Ne s s' t t' v w = record {
  low = low_mono s s' t t' _ _ refl refl v w;
  high = high_mono s s' t t' _ _ refl refl v w;
}
where_mono Lt s s' t t' v w = record { low = omega (arith, ints); high = omega (arith, ints, w.high) }
where_mono Le s s' t t' v w = record { low = omega (arith, ints); high = w.high }
where_mono Gt s s' t t' v w = record { low = omega (arith, ints, w.low); high = omega (arith, ints) }
where_mono Ge s s' t t' v w = record { low = w.low; high = omega (arith, ints) }

-- what is narrowed
pub narrowed_mono : (op : RelOp) (x x' y y' : Fact) → BelowFact x x' → BelowFact y y'
    → BelowFact (narrowed op x y) (narrowed op x' y')
narrowed_mono op x x' y y' p q =
    let v : Within (span_of x) (span_of x') = record { low = below_low x x' p; high = below_high x x' p } in
    let w : Within (span_of y) (span_of y') = record { low = below_low y y' q; high = below_high y y' q } in
    let there = where_mono op _ _ _ _ v w in
    let low : end_value Least ≤ℤ low_of x' = fits_low _ (low_fits x') in
    let high : high_of x' ≤ℤ end_value Greatest = fits_high _ (high_fits x') in
    surest_mono (meet (span_of x) (span_where op (span_of x) (span_of y)))
    (meet (span_of x') (span_where op (span_of x') (span_of y'))) (omega (arith, ints, clamps, low))
    (omega (arith, ints, clamps, high))
    (record { low = omega (arith, ints, clamps, v.low, there.low); high = omega (arith, ints, clamps, v.high, there.high) })

-- ---- where a relation is decided

-- what is in the relation may be
pub may_holds : (op : RelOp) (x y : Fact) (a b : ℤ) → Bounds x a → Bounds y b → relation_holds op a b ≡ true
    → may_relate op (span_of x) (span_of y) ≡ true
may_holds Eq x y a b p q h =
    let same : a ≡ b = eq_is a b h in
    both_true _ _ (is_le (low_of x) (high_of y) (omega (arith, ints, same, p.low, q.high)))
    (is_le (low_of y) (high_of x) (omega (arith, ints, same, q.low, p.high)))
may_holds Ne x y a b p q h = cases _ refl
  where
    cases : (c : Bool) → are_one (span_of x) (span_of y) ≡ c → not c ≡ true
    cases false is = refl
    cases true is =
        let low : high_of x ≤ℤ low_of y = le_is _ _ (both_left _ (int_le (high_of y) (low_of x)) is) in
        let high : high_of y ≤ℤ low_of x = le_is _ _ (both_right (int_le (high_of x) (low_of y)) _ is) in
        absurd (differ_is a b h (omega (arith, ints, low, high, p.low, p.high, q.low, q.high)))
may_holds Lt x y a b p q h = is_lt (low_of x) (high_of y) a b p.low q.high h
  where
    is_lt : (l g a b : ℤ) → l ≤ℤ a → b ≤ℤ g → int_lt a b ≡ true → int_lt l g ≡ true
    is_lt l g a b p q h = grind (arith, ints)
may_holds Le x y a b p q h =
    let m : a ≤ℤ b = le_is a b h in is_le (low_of x) (high_of y) (omega (arith, ints, m, p.low, q.high))
may_holds Gt x y a b p q h = is_lt (low_of y) (high_of x) b a q.low p.high h
  where
    is_lt : (l g a b : ℤ) → l ≤ℤ a → b ≤ℤ g → int_lt a b ≡ true → int_lt l g ≡ true
    is_lt l g a b p q h = grind (arith, ints)
may_holds Ge x y a b p q h =
    let m : b ≤ℤ a = le_is b a h in is_le (low_of y) (high_of x) (omega (arith, ints, m, q.low, p.high))

-- the relation that holds where this does not
pub denied_is : (op : RelOp) (a b : ℤ) → relation_holds (denied op) a b ≡ not (relation_holds op a b)
denied_is Eq a b = refl
denied_is Ne a b = twice (int_eq a b)
  where
    twice : (c : Bool) → c ≡ not (not c)
    twice true = refl
    twice false = refl
denied_is Lt a b = grind (arith, ints)
denied_is Le a b = grind (arith, ints)
denied_is Gt a b = grind (arith, ints)
denied_is Ge a b = grind (arith, ints)

-- the relation of the second to the first
pub turned_is : (op : RelOp) (a b : ℤ) → relation_holds (turned op) b a ≡ relation_holds op a b
turned_is Eq a b = grind (arith, ints)
turned_is Ne a b = ap not (eq_turned a b)
  where
    eq_turned : (a b : ℤ) → int_eq b a ≡ int_eq a b
    eq_turned a b = grind (arith, ints)
turned_is Lt a b = refl
turned_is Le a b = refl
turned_is Gt a b = refl
turned_is Ge a b = refl

-- two tests in the other order
swapped : (a b : Bool) → (a && b) ≡ (b && a)
swapped true true = refl
swapped true false = refl
swapped false true = refl
swapped false false = refl

-- so it may hold between two spans in the other order where it may hold between them
pub may_turned : (op : RelOp) (s t : Span) → may_relate (turned op) t s ≡ may_relate op s t
may_turned Eq s t = swapped (int_le t.low s.high) (int_le s.low t.high)
may_turned Ne s t = ap not (swapped (int_le t.high s.low) (int_le s.high t.low))
may_turned Lt s t = refl
may_turned Le s t = refl
may_turned Gt s t = refl
may_turned Ge s t = refl

-- what may hold between two spans may hold between any that they lie in
pub may_mono : (op : RelOp) (s s' t t' : Span) → Within s s' → Within t t' → may_relate op s t ≡ true
    → may_relate op s' t' ≡ true
may_mono Eq s s' t t' v w h = may_stay s s' t t' v w h
may_mono Ne s s' t t' v w h = not_falls (are_one s' t') (are_one s t) (one_stays s s' t t' v w) h
may_mono Lt s s' t t' v w h = lt_stays _ _ _ _ v.low w.high h
may_mono Le s s' t t' v w h = le_stays _ _ _ _ v.low w.high h
may_mono Gt s s' t t' v w h = lt_stays _ _ _ _ w.low v.high h
may_mono Ge s s' t t' v w h = le_stays _ _ _ _ w.low v.high h
