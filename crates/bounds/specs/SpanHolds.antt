-- The value of an operator lies in its span. For proofs only.
use Rattle.std.proofs.Common.{◌≡◌, ℕ, zero, suc, ◌*◌, ◌/◌, ◌%◌, ◌^◌, ◌<◌, ◌≤◌, ◌-◌, Bool, true, false, if◌then◌else◌, not, ◌||◌, refl, sym, ap, ◌∙◌, subst, arith, mod-eq_of_lt, ℤ, pos, negsuc, ◌+ℤ◌, ◌-ℤ◌, ◌*ℤ◌, neg_ℤ, int_le, int_lt, int_div, int_rem, unsigned_abs, bit_and, bit_or, bit_xor, FitsSigned, w64}
use Rattle.std.specs.Ordering.{int_eq}
use Rattle.std.proofs.lemmas.Int.{ints, clamps, int_wrap_fits}
use Rattle.std.proofs.lemmas.Nat.{mul-le, shr_le, and_le_l, and_le_r, le_or_l, le_or_r, or_lt, xor_lt, xor_comm, mod_below}
use Rattle.std.proofs.Math.IntN.{*ℤ_comm}
use Rattle.std.proofs.Math.Nat.{div-le_self, mod-le}
use Rattle.std.proofs.Math.Pow.{pow_pos}
use Rattle.std.specs.Int.{int_min, int_max, int_div_euclid}
use Rattle.std.specs.Prelude.{◌≤ℤ◌}
use Rattle.mir_base.specs.declared.operators.Op.{Op}
use Rattle.mir_base.specs.declared.operators.Op.TheVariants.{Add, Sub, Mul, Div, Mod, Min, Max, Eq, Ne, Lt, Le, Gt, Ge, Shl, Shr, Shra, And, Or, Xor}
use Rattle.mir_base.specs.declared.operators.UnOp.{UnOp}
use Rattle.mir_base.specs.declared.operators.UnOp.TheVariants.{Neg, Not}
use Rattle.mir_base.specs.Numbers.{wrapped, unsigned, distance, truth, value_of_op, value_of_un_op}
use Rattle.mir_base.specs.WordLaws.{bits_are}
use Rattle.bounds.specs.declared.ends.End.{End}
use Rattle.bounds.specs.declared.ends.End.TheVariants.{Least, Min32, Min16, Min8, MinusOne, Zero, One, Max8, MaxU8, Max16, MaxU16, Max32, MaxU32, Greatest}
use Rattle.bounds.specs.Ends.{end_value, ceiling}
use Rattle.bounds.specs.EndLaws.{le_is, is_le, both_left, both_right, ceiling_high}
use Rattle.bounds.specs.declared.spans.Span.{Span}
use Rattle.bounds.specs.Bounding.{In, span, all, is_natural, is_positive, natural, are_distances, shifted_all, span_mul, span_div, divided, size, is_negative, has_negative, reach, ones, are_alike, are_unlike, span_xor, IsWordSpan, span_mod, span_shl, span_shr, span_shra_by, span_shra, first_distance, depth, scaled, span_and, span_or, are_one, may_equal, span_lt, span_le, span_op, span_un_op}
use Rattle.bounds.specs.RoundingLaws.{InIfFits, both_true, le_trans, fits_from}
use Rattle.bounds.specs.Complements.{far, far_low, unsigned_negative, read_negative, xor_complement, xor_complements, and_complements}
use Rattle.bounds.specs.SpanMono.{shra_by_mono, natural_mono, pos_mono, positive_is, div_mono, power_mono, neg_mono, ones_above, not_negative, lt_stays}

-- ---- where rules apply

-- a number in a span
stands : (s : Span) (z : ℤ) → In s z → InIfFits s z
stands s z h = record { in_span = λ p q. h }

-- each is in more than all numbers, as that does not fit
all_holds : (z : ℤ) → InIfFits all z
all_holds z = record { in_span = λ p q. absurd (omega (arith, ints, p)) }

-- two rules, and what is said where neither applies
guard_three : (b c : Bool) (s t u : Span) (z : ℤ) → (b ≡ true → InIfFits s z) → (c ≡ true → InIfFits t z)
    → (b ≡ false → c ≡ false → InIfFits u z) → InIfFits (if b then s else if c then t else u) z
guard_three true c s t u z h k rest = h refl
guard_three false true s t u z h k rest = k refl
guard_three false false s t u z h k rest = rest refl refl

-- two rules, and nothing is said where neither applies
guard_two : (b c : Bool) (s t : Span) (z : ℤ) → (b ≡ true → InIfFits s z) → (c ≡ true → InIfFits t z)
    → InIfFits (if b then s else if c then t else all) z
guard_two b c s t z h k = guard_three b c s t all z h k (λ p q. all_holds z)

-- one rule, and what is said where it does not apply
guard_else : (b : Bool) (s u : Span) (z : ℤ) → (b ≡ true → InIfFits s z) → InIfFits u z → InIfFits (if b then s else u) z
guard_else b s u z h rest = guard_three b true s u u z h (λ k. rest) (λ p q. rest)

-- one rule, and nothing is said where it does not apply
guard : (b : Bool) (s : Span) (z : ℤ) → (b ≡ true → InIfFits s z) → InIfFits (if b then s else all) z
guard b s z h = guard_else b s all z h (all_holds z)

-- ---- numbers

-- an exact number in a span, wrapped where the span fits, is itself
exact : (s : Span) (z : ℤ) → In s z → InIfFits s (wrapped z)
exact s z h = record {
  in_span = λ p q.
      let low : end_value Least ≤ℤ z = le_trans _ _ _ p h.low in
      let high : z ≤ℤ end_value Greatest = le_trans _ _ _ h.high q in
      subst (In s) (sym (int_wrap_fits w64 z (fits_from z low high))) h;
}

-- a natural number read without a sign
pub unsigned_is : (n : ℕ) → FitsSigned w64 (pos n) → unsigned (pos n) ≡ n
unsigned_is n fits = sym (bits_are (pos n) fits)

-- natural numbers in a span
natural_low : (s : Span) (n : ℕ) → In s (pos n) → natural s.low ≤ n
natural_low s n h = natural_mono _ _ h.low

-- and at most its high end
natural_high : (s : Span) (n : ℕ) → In s (pos n) → n ≤ natural s.high
natural_high s n h = natural_mono _ _ h.high

-- no negative number is in a natural span
not_natural : {A : Type 0} (s : Span) (n : ℕ) → In s (negsuc n) → is_natural s ≡ true → A
not_natural s n h is = let low : pos 0 ≤ℤ s.low = le_is _ _ is in absurd (omega (arith, ints, low, h.low))

-- a negative number is no further below 0 than the low end
low_depth : (s : Span) (n : ℕ) → In s (negsuc n) → suc n ≤ depth s.low
low_depth s n h = is_deep s.low h.low
  where
    is_deep : (z : ℤ) → z ≤ℤ negsuc n → suc n ≤ depth z
    is_deep (pos m) le = absurd (omega (arith, ints, le))
    is_deep (negsuc m) le = omega (arith, ints, le)

-- ---- each operator

-- multiples by at most n
scaled_holds : (s : Span) (a : ℤ) (m n : ℕ) → In s a → m ≤ n → In (scaled s n) (a *ℤ pos m)
scaled_holds s (pos a) m n v le = record {
  low = omega (arith, ints);
  high = pos_mono _ _ (mul-le _ _ _ _ (natural_high s a v) le);
}
scaled_holds s (negsuc a) m n v le =
    let product : suc a * m ≤ depth s.low * n = mul-le _ _ _ _ (low_depth s a v) le in
    record { low = omega (arith, ints, product); high = omega (arith, ints) }

-- products by a natural span
by_natural : (s t : Span) (a b : ℤ) → In s a → In t b → is_natural t ≡ true
    → InIfFits (scaled s (natural t.high)) (wrapped (a *ℤ b))
by_natural s t a (pos b) v w is = exact _ _ (scaled_holds s a b _ v (natural_high t b w))
by_natural s t a (negsuc b) v w is = not_natural t b w is

-- products
mul_holds : (s t : Span) (a b : ℤ) → In s a → In t b → InIfFits (span_mul s t) (wrapped (a *ℤ b))
mul_holds s t a b v w =
    guard_two _ _ _ _ _ (by_natural s t a b v w)
    (λ k. subst (λ z. InIfFits (scaled t (natural s.high)) (wrapped z)) (*ℤ_comm b a) (by_natural t s b a w v k))

-- quotients by at least so much
divided_holds : (s : Span) (a : ℤ) (b n : ℕ) → In s a → n ≤ b → 0 < n → In (divided s n) (int_div a (pos b))
divided_holds s (pos a) b n v le some = record {
  low = omega (arith, ints);
  high = pos_mono _ _ (div_mono _ _ _ _ (natural_high s a v) le some);
}
divided_holds s (negsuc a) b n v le some = record {
  low = neg_mono _ _ (div_mono _ _ _ _ (low_depth s a v) le some);
  high = omega (arith, ints);
}

-- a quotient is no further from 0 than its dividend
size_holds : (s : Span) (a b : ℤ) → In s a
    → In (span (neg_ℤ (pos (size s))) (pos (size s))) (int_div a b)
size_holds s (pos a) (pos b) v =
    record { low = omega (arith, ints); high = omega (arith, ints, natural_high s a v, div-le_self a b) }
size_holds s (pos a) (negsuc b) v =
    record { low = omega (arith, ints, natural_high s a v, div-le_self a (suc b)); high = omega (arith, ints) }
size_holds s (negsuc a) (pos b) v =
    record { low = omega (arith, ints, low_depth s a v, div-le_self (suc a) b); high = omega (arith, ints) }
size_holds s (negsuc a) (negsuc b) v =
    record { low = omega (arith, ints); high = omega (arith, ints, low_depth s a v, div-le_self (suc a) (suc b)) }

-- quotients
div_holds : (s t : Span) (a b : ℤ) → In s a → In t b → InIfFits (span_div s t) (wrapped (int_div a b))
div_holds s t a b v w = guard_else _ _ _ _ (λ h. by_natural_divisor b w h) (exact _ _ (size_holds s a b v))
  where
    by_nothing : (a : ℤ) → In s a → In (divided s (natural (int_max t.low (pos 1)))) (int_div a (pos 0))
    by_nothing (pos a) v = record { low = omega (arith, ints); high = omega (arith, ints) }
    by_nothing (negsuc a) v = record { low = omega (arith, ints); high = omega (arith, ints) }

    by_natural_divisor : (b : ℤ) → In t b → is_natural t ≡ true
        → InIfFits (divided s (natural (int_max t.low (pos 1)))) (wrapped (int_div a b))
    by_natural_divisor (pos zero) w h = exact _ _ (by_nothing a v)
    by_natural_divisor (pos (suc b)) w h =
        let low : int_max t.low (pos 1) ≤ℤ pos (suc b) = omega (arith, ints, clamps, w.low) in
        exact _ _ (divided_holds s a (suc b) _ v (natural_mono _ _ low) (positive_is (int_max t.low (pos 1)) (omega (arith, ints, clamps))))
    by_natural_divisor (negsuc b) w h = not_natural t b w h

-- the high end of a remainder of a natural number
rem_high : (c : Bool) (h k : ℤ) (a : ℕ) (b : ℤ) → pos a ≤ℤ h → (c ≡ true → (pos 1 ≤ℤ b) × (b ≤ℤ k))
    → pos (a % unsigned_abs b) ≤ℤ (if c then int_min h (k -ℤ pos 1) else h)
rem_high false h k a b le on = omega (arith, ints, le, mod-le a (unsigned_abs b))
rem_high true h k a (pos b) le on =
    let low : pos 1 ≤ℤ pos b = (on refl).0 in
    let some : 0 < b = omega (arith, ints, low) in
    omega (arith, ints, clamps, le, mod-le a b, mod_below a b some, (on refl).1)
rem_high true h k a (negsuc b) le on = let low : pos 1 ≤ℤ negsuc b = (on refl).0 in absurd (omega (arith, ints, low))

-- what a positive span says of its numbers
positive_in : (t : Span) (b : ℤ) → In t b → is_positive t ≡ true → (pos 1 ≤ℤ b) × (b ≤ℤ t.high)
positive_in t b w is = let low : pos 1 ≤ℤ t.low = le_is _ _ is in (le_trans _ _ _ low w.low, w.high)

-- a remainder is nearer to 0 than a positive divisor
rem_near : (a b : ℤ) → pos 1 ≤ℤ b → ((pos 1 -ℤ b) ≤ℤ int_rem a b) × (int_rem a b ≤ℤ (b -ℤ pos 1))
rem_near (pos a) (pos b) low =
    let some : 0 < b = omega (arith, ints, low) in
    let small : a % b < b = mod_below a b some in
    (omega (arith, ints, small), omega (arith, ints, small))
rem_near (negsuc a) (pos b) low =
    let some : 0 < b = omega (arith, ints, low) in
    let small : suc a % b < b = mod_below (suc a) b some in
    (omega (arith, ints, small), omega (arith, ints, small))
rem_near a (negsuc b) low = absurd (omega (arith, ints, low))

-- so it lies in a span that a positive one gives
rem_in : (t : Span) (a b : ℤ) → In t b → is_positive t ≡ true
    → In (span (int_min (pos 0) (pos 1 -ℤ t.high)) (t.high -ℤ pos 1)) (int_rem a b)
rem_in t a b w is =
    let near = rem_near a b (positive_in t b w is).0 in
    record { low = omega (arith, ints, clamps, near.0, w.high); high = omega (arith, ints, near.1, w.high) }

-- remainders
mod_holds : (s t : Span) (a b : ℤ) → In s a → In t b → InIfFits (span_mod s t) (int_rem a b)
mod_holds s t (pos a) b v w =
    let natural_part : In (span (pos 0) (if is_positive t then int_min s.high (t.high -ℤ pos 1) else s.high))
    (pos (a % unsigned_abs b)) =
    record { low = omega (arith, ints); high = rem_high (is_positive t) s.high t.high a b v.high (positive_in t b w) } in
    guard_two _ _ _ _ _ (λ h. stands _ _ natural_part) (λ k. stands _ _ (rem_in t (pos a) b w k))
mod_holds s t (negsuc a) b v w =
    guard_two _ _ _ _ _ (λ h. not_natural s a v h) (λ k. stands _ _ (rem_in t (negsuc a) b w k))

-- a distance that does not wrap
distance_is : (t : Span) (b : ℤ) → In t b → are_distances t ≡ true
    → (natural t.low ≤ distance b) × (distance b ≤ natural t.high)
distance_is t (pos b) w is =
    let high : t.high ≤ℤ pos 63 = le_is _ _ (both_right (is_natural t) (int_le t.high (pos 63)) is) in
    let small : b < 64 = omega (arith, ints, high, w.high) in
    let same : b % 64 ≡ b = mod-eq_of_lt small in
    (omega (arith, same, natural_low t b w), omega (arith, same, natural_high t b w))
distance_is t (negsuc b) w is = not_natural t b w (both_left (is_natural t) (int_le t.high (pos 63)) is)

-- it is at least the least of the span
first_is : (t : Span) (b : ℤ) → In t b → are_distances t ≡ true → first_distance t ≤ distance b
first_is t b w is = let far = (distance_is t b w is).0 in omega (arith, far)

-- shifts to the left
shl_holds : (s t : Span) (a b : ℤ) → In s a → In t b
    → InIfFits (span_shl s t) (wrapped (a *ℤ pos (2 ^ distance b)))
shl_holds s t a b v w =
    guard _ _ _ (λ h. exact _ _ (scaled_holds s a _ _ v (power_mono _ _ (distance_is t b w h).1)))

-- read without a sign a number has 64 bits
unsigned_small : (a : ℤ) → unsigned a ≤ 18446744073709551615
unsigned_small (pos n) = omega (arith, mod_below n 18446744073709551616 (omega arith))
unsigned_small (negsuc n) = omega (arith, mod_below n 18446744073709551616 (omega arith))

-- shifts to the right without a sign
shr_holds : (s t : Span) (a b : ℤ) → FitsSigned w64 a → In s a → In t b
    → InIfFits (span_shr s t) (wrapped (pos (unsigned a / 2 ^ distance b)))
shr_holds s t a b fits v w =
    guard_two _ _ _ _ _
    (λ h. exact _ _ (record {
      low = omega (arith, ints);
      high = high_end a fits v (is_natural s) refl (first_is t b w h);
    }))
    (λ k. exact _ _ (record { low = omega (arith, ints); high = whole a fits v k }))
  where
    whole : (a : ℤ) → FitsSigned w64 a → In s a → is_natural s ≡ true
        → pos (unsigned a / 2 ^ distance b) ≤ℤ pos (natural s.high)
    whole (pos a) fits v is =
        pos_mono _ _ (omega (arith, shr_le (unsigned (pos a)) (distance b), unsigned_is a fits, natural_high s a v))
    whole (negsuc a) fits v is = not_natural s a v is

    high_end : (a : ℤ) → FitsSigned w64 a → In s a → (c : Bool) → is_natural s ≡ c → first_distance t ≤ distance b
        → pos (unsigned a / 2 ^ distance b) ≤ℤ
        (if c then pos (natural s.high / 2 ^ first_distance t) else shifted_all (first_distance t))
    high_end (pos a) fits v true is near =
        pos_mono _ _ (div_mono _ _ _ _ (omega (arith, unsigned_is a fits, natural_high s a v)) (power_mono _ _ near) (pow_pos (first_distance t)))
    high_end (negsuc a) fits v true is near = not_natural s a v is
    high_end a fits v false is near =
        pos_mono _ _ (div_mono _ _ _ _ (unsigned_small a) (power_mono _ _ near) (pow_pos (first_distance t)))

-- a shift by at least k
shra_by_holds : (s : Span) (a : ℤ) (j k : ℕ) → In s a → k ≤ j
    → InIfFits (span_shra_by s k) (int_div_euclid a (pos (2 ^ j)))
shra_by_holds s a j k v le =
    let wide = shra_by_mono (span a a) s j k (record { low = v.low; high = v.high }) le in
    stands _ _ (record {
      low = le_trans _ _ _ wide.low (omega (arith, ints, clamps));
      high = le_trans _ _ _ (omega (arith, ints, clamps)) wide.high;
    })

-- shifts to the right with a sign
shra_holds : (s t : Span) (a b : ℤ) → In s a → In t b
    → InIfFits (span_shra s t) (int_div_euclid a (pos (2 ^ distance b)))
shra_holds s t a b v w = cases _ refl
  where
    cases : (c : Bool) → are_distances t ≡ c
        → InIfFits (if c then span_shra_by s (first_distance t) else span_shra_by s 0) (int_div_euclid a (pos (2 ^ distance b)))
    cases true is = shra_by_holds s a (distance b) (first_distance t) v (first_is t b w is)
    cases false is = shra_by_holds s a (distance b) 0 v (omega arith)

-- ---- operators bit by bit

-- a natural end has ones alone: one more than it is a power of two
pub ones_end : (e : End) → pos 0 ≤ℤ end_value e → (k : ℕ) × (end_value e +ℤ pos 1 ≡ pos (2 ^ k))
ones_end Least le = absurd (omega (arith, ints, le))
ones_end Min32 le = absurd (omega (arith, ints, le))
ones_end Min16 le = absurd (omega (arith, ints, le))
ones_end Min8 le = absurd (omega (arith, ints, le))
ones_end MinusOne le = absurd (omega (arith, ints, le))
ones_end Zero le = (0, refl)
ones_end One le = (1, refl)
ones_end Max8 le = (7, refl)
ones_end MaxU8 le = (8, refl)
ones_end Max16 le = (15, refl)
ones_end MaxU16 le = (16, refl)
ones_end Max32 le = (31, refl)
ones_end MaxU32 le = (32, refl)
ones_end Greatest le = (63, refl)

-- what keeps numbers below powers of two keeps them at most such ends
below_end : (f : ℕ → ℕ → ℕ) (a b : ℕ) (e : End)
    → ((k a b : ℕ) → a < 2 ^ k → b < 2 ^ k → f a b < 2 ^ k) → pos a ≤ℤ end_value e → pos b ≤ℤ end_value e
    → pos (f a b) ≤ℤ end_value e
below_end f a b e keeps p q =
    let ones = ones_end e (omega (arith, ints, p)) in
    let left : a < 2 ^ ones.0 = omega (arith, ints, p, ones.1) in
    let right : b < 2 ^ ones.0 = omega (arith, ints, q, ones.1) in
    omega (arith, ints, ones.1, keeps ones.0 a b left right)

-- `or` has 64 bits
or_small : (a b : ℤ) → bit_or (unsigned a) (unsigned b) < 2 ^ 64
or_small a b = or_lt 64 (unsigned a) (unsigned b) (omega (arith, unsigned_small a)) (omega (arith, unsigned_small b))

-- no number is further than its span reaches
far_in : (s : Span) (a : ℤ) → In s a → pos (far a) ≤ℤ reach s
far_in s (pos n) v = omega (arith, ints, clamps, natural_high s n v)
far_in s (negsuc n) v = omega (arith, ints, clamps, v.low)

-- so what keeps numbers below powers of two keeps them at most the number of ones
below_ones : (f : ℕ → ℕ → ℕ) (s t : Span) (a b : ℤ) → ((k a b : ℕ) → a < 2 ^ k → b < 2 ^ k → f a b < 2 ^ k)
    → IsWordSpan s → IsWordSpan t → In s a → In t b → pos (f (far a) (far b)) ≤ℤ ones s t
below_ones f s t a b keeps p q v w =
    below_end f (far a) (far b) (ceiling (int_max (reach s) (reach t))) keeps
    (le_trans _ _ _ (far_in s a v) (ones_above s t p q).0) (le_trans _ _ _ (far_in t b w) (ones_above s t p q).1)

-- a number at least what is said where it is not known to be natural
natural_or : (c : Bool) (l z : ℤ) → (c ≡ true → pos 0 ≤ℤ z) → l ≤ℤ z → (if c then pos 0 else l) ≤ℤ z
natural_or true l z p q = p refl
natural_or false l z p q = q

-- at most what is said where it is not known to be negative
negative_or : (c : Bool) (z h : ℤ) → (c ≡ true → z ≤ℤ negsuc 0) → (c ≡ false → z ≤ℤ h) → z ≤ℤ (if c then negsuc 0 else h)
negative_or true z h p q = p refl
negative_or false z h p q = q refl

-- no natural number is in a negative span
not_below : {A : Type 0} (s : Span) (n : ℕ) → In s (pos n) → is_negative s ≡ true → A
not_below s n v h =
    let bad : int_lt (pos 0) (pos 0) ≡ true = lt_stays (pos 0) s.high (pos 0) (pos 0)
    (le_trans (pos 0) (pos n) s.high (omega (arith, ints)) v.high) (omega (arith, ints)) h in
    absurd (cc)

-- what follows from each of two tests follows from one of them
from_either : {A : Type 0} (b c : Bool) → (b ≡ true → A) → (c ≡ true → A) → (b || c) ≡ true → A
from_either true c f g h = f refl
from_either false c f g h = g h

-- the lesser high end where both are natural
and_high : (c : Bool) (h k : ℤ) (n : ℕ) → pos n ≤ℤ h → (c ≡ true → pos n ≤ℤ k) → pos n ≤ℤ (if c then int_min h k else h)
and_high true h k n p q = omega (arith, ints, clamps, p, q refl)
and_high false h k n p q = p

-- `and` of spans that may be negative
and_wide : (s t : Span) (a b : ℤ) → IsWordSpan s → IsWordSpan t → FitsSigned w64 a → FitsSigned w64 b → In s a → In t b
    → InIfFits (span (negsuc 0 -ℤ ones s t) (int_max s.high t.high)) (wrapped (pos (bit_and (unsigned a) (unsigned b))))
and_wide s t (pos a) b p q f g v w =
    let some : pos 0 ≤ℤ ones s t = le_trans _ _ _ (omega (arith, ints)) (below_ones bit_or s t (pos a) b or_lt p q v w) in
    exact _ _ (record {
      low = omega (arith, ints, some);
      high = omega (arith, ints, clamps, unsigned_is a f, and_le_l (unsigned (pos a)) (unsigned b), v.high);
    })
and_wide s t (negsuc a) (pos b) p q f g v w =
    let some : pos 0 ≤ℤ ones s t = le_trans _ _ _ (omega (arith, ints)) (below_ones bit_or s t (negsuc a) (pos b) or_lt p q v w) in
    exact _ _ (record {
      low = omega (arith, ints, some);
      high = omega (arith, ints, clamps, unsigned_is b g, and_le_r (unsigned (negsuc a)) (unsigned (pos b)), w.high);
    })
and_wide s t (negsuc a) (negsuc b) p q f g v w =
    let low : a < 2 ^ 63 = far_low (negsuc a) f in
    let low' : b < 2 ^ 63 = far_low (negsuc b) g in
    let bits : bit_and (unsigned (negsuc a)) (unsigned (negsuc b)) ≡ 18446744073709551615 - bit_or a b =
    ap (λ n. bit_and n (unsigned (negsuc b))) (unsigned_negative a f)
    ∙ ap (λ n. bit_and (18446744073709551615 - a) n) (unsigned_negative b g)
    ∙ and_complements a b (omega (arith, low)) (omega (arith, low')) in
    subst (InIfFits _) (sym (read_negative (bit_or a b) _ (or_lt 63 a b low low') bits)) (stands _ _ (record {
      low = omega (arith, ints, below_ones bit_or s t (negsuc a) (negsuc b) or_lt p q v w);
      high = omega (arith, ints, clamps, le_or_l a b, v.high);
    }))

-- `and`
and_holds : (s t : Span) (a b : ℤ) → IsWordSpan s → IsWordSpan t → FitsSigned w64 a → FitsSigned w64 b → In s a → In t b
    → InIfFits (span_and s t) (wrapped (pos (bit_and (unsigned a) (unsigned b))))
and_holds s t a b p q fit_a fit_b v w =
    guard_three _ _ _ _ _ _
    (λ h. exact _ _ (record {
      low = omega (arith, ints);
      high = and_high _ _ _ _ (at_left a fit_a v h) (at_right b fit_b w);
    }))
    (λ k. exact _ _ (record { low = omega (arith, ints); high = at_right b fit_b w k }))
    (λ h k. and_wide s t a b p q fit_a fit_b v w)
  where
    at_left : (a : ℤ) → FitsSigned w64 a → In s a → is_natural s ≡ true
        → pos (bit_and (unsigned a) (unsigned b)) ≤ℤ s.high
    at_left (pos a) fit v h =
        let e : unsigned (pos a) ≡ a = unsigned_is a fit in
        omega (arith, ints, e, and_le_l (unsigned (pos a)) (unsigned b), v.high)
    at_left (negsuc a) fit v h = not_natural s a v h

    at_right : (b : ℤ) → FitsSigned w64 b → In t b → is_natural t ≡ true
        → pos (bit_and (unsigned a) (unsigned b)) ≤ℤ t.high
    at_right (pos b) fit w h =
        let e : unsigned (pos b) ≡ b = unsigned_is b fit in
        omega (arith, ints, e, and_le_r (unsigned a) (unsigned (pos b)), w.high)
    at_right (negsuc b) fit w h = not_natural t b w h

-- `or` with a negative number is negative, and no less than it
or_below : (s t : Span) (n u : ℕ) → IsWordSpan s → IsWordSpan t → FitsSigned w64 (negsuc n)
    → int_min s.low t.low ≤ℤ negsuc n → unsigned (negsuc n) ≤ u → u < 2 ^ 64 → InIfFits (span_or s t) (wrapped (pos u))
or_below s t n u p q f low le small =
    let bound : n < 2 ^ 63 = far_low (negsuc n) f in
    let near : 18446744073709551615 - u ≤ n = omega (arith, le, unsigned_negative n f) in
    let high : int_max s.high t.high ≤ℤ end_value (ceiling (int_max s.high t.high)) =
    ceiling_high _ (omega (arith, ints, clamps, p.high.high, q.high.high)) in
    subst (InIfFits (span_or s t)) (sym (read_negative (18446744073709551615 - u) u (omega (arith, near, bound)) (omega (arith, small))))
    (stands _ _ (record {
      low = omega (arith, ints, low, near);
      high = negative_or (has_negative s t) (negsuc (18446744073709551615 - u)) (end_value (ceiling (int_max s.high t.high)))
          (λ h. omega (arith, ints)) (λ h. omega (arith, ints, clamps, high, not_negative s t h));
    }))

-- `or`
or_holds : (s t : Span) (a b : ℤ) → IsWordSpan s → IsWordSpan t → FitsSigned w64 a → FitsSigned w64 b → In s a → In t b
    → InIfFits (span_or s t) (wrapped (pos (bit_or (unsigned a) (unsigned b))))
or_holds s t (pos a) (pos b) p q f g v w =
    let same : unsigned (pos a) ≡ a = unsigned_is a f in
    let same' : unsigned (pos b) ≡ b = unsigned_is b g in
    let high : int_max s.high t.high ≤ℤ end_value (ceiling (int_max s.high t.high)) =
    ceiling_high _ (omega (arith, ints, clamps, p.high.high, q.high.high)) in
    let left : pos (unsigned (pos a)) ≤ℤ end_value (ceiling (int_max s.high t.high)) =
    omega (arith, ints, clamps, high, same, v.high) in
    let right : pos (unsigned (pos b)) ≤ℤ end_value (ceiling (int_max s.high t.high)) =
    omega (arith, ints, clamps, high, same', w.high) in
    exact _ _ (record {
      low = omega (arith, ints, clamps, v.low, same, le_or_l (unsigned (pos a)) (unsigned (pos b)));
      high = negative_or _ _ _ (from_either _ _ (not_below s a v) (not_below t b w))
          (λ h. below_end bit_or _ _ (ceiling (int_max s.high t.high)) or_lt left right);
    })
or_holds s t (negsuc a) b p q f g v w =
    or_below s t a _ p q f (omega (arith, ints, clamps, v.low)) (le_or_l (unsigned (negsuc a)) (unsigned b)) (or_small (negsuc a) b)
or_holds s t (pos a) (negsuc b) p q f g v w =
    or_below s t b _ p q g (omega (arith, ints, clamps, w.low)) (le_or_r (unsigned (pos a)) (unsigned (negsuc b))) (or_small (pos a) (negsuc b))

-- `xor` where the signs are alike
xor_alike : (s t : Span) (x : ℕ) → pos x ≤ℤ ones s t → (are_unlike s t ≡ true → pos x ≤ℤ negsuc 0)
    → In (span_xor s t) (pos x)
xor_alike s t x high off = record {
  low = natural_or (are_alike s t) (negsuc 0 -ℤ ones s t) (pos x) (λ h. omega (arith, ints)) (omega (arith, ints, high));
  high = negative_or (are_unlike s t) (pos x) (ones s t) off (λ h. high);
}

-- where they differ
xor_unlike : (s t : Span) (x : ℕ) → pos x ≤ℤ ones s t → (are_alike s t ≡ true → pos 0 ≤ℤ negsuc x)
    → In (span_xor s t) (negsuc x)
xor_unlike s t x high off = record {
  low = natural_or (are_alike s t) (negsuc 0 -ℤ ones s t) (negsuc x) off (omega (arith, ints, high));
  high = negative_or (are_unlike s t) (negsuc x) (ones s t) (λ h. omega (arith, ints)) (λ h. omega (arith, ints, high));
}

-- read with a sign
xor_apart : (s t : Span) (x u : ℕ) → x < 2 ^ 63 → u ≡ 18446744073709551615 - x → pos x ≤ℤ ones s t
    → (are_alike s t ≡ true → pos 0 ≤ℤ negsuc x) → InIfFits (span_xor s t) (wrapped (pos u))
xor_apart s t x u low bits high off =
    subst (InIfFits (span_xor s t)) (sym (read_negative x u low bits)) (stands _ _ (xor_unlike s t x high off))

-- `xor`
xor_holds : (s t : Span) (a b : ℤ) → IsWordSpan s → IsWordSpan t → FitsSigned w64 a → FitsSigned w64 b → In s a → In t b
    → InIfFits (span_xor s t) (wrapped (pos (bit_xor (unsigned a) (unsigned b))))
xor_holds s t (pos a) (pos b) p q f g v w =
    let bits : bit_xor a b ≡ bit_xor (unsigned (pos a)) (unsigned (pos b)) =
    sym (ap (λ n. bit_xor n (unsigned (pos b))) (unsigned_is a f) ∙ ap (bit_xor a) (unsigned_is b g)) in
    subst (λ n. InIfFits (span_xor s t) (wrapped (pos n))) bits
    (exact _ _ (xor_alike s t (bit_xor a b) (below_ones bit_xor s t (pos a) (pos b) xor_lt p q v w)
    (from_either _ _ (λ h. not_below t b w (both_right (is_natural s) (is_negative t) h))
    (λ h. not_below s a v (both_left (is_negative s) (is_natural t) h)))))
xor_holds s t (negsuc a) (negsuc b) p q f g v w =
    let bits : bit_xor a b ≡ bit_xor (unsigned (negsuc a)) (unsigned (negsuc b)) =
    sym (ap (λ n. bit_xor n (unsigned (negsuc b))) (unsigned_negative a f)
    ∙ ap (bit_xor (18446744073709551615 - a)) (unsigned_negative b g)
    ∙ xor_complements a b (omega (arith, far_low (negsuc a) f)) (omega (arith, far_low (negsuc b) g))) in
    subst (λ n. InIfFits (span_xor s t) (wrapped (pos n))) bits
    (exact _ _ (xor_alike s t (bit_xor a b) (below_ones bit_xor s t (negsuc a) (negsuc b) xor_lt p q v w)
    (from_either _ _ (λ h. not_natural s a v (both_left (is_natural s) (is_negative t) h))
    (λ h. not_natural t b w (both_right (is_negative s) (is_natural t) h)))))
xor_holds s t (negsuc a) (pos b) p q f g v w =
    let low : a < 2 ^ 63 = far_low (negsuc a) f in
    let low' : b < 2 ^ 63 = far_low (pos b) g in
    xor_apart s t (bit_xor a b) _ (xor_lt 63 a b low low')
    (ap (λ n. bit_xor n (unsigned (pos b))) (unsigned_negative a f) ∙ ap (bit_xor (18446744073709551615 - a)) (unsigned_is b g)
    ∙ xor_complement a b (omega (arith, low)) (omega (arith, low')))
    (below_ones bit_xor s t (negsuc a) (pos b) xor_lt p q v w)
    (from_either _ _ (λ h. not_natural s a v (both_left (is_natural s) (is_natural t) h))
    (λ h. not_below t b w (both_right (is_negative s) (is_negative t) h)))
xor_holds s t (pos a) (negsuc b) p q f g v w =
    let low : a < 2 ^ 63 = far_low (pos a) f in
    let low' : b < 2 ^ 63 = far_low (negsuc b) g in
    xor_apart s t (bit_xor a b) _ (xor_lt 63 a b low low')
    (xor_comm (unsigned (pos a)) (unsigned (negsuc b))
    ∙ ap (λ n. bit_xor n (unsigned (pos a))) (unsigned_negative b g) ∙ ap (bit_xor (18446744073709551615 - b)) (unsigned_is a f)
    ∙ xor_complement b a (omega (arith, low')) (omega (arith, low)) ∙ ap (λ n. 18446744073709551615 - n) (xor_comm b a))
    (below_ones bit_xor s t (pos a) (negsuc b) xor_lt p q v w)
    (from_either _ _ (λ h. not_natural t b w (both_right (is_natural s) (is_natural t) h))
    (λ h. not_below s a v (both_left (is_negative s) (is_negative t) h)))

-- a truth value lies between two, of which the first means the test and the test means the second
truth_in : (l b h : Bool) → (l ≡ true → b ≡ true) → (b ≡ true → h ≡ true) → In (span (truth l) (truth h)) (truth b)
truth_in l b h p q = record { low = steps l b p; high = steps b h q }
  where
    steps : (a b : Bool) → (a ≡ true → b ≡ true) → truth a ≤ℤ truth b
    steps true true h = omega (arith, ints)
    steps true false h = let bad : false ≡ true = h refl in absurd (cc)
    steps false true h = omega (arith, ints)
    steps false false h = omega (arith, ints)

-- the negation of what a test means
contrary : (a b : Bool) → (a ≡ true → b ≡ true) → not b ≡ true → not a ≡ true
contrary true true h k = k
contrary true false h k = let bad : false ≡ true = h refl in absurd (cc)
contrary false b h k = refl

-- a is below b where the greatest that a can be is below the least that b can be
lt_low : (a b h l : ℤ) → a ≤ℤ h → l ≤ℤ b → int_lt h l ≡ true → int_lt a b ≡ true
lt_low a b h l p q is = grind (arith, ints)

-- a is at most b where the greatest that a can be is at most the least that b can be
le_low : (a b h l : ℤ) → a ≤ℤ h → l ≤ℤ b → int_le h l ≡ true → int_le a b ≡ true
le_low a b h l p q is = let m : h ≤ℤ l = le_is _ _ is in is_le a b (omega (arith, ints, p, q, m))

-- below
lt_holds : (s t : Span) (a b : ℤ) → In s a → In t b → In (span_lt s t) (truth (int_lt a b))
lt_holds s t a b v w = truth_in _ _ _ (lt_low a b _ _ v.high w.low) (lt_low _ _ a b v.low w.high)

-- at most
le_holds : (s t : Span) (a b : ℤ) → In s a → In t b → In (span_le s t) (truth (int_le a b))
le_holds s t a b v w = truth_in _ _ _ (le_low a b _ _ v.high w.low) (le_low _ _ a b v.low w.high)

-- numbers of one number are equal
one_means : (s t : Span) (a b : ℤ) → In s a → In t b → are_one s t ≡ true → int_eq a b ≡ true
one_means s t a b v w is =
    let p : s.high ≤ℤ t.low = le_is _ _ (both_left _ (int_le t.high s.low) is) in
    let q : t.high ≤ℤ s.low = le_is _ _ (both_right (int_le s.high t.low) _ is) in
    let same : a ≡ b = omega (arith, ints, p, q, v.low, v.high, w.low, w.high) in
    subst (λ c. int_eq a c ≡ true) same (eq_same a)
  where
    eq_same : (a : ℤ) → int_eq a a ≡ true
    eq_same a = grind (arith, ints)

-- numbers that are equal may be
equal_means : (s t : Span) (a b : ℤ) → In s a → In t b → int_eq a b ≡ true → may_equal s t ≡ true
equal_means s t a b v w is =
    let same : a ≡ b = eq_is a b is in
    both_true _ _ (is_le s.low t.high (omega (arith, ints, same, v.low, w.high)))
    (is_le t.low s.high (omega (arith, ints, same, w.low, v.high)))
  where
    eq_is : (a b : ℤ) → int_eq a b ≡ true → a ≡ b
    eq_is a b h = grind (arith, ints)

-- each operator
pub span_holds : (op : Op) (s t : Span) (a b : ℤ) → IsWordSpan s → IsWordSpan t
    → FitsSigned w64 a → FitsSigned w64 b → In s a → In t b → InIfFits (span_op op s t) (value_of_op op a b)
span_holds Add s t a b p q f g v w =
    exact _ _ (record { low = omega (arith, ints, v.low, w.low); high = omega (arith, ints, v.high, w.high) })
span_holds Sub s t a b p q f g v w =
    exact _ _ (record { low = omega (arith, ints, v.low, w.high); high = omega (arith, ints, v.high, w.low) })
span_holds Mul s t a b p q f g v w = mul_holds s t a b v w
span_holds Div s t a b p q f g v w = div_holds s t a b v w
span_holds Mod s t a b p q f g v w = mod_holds s t a b v w
span_holds Min s t a b p q f g v w =
    stands _ _ (record {
      low = omega (arith, ints, clamps, v.low, w.low);
      high = omega (arith, ints, clamps, v.high, w.high);
    })
span_holds Max s t a b p q f g v w =
    stands _ _ (record {
      low = omega (arith, ints, clamps, v.low, w.low);
      high = omega (arith, ints, clamps, v.high, w.high);
    })
span_holds Eq s t a b p q f g v w = stands _ _ (truth_in _ _ _ (one_means s t a b v w) (equal_means s t a b v w))
span_holds Ne s t a b p q f g v w =
    stands _ _ (truth_in _ _ _ (contrary _ _ (equal_means s t a b v w)) (contrary _ _ (one_means s t a b v w)))
span_holds Lt s t a b p q f g v w = stands _ _ (lt_holds s t a b v w)
span_holds Le s t a b p q f g v w = stands _ _ (le_holds s t a b v w)
span_holds Gt s t a b p q f g v w = stands _ _ (lt_holds t s b a w v)
span_holds Ge s t a b p q f g v w = stands _ _ (le_holds t s b a w v)
span_holds Shl s t a b p q f g v w = shl_holds s t a b v w
span_holds Shr s t a b p q f g v w = shr_holds s t a b f v w
span_holds Shra s t a b p q f g v w = shra_holds s t a b v w
span_holds And s t a b p q f g v w = and_holds s t a b p q f g v w
span_holds Or s t a b p q f g v w = or_holds s t a b p q f g v w
span_holds Xor s t a b p q f g v w = xor_holds s t a b p q f g v w

-- and so does each operator of one operand
pub span_un_holds : (op : UnOp) (s : Span) (a : ℤ) → In s a → InIfFits (span_un_op op s) (value_of_un_op op a)
span_un_holds Neg s a v = exact _ _ (record { low = omega (arith, ints, v.high); high = omega (arith, ints, v.low) })
span_un_holds Not s a v =
    let zero_in : In (span (pos 0) (pos 0)) (pos 0) = record { low = omega (arith, ints); high = omega (arith, ints) } in
    stands _ _ (truth_in _ _ _ (one_means s _ a (pos 0) v zero_in) (equal_means s _ a (pos 0) v zero_in))
