-- The surer the operands, the surer the result: the spans of operators are monotone. For proofs only.
use Rattle.std.proofs.Common.{◌≡◌, ℕ, ◌*◌, ◌/◌, ◌^◌, ◌<◌, ◌≤◌, Bool, true, false, if◌then◌else◌, not, ◌&&◌, ◌||◌, refl, sym, subst, arith, ℤ, pos, negsuc, neg_ℤ, ◌-ℤ◌, ◌*ℤ◌, int_div, int_le, int_lt}
use Rattle.std.proofs.lemmas.Int.{ints, clamps}
use Rattle.std.proofs.lemmas.Nat.{mul-le, le-div, shr_le, div-add-mod'}
use Rattle.std.proofs.Math.Nat.{div-le_self}
use Rattle.std.proofs.Math.Pow.{pow_mono, pow_pos}
use Rattle.std.specs.Int.{int_min, int_max, int_div_euclid}
use Rattle.std.specs.Prelude.{◌≤ℤ◌}
use Rattle.mir_base.specs.declared.operators.Op.{Op}
use Rattle.mir_base.specs.declared.operators.Op.TheVariants.{Add, Sub, Mul, Div, Mod, Min, Max, Eq, Ne, Lt, Le, Gt, Ge, Shl, Shr, Shra, And, Or, Xor}
use Rattle.mir_base.specs.declared.operators.UnOp.{UnOp}
use Rattle.mir_base.specs.declared.operators.UnOp.TheVariants.{Neg, Not}
use Rattle.mir_base.specs.Numbers.{truth}
use Rattle.bounds.specs.declared.ends.End.TheVariants.{Greatest}
use Rattle.bounds.specs.Ends.{end_value, ceiling}
use Rattle.bounds.specs.EndLaws.{le_is, is_le, both_left, both_right, value_mono, ceiling_high}
use Rattle.bounds.specs.declared.spans.Span.{Span}
use Rattle.bounds.specs.Bounding.{Within, span, all, is_natural, natural, are_distances, shifted_all, span_mul, span_div, divided, is_negative, has_negative, reach, ones, span_xor, IsWordSpan, span_mod, span_shl, span_shr, span_shra_by, span_shra, first_distance, depth, scaled, span_and, span_or, are_one, may_equal, span_lt, span_le, span_op, span_un_op}
use Rattle.bounds.specs.RoundingLaws.{WithinIfFits, both_true, ceiling_mono, le_trans}

-- ---- where rules apply

-- a span that lies in another does where that fits
pub lies : (s t : Span) → Within s t → WithinIfFits s t
lies s t w = record { within = λ p q. w }

-- each span lies in more than all numbers, as that does not fit
pub in_all : (s : Span) → WithinIfFits s all
in_all s = record { within = λ p q. absurd (omega (arith, ints, p)) }

-- two rules, of which the first is the surer, and what is said where neither applies
guard_three : (b b' c c' : Bool) (s s' t t' u u' : Span) → (b' ≡ true → b ≡ true) → (c' ≡ true → c ≡ true)
    → (b' ≡ true → WithinIfFits s s') → (b ≡ true → c' ≡ true → WithinIfFits s t') → (c' ≡ true → WithinIfFits t t')
    → (b ≡ true → WithinIfFits s u') → (c ≡ true → WithinIfFits t u') → WithinIfFits u u'
    → WithinIfFits (if b then s else if c then t else u) (if b' then s' else if c' then t' else u')
guard_three true true c c' s s' t t' u u' on on' one mixed two first second rest = one refl
guard_three false true c c' s s' t t' u u' on on' one mixed two first second rest = let bad : false ≡ true = on refl in absurd (cc)
guard_three true false c true s s' t t' u u' on on' one mixed two first second rest = mixed refl refl
guard_three true false c false s s' t t' u u' on on' one mixed two first second rest = first refl
guard_three false false true true s s' t t' u u' on on' one mixed two first second rest = two refl
guard_three false false false true s s' t t' u u' on on' one mixed two first second rest =
    let bad : false ≡ true = on' refl in absurd (cc)
guard_three false false true false s s' t t' u u' on on' one mixed two first second rest = second refl
guard_three false false false false s s' t t' u u' on on' one mixed two first second rest = rest

-- two rules, and nothing is said where neither applies
guard_two : (b b' c c' : Bool) (s s' t t' : Span) → (b' ≡ true → b ≡ true) → (c' ≡ true → c ≡ true)
    → (b' ≡ true → WithinIfFits s s') → (b ≡ true → c' ≡ true → WithinIfFits s t') → (c' ≡ true → WithinIfFits t t')
    → WithinIfFits (if b then s else if c then t else all) (if b' then s' else if c' then t' else all)
guard_two b b' c c' s s' t t' on on' one mixed two =
    guard_three b b' c c' s s' t t' all all on on' one mixed two (λ h. in_all s) (λ h. in_all t) (in_all all)

-- one rule, and what is said where it does not apply
guard_else : (b b' : Bool) (s s' u u' : Span) → (b' ≡ true → b ≡ true) → (b' ≡ true → WithinIfFits s s')
    → (b ≡ true → WithinIfFits s u') → WithinIfFits u u' → WithinIfFits (if b then s else u) (if b' then s' else u')
guard_else b b' s s' u u' on one first rest =
    guard_three b b' false false s s' u u' u u' on (λ h. h) one (λ h k. first h) (λ h. rest) first (λ h. rest) rest

-- one rule, and nothing is said where it does not apply
guard : (b b' : Bool) (s s' : Span) → (b' ≡ true → b ≡ true) → (b' ≡ true → WithinIfFits s s')
    → WithinIfFits (if b then s else all) (if b' then s' else all)
guard b b' s s' on one = guard_else b b' s s' all all on one (λ h. in_all s) (in_all all)

-- a test of being at least a number stays
least_stays : (c : ℤ) (s s' : Span) → Within s s' → int_le c s'.low ≡ true → int_le c s.low ≡ true
least_stays c s s' w h = let low : c ≤ℤ s'.low = le_is _ _ h in is_le _ _ (le_trans _ _ _ low w.low)

-- and of being at most one
most_stays : (c : ℤ) (s s' : Span) → Within s s' → int_le s'.high c ≡ true → int_le s.high c ≡ true
most_stays c s s' w h = let high : s'.high ≤ℤ c = le_is _ _ h in is_le _ _ (le_trans _ _ _ w.high high)

-- two tests that stay
both_stay : (a a' b b' : Bool) → (a' ≡ true → a ≡ true) → (b' ≡ true → b ≡ true) → (a' && b') ≡ true → (a && b) ≡ true
both_stay a a' b b' p q h = both_true a b (p (both_left a' b' h)) (q (both_right a' b' h))

-- one of two tests that stay
either_stays : (a a' b b' : Bool) → (a' ≡ true → a ≡ true) → (b' ≡ true → b ≡ true) → (a' || b') ≡ true → (a || b) ≡ true
either_stays true a' b b' p q h = refl
either_stays false true b b' p q h = let bad : false ≡ true = p refl in absurd (cc)
either_stays false false b b' p q h = q h

-- where one number is found less than another, each lesser one is found less than each greater one
pub lt_stays : (a a' b b' : ℤ) → a ≤ℤ a' → b' ≤ℤ b → int_lt a' b' ≡ true → int_lt a b ≡ true
lt_stays a a' b b' p q h = grind (arith, ints)

-- a negative span stays negative
negative_stays : (s s' : Span) → Within s s' → is_negative s' ≡ true → is_negative s ≡ true
negative_stays s s' w h = lt_stays _ _ (pos 0) (pos 0) w.high (omega (arith, ints)) h

-- distances stay distances
distances_stay : (t t' : Span) → Within t t' → are_distances t' ≡ true → are_distances t ≡ true
distances_stay t t' w = both_stay _ _ _ _ (least_stays (pos 0) t t' w) (most_stays (pos 63) t t' w)

-- ---- numbers

-- the natural part is monotone
pub natural_mono : (a b : ℤ) → a ≤ℤ b → natural a ≤ natural b
natural_mono (pos a) (pos b) le = omega (arith, ints, le)
natural_mono (pos a) (negsuc b) le = absurd (omega (arith, ints, le))
natural_mono (negsuc a) b le = omega arith

-- least distances rise
distance_mono : (t t' : Span) → Within t t' → first_distance t' ≤ first_distance t
distance_mono t t' w = omega (arith, natural_mono _ _ w.low)

-- natural numbers in order
pub pos_mono : (a b : ℕ) → a ≤ b → pos a ≤ℤ pos b
pos_mono a b le = omega (arith, ints, le)

-- a number that is at least 1 has a natural part that is
pub positive_is : (z : ℤ) → pos 1 ≤ℤ z → 0 < natural z
positive_is (pos n) le = omega (arith, ints, le)
positive_is (negsuc n) le = absurd (omega (arith, ints, le))

-- a greater dividend by a lesser divisor
pub div_mono : (a b c d : ℕ) → a ≤ c → d ≤ b → 0 < d → a / b ≤ c / d
div_mono a b c d le ge some =
    le-div (a / b) c d some (omega (arith, mul-le (a / b) d (a / b) b (omega arith) ge, div-add-mod' a b, le))

-- a product of natural numbers by their natural parts
pub natural_product : (a b : ℤ) → pos 0 ≤ℤ a → pos 0 ≤ℤ b → a *ℤ b ≡ pos (natural a * natural b)
natural_product (pos a) (pos b) p q = refl
natural_product (negsuc a) b p q = absurd (omega (arith, ints, p))
natural_product (pos a) (negsuc b) p q = absurd (omega (arith, ints, q))

-- a quotient
pub natural_quotient : (a b : ℤ) → pos 0 ≤ℤ a → pos 1 ≤ℤ b → int_div a b ≡ pos (natural a / natural b)
natural_quotient (pos a) (pos b) p q = refl
natural_quotient (negsuc a) b p q = absurd (omega (arith, ints, p))
natural_quotient (pos a) (negsuc b) p q = absurd (omega (arith, ints, q))

-- a power of two is at most one with a greater exponent
pub power_mono : (i j : ℕ) → i ≤ j → 2 ^ i ≤ 2 ^ j
power_mono i j le = pow_mono le

-- a truth value is monotone
truth_mono : (a b : Bool) → (a ≡ true → b ≡ true) → truth a ≤ℤ truth b
truth_mono true true h = omega (arith, ints)
truth_mono true false h = let bad : false ≡ true = h refl in absurd (cc)
truth_mono false true h = omega (arith, ints)
truth_mono false false h = omega (arith, ints)

-- its negation falls
pub not_falls : (a b : Bool) → (a ≡ true → b ≡ true) → not b ≡ true → not a ≡ true
not_falls true true h k = k
not_falls true false h k = let bad : false ≡ true = h refl in absurd (cc)
not_falls false b h k = refl

-- ---- each operator

-- depths fall
depth_mono : (a b : ℤ) → a ≤ℤ b → depth b ≤ depth a
depth_mono (pos a) (pos b) le = omega arith
depth_mono (pos a) (negsuc b) le = absurd (omega (arith, ints, le))
depth_mono (negsuc a) (pos b) le = omega arith
depth_mono (negsuc a) (negsuc b) le = omega (arith, ints, le)

-- negated natural numbers in order
pub neg_mono : (a b : ℕ) → a ≤ b → neg_ℤ (pos b) ≤ℤ neg_ℤ (pos a)
neg_mono a b le = omega (arith, ints, le)

-- multiples of spans
scaled_mono : (s s' : Span) (m n : ℕ) → Within s s' → m ≤ n → Within (scaled s m) (scaled s' n)
scaled_mono s s' m n v le = record {
  low = neg_mono _ _ (mul-le _ _ _ _ (depth_mono _ _ v.low) le);
  high = pos_mono _ _ (mul-le _ _ _ _ (natural_mono _ _ v.high) le);
}

-- multiples of a natural span by the other
turned_mono : (s s' t t' : Span) → Within s s' → Within t t' → is_natural s ≡ true
    → Within (scaled s (natural t.high)) (scaled t' (natural s'.high))
turned_mono s s' t t' v w is =
    let low : pos 0 ≤ℤ s.low = le_is _ _ is in
    let none : depth s.low ≡ 0 = no_depth s.low low in
    let down : neg_ℤ (pos (depth t'.low * natural s'.high)) ≤ℤ neg_ℤ (pos (0 * natural t.high)) =
    neg_mono _ _ (omega arith) in
    record {
      low = subst (λ d. neg_ℤ (pos (depth t'.low * natural s'.high)) ≤ℤ neg_ℤ (pos (d * natural t.high))) (sym none) down;
      high = pos_mono _ _ (omega (
        arith,
        mul-le (natural s.high) (natural t.high) (natural s'.high) (natural t'.high)
            (natural_mono _ _ v.high) (natural_mono _ _ w.high),
      ));
    }
  where
    no_depth : (z : ℤ) → pos 0 ≤ℤ z → depth z ≡ 0
    no_depth (pos n) le = refl
    no_depth (negsuc n) le = absurd (omega (arith, ints, le))

-- products
mul_mono : (s s' t t' : Span) → Within s s' → Within t t' → WithinIfFits (span_mul s t) (span_mul s' t')
mul_mono s s' t t' v w =
    guard_two _ _ _ _ _ _ _ _ (least_stays (pos 0) t t' w) (least_stays (pos 0) s s' v)
    (λ h. lies _ _ (scaled_mono s s' _ _ v (natural_mono _ _ w.high)))
    (λ h k. lies _ _ (turned_mono s s' t t' v w (least_stays (pos 0) s s' v k)))
    (λ k. lies _ _ (scaled_mono t t' _ _ w (natural_mono _ _ v.high)))

-- spans divided by at least so much
divided_mono : (s s' : Span) (m n : ℕ) → Within s s' → n ≤ m → 0 < n → Within (divided s m) (divided s' n)
divided_mono s s' m n v le some = record {
  low = neg_mono _ _ (div_mono _ _ _ _ (depth_mono _ _ v.low) le some);
  high = pos_mono _ _ (div_mono _ _ _ _ (natural_mono _ _ v.high) le some);
}

-- quotients
quotient_mono : (s s' t t' : Span) → Within s s' → Within t t' → WithinIfFits (span_div s t) (span_div s' t')
quotient_mono s s' t t' v w =
    let down : depth s.low ≤ depth s'.low = depth_mono _ _ v.low in
    let up : natural s.high ≤ natural s'.high = natural_mono _ _ v.high in
    let low : depth s.low / natural (int_max t.low (pos 1)) ≤ depth s.low = div-le_self _ _ in
    let high : natural s.high / natural (int_max t.low (pos 1)) ≤ natural s.high = div-le_self _ _ in
    let less : int_max t'.low (pos 1) ≤ℤ int_max t.low (pos 1) = omega (arith, ints, clamps, w.low) in
    guard_else _ _ _ _ _ _ (least_stays (pos 0) t t' w)
    (λ h. lies _ _ (divided_mono s s' _ _ v (natural_mono _ _ less) (positive_is (int_max t'.low (pos 1)) (omega (arith, ints, clamps)))))
    (λ h. lies _ _ (record {
      low = neg_mono _ _ (omega (arith, down, low));
      high = pos_mono _ _ (omega (arith, up, high));
    }))
    (lies _ _ (record { low = neg_mono _ _ (omega (arith, down, up)); high = pos_mono _ _ (omega (arith, down, up)) }))

-- a choice of the lesser, where it may be made
min_where : (b b' : Bool) (h h' k k' : ℤ) → (b' ≡ true → b ≡ true) → h ≤ℤ h' → k ≤ℤ k'
    → (if b then int_min h k else h) ≤ℤ (if b' then int_min h' k' else h')
min_where true true h h' k k' on p q = omega (arith, ints, clamps, p, q)
min_where true false h h' k k' on p q = omega (arith, ints, clamps, p, q)
min_where false true h h' k k' on p q = let bad : false ≡ true = on refl in absurd (cc)
min_where false false h h' k k' on p q = p

-- it is at most the other, where it is made
min_other : (b : Bool) (h k k' : ℤ) → b ≡ true → k ≤ℤ k' → (if b then int_min h k else h) ≤ℤ k'
min_other true h k k' on q = omega (arith, ints, clamps, q)
min_other false h k k' on q = absurd (cc)

-- remainders
mod_mono : (s s' t t' : Span) → Within s s' → Within t t' → WithinIfFits (span_mod s t) (span_mod s' t')
mod_mono s s' t t' v w =
    let less : (t.high -ℤ pos 1) ≤ℤ (t'.high -ℤ pos 1) = omega (arith, ints, w.high) in
    guard_two _ _ _ _ _ _ _ _ (least_stays (pos 0) s s' v) (least_stays (pos 1) t t' w)
    (λ h. lies _ _ (record {
      low = omega (arith, ints);
      high = min_where _ _ _ _ _ _ (least_stays (pos 1) t t' w) v.high less;
    }))
    (λ h k. lies _ _ (record {
      low = omega (arith, ints, clamps);
      high = min_other _ _ _ _ (least_stays (pos 1) t t' w k) less;
    }))
    (λ k. lies _ _ (record { low = omega (arith, ints, clamps, w.high); high = less }))

-- shifts to the left
shl_mono : (s s' t t' : Span) → Within s s' → Within t t' → WithinIfFits (span_shl s t) (span_shl s' t')
shl_mono s s' t t' v w =
    guard _ _ _ _ (distances_stay t t' w)
    (λ h. lies _ _ (scaled_mono s s' _ _ v (power_mono _ _ (natural_mono _ _ w.high))))

-- shifts of numbers with a sign: the low end rises with the distance
shra_low : (a b : ℤ) (j k : ℕ) → a ≤ℤ b → j ≤ k
    → int_min (int_div_euclid a (pos (2 ^ j))) (pos 0) ≤ℤ int_min (int_div_euclid b (pos (2 ^ k))) (pos 0)
shra_low (pos a) (pos b) j k p q = omega (arith, ints, clamps)
shra_low (pos a) (negsuc b) j k p q = absurd (omega (arith, ints, p))
shra_low (negsuc a) (pos b) j k p q = omega (arith, ints, clamps)
shra_low (negsuc a) (negsuc b) j k p q =
    let le : b ≤ a = omega (arith, ints, p) in
    omega (arith, ints, clamps, div_mono b (2 ^ k) a (2 ^ j) le (power_mono j k q) (pow_pos j))

-- and the high end falls
shra_high : (a b : ℤ) (j k : ℕ) → a ≤ℤ b → k ≤ j
    → int_max (int_div_euclid a (pos (2 ^ j))) (negsuc 0) ≤ℤ int_max (int_div_euclid b (pos (2 ^ k))) (negsuc 0)
shra_high (pos a) (pos b) j k p q =
    let le : a ≤ b = omega (arith, ints, p) in
    omega (arith, ints, clamps, div_mono a (2 ^ j) b (2 ^ k) le (power_mono k j q) (pow_pos k))
shra_high (pos a) (negsuc b) j k p q = absurd (omega (arith, ints, p))
shra_high (negsuc a) (pos b) j k p q = omega (arith, ints, clamps)
shra_high (negsuc a) (negsuc b) j k p q = omega (arith, ints, clamps)

-- so a shift by more lies in one by less
pub shra_by_mono : (s s' : Span) (j k : ℕ) → Within s s' → k ≤ j → Within (span_shra_by s j) (span_shra_by s' k)
shra_by_mono s s' j k v le = record { low = shra_low _ _ k j v.low le; high = shra_high _ _ j k v.high le }

-- the span of a shift to the right with a sign rises with those of its operands
shra_mono : (s s' t t' : Span) → Within s s' → Within t t' → WithinIfFits (span_shra s t) (span_shra s' t')
shra_mono s s' t t' v w = cases _ refl _ refl
  where
    cases : (b : Bool) → are_distances t ≡ b → (b' : Bool) → are_distances t' ≡ b'
        → WithinIfFits (if b then span_shra_by s (first_distance t) else span_shra_by s 0)
        (if b' then span_shra_by s' (first_distance t') else span_shra_by s' 0)
    cases true is true is' = lies _ _ (shra_by_mono s s' (first_distance t) (first_distance t') v (distance_mono t t' w))
    cases true is false is' = lies _ _ (shra_by_mono s s' (first_distance t) 0 v (omega arith))
    cases false is true is' = let bad : are_distances t ≡ true = distances_stay t t' w is' in absurd (cc)
    cases false is false is' = lies _ _ (shra_by_mono s s' 0 0 v (omega arith))

-- a quotient by a power of two is at most the number
quotient_low : (n k : ℕ) → n / 2 ^ k ≤ n
quotient_low n k = shr_le n k

-- all natural numbers of 64 bits are below the greatest without a sign
below_word : (z : ℤ) → z ≤ℤ end_value Greatest → natural z ≤ 18446744073709551615
below_word (pos n) le = omega (arith, ints, le)
below_word (negsuc n) le = omega arith

-- the high end of a shift to the right
shr_high : (b b' : Bool) (h h' : ℤ) (k k' : ℕ) → (b' ≡ true → b ≡ true) → h ≤ℤ h' → h ≤ℤ end_value Greatest → k' ≤ k
    → (if b then pos (natural h / 2 ^ k) else shifted_all k) ≤ℤ
    (if b' then pos (natural h' / 2 ^ k') else shifted_all k')
shr_high true true h h' k k' on le small low =
    pos_mono _ _ (div_mono _ _ _ _ (natural_mono h h' le) (power_mono k' k low) (pow_pos k'))
shr_high false true h h' k k' on le small low = let bad : false ≡ true = on refl in absurd (cc)
shr_high true false h h' k k' on le small low =
    pos_mono _ _ (div_mono _ _ _ _ (below_word h small) (power_mono k' k low) (pow_pos k'))
shr_high false false h h' k k' on le small low =
    pos_mono _ _ (div_mono _ _ _ _ (omega arith) (power_mono k' k low) (pow_pos k'))

-- it is at most the number
shr_less : (b : Bool) (h h' : ℤ) (k : ℕ) → b ≡ true → h ≤ℤ h'
    → (if b then pos (natural h / 2 ^ k) else shifted_all k) ≤ℤ pos (natural h')
shr_less true h h' k on le = pos_mono _ _ (omega (arith, quotient_low (natural h) k, natural_mono h h' le))
shr_less false h h' k on le = absurd (cc)

-- shifts to the right of numbers without a sign
shr_mono : (s s' t t' : Span) → s'.high ≤ℤ end_value Greatest → Within s s' → Within t t'
    → WithinIfFits (span_shr s t) (span_shr s' t')
shr_mono s s' t t' small v w =
    guard_two _ _ _ _ _ _ _ _ (distances_stay t t' w) (least_stays (pos 0) s s' v)
    (λ h. lies _ _ (record {
      low = omega (arith, ints);
      high = shr_high _ _ _ _ _ _ (least_stays (pos 0) s s' v) v.high (le_trans _ _ _ v.high small) (distance_mono t t' w);
    }))
    (λ h k. lies _ _ (record {
      low = omega (arith, ints);
      high = shr_less _ _ _ _ (least_stays (pos 0) s s' v k) v.high;
    }))
    (λ k. lies _ _ (record { low = omega (arith, ints); high = pos_mono _ _ (natural_mono _ _ v.high) }))

-- ---- operators bit by bit

-- the greater of two numbers of 64 bits has 64 bits
pub max_word : (a b : ℤ) → a ≤ℤ end_value Greatest → b ≤ℤ end_value Greatest → int_max a b ≤ℤ end_value Greatest
max_word a b p q = omega (arith, ints, clamps, p, q)

-- numbers reach no further than 64 bits
pub reach_word : (s : Span) → IsWordSpan s → reach s ≤ℤ end_value Greatest
reach_word s p =
    omega (arith, ints, clamps, pos_mono _ _ (natural_mono s.high (end_value Greatest) p.high.high), p.low.low)

-- they reach as far as what is less sure at most
reach_mono : (s s' : Span) → Within s s' → reach s ≤ℤ reach s'
reach_mono s s' v = omega (arith, ints, clamps, pos_mono _ _ (natural_mono _ _ v.high), v.low)

-- no operand reaches further than the number of ones
pub ones_above : (s t : Span) → IsWordSpan s → IsWordSpan t → (reach s ≤ℤ ones s t) × (reach t ≤ℤ ones s t)
ones_above s t p q =
    let near : int_max (reach s) (reach t) ≤ℤ ones s t =
    ceiling_high _ (omega (arith, ints, clamps, reach_word s p, reach_word t q)) in
    (omega (arith, ints, clamps, near), omega (arith, ints, clamps, near))

-- so this is not negative
ones_natural : (s t : Span) → IsWordSpan s → IsWordSpan t → pos 0 ≤ℤ ones s t
ones_natural s t p q = omega (arith, ints, clamps, (ones_above s t p q).0)

-- the number of ones rises
ones_mono : (s s' t t' : Span) → IsWordSpan s' → IsWordSpan t' → Within s s' → Within t t' → ones s t ≤ℤ ones s' t'
ones_mono s s' t t' p q v w =
    value_mono _ _ (ceiling_mono _ _ (omega (arith, ints, clamps, reach_word s' p, reach_word t' q))
    (omega (arith, ints, clamps, reach_mono s s' v, reach_mono t t' w)))

-- `and`
and_mono : (s s' t t' : Span) → IsWordSpan s' → IsWordSpan t' → Within s s' → Within t t'
    → WithinIfFits (span_and s t) (span_and s' t')
and_mono s s' t t' p q v w =
    let some : pos 0 ≤ℤ ones s' t' = ones_natural s' t' p q in
    guard_three _ _ _ _ _ _ _ _ _ _ (least_stays (pos 0) s s' v) (least_stays (pos 0) t t' w)
    (λ h. lies _ _ (record {
      low = omega (arith, ints);
      high = min_where _ _ _ _ _ _ (least_stays (pos 0) t t' w) v.high w.high;
    }))
    (λ h k. lies _ _ (record {
      low = omega (arith, ints);
      high = min_other _ _ _ _ (least_stays (pos 0) t t' w k) w.high;
    }))
    (λ k. lies _ _ (record { low = omega (arith, ints); high = w.high }))
    (λ h. lies _ _ (record {
      low = omega (arith, ints, some);
      high = le_trans _ _ _ (min_first (is_natural t) s.high t.high) (omega (arith, ints, clamps, v.high));
    }))
    (λ k. lies _ _ (record { low = omega (arith, ints, some); high = omega (arith, ints, clamps, w.high) }))
    (lies _ _ (record {
      low = omega (arith, ints, ones_mono s s' t t' p q v w);
      high = omega (arith, ints, clamps, v.high, w.high);
    }))
  where
    min_first : (c : Bool) (h k : ℤ) → (if c then int_min h k else h) ≤ℤ h
    min_first true h k = omega (arith, ints, clamps)
    min_first false h k = omega (arith, ints)

-- -1 where it is known, and else a number
negative_where : (b b' : Bool) (h h' : ℤ) → (b' ≡ true → b ≡ true) → h ≤ℤ h' → (b' ≡ false → negsuc 0 ≤ℤ h')
    → (if b then negsuc 0 else h) ≤ℤ (if b' then negsuc 0 else h')
negative_where true true h h' on p q = omega (arith, ints)
negative_where true false h h' on p q = q refl
negative_where false true h h' on p q = let bad : false ≡ true = on refl in absurd (cc)
negative_where false false h h' on p q = p

-- 0 where it is known, and else a negative number
natural_where : (b b' : Bool) (l l' : ℤ) → (b' ≡ true → b ≡ true) → l' ≤ℤ l → l' ≤ℤ pos 0
    → (if b' then pos 0 else l') ≤ℤ (if b then pos 0 else l)
natural_where true true l l' on p q = omega (arith, ints)
natural_where true false l l' on p q = q
natural_where false true l l' on p q = let bad : false ≡ true = on refl in absurd (cc)
natural_where false false l l' on p q = p

-- of spans of which none is negative, the greater high end is not
pub not_negative : (s t : Span) → has_negative s t ≡ false → pos 0 ≤ℤ s.high
not_negative s t h = cases (is_negative s) refl h
  where
    natural_high : (z : ℤ) → int_lt z (pos 0) ≡ false → pos 0 ≤ℤ z
    natural_high (pos n) e = omega (arith, ints)
    natural_high (negsuc n) e = absurd (cc)

    cases : (b : Bool) → is_negative s ≡ b → (b || is_negative t) ≡ false → pos 0 ≤ℤ s.high
    cases true e h = absurd (cc)
    cases false e h = natural_high s.high e

-- `or`
or_mono : (s s' t t' : Span) → IsWordSpan s' → IsWordSpan t' → Within s s' → Within t t'
    → WithinIfFits (span_or s t) (span_or s' t')
or_mono s s' t t' p q v w =
    let greater : int_max s.high t.high ≤ℤ int_max s'.high t'.high = omega (arith, ints, clamps, v.high, w.high) in
    let least : int_max s'.high t'.high ≤ℤ end_value Greatest = omega (arith, ints, clamps, p.high.high, q.high.high) in
    let near : int_max s'.high t'.high ≤ℤ end_value (ceiling (int_max s'.high t'.high)) = ceiling_high _ least in
    lies _ _ (record {
      low = omega (arith, ints, clamps, v.low, w.low);
      high = negative_where _ _ _ _ (either_stays _ _ _ _ (negative_stays s s' v) (negative_stays t t' w))
          (value_mono _ _ (ceiling_mono _ _ least greater))
          (λ h. omega (arith, ints, clamps, near, not_negative s' t' h));
    })

-- `xor`
xor_mono : (s s' t t' : Span) → IsWordSpan s' → IsWordSpan t' → Within s s' → Within t t'
    → WithinIfFits (span_xor s t) (span_xor s' t')
xor_mono s s' t t' p q v w =
    let some : pos 0 ≤ℤ ones s' t' = ones_natural s' t' p q in
    let rises : ones s t ≤ℤ ones s' t' = ones_mono s s' t t' p q v w in
    let natural_s : is_natural s' ≡ true → is_natural s ≡ true = least_stays (pos 0) s s' v in
    let natural_t : is_natural t' ≡ true → is_natural t ≡ true = least_stays (pos 0) t t' w in
    lies _ _ (record {
      low = natural_where _ _ _ _
          (either_stays _ _ _ _ (both_stay _ _ _ _ natural_s natural_t)
          (both_stay _ _ _ _ (negative_stays s s' v) (negative_stays t t' w)))
          (omega (arith, ints, rises)) (omega (arith, ints, some));
      high = negative_where _ _ _ _
          (either_stays _ _ _ _ (both_stay _ _ _ _ natural_s (negative_stays t t' w))
          (both_stay _ _ _ _ (negative_stays s s' v) natural_t))
          rises (λ h. omega (arith, ints, some));
    })

-- where one number is found at most another, each lesser one is found at most each greater one
pub le_stays : (a a' b b' : ℤ) → a ≤ℤ a' → b' ≤ℤ b → int_le a' b' ≡ true → int_le a b ≡ true
le_stays a a' b b' p q h =
    let m : a' ≤ℤ b' = le_is _ _ h in is_le a b (omega (arith, ints, p, q, m))

-- below
lt_mono : (s s' t t' : Span) → Within s s' → Within t t' → Within (span_lt s t) (span_lt s' t')
lt_mono s s' t t' v w = record {
  low = truth_mono _ _ (lt_stays _ _ _ _ v.high w.low);
  high = truth_mono _ _ (lt_stays _ _ _ _ v.low w.high);
}

-- at most
le_mono : (s s' t t' : Span) → Within s s' → Within t t' → Within (span_le s t) (span_le s' t')
le_mono s s' t t' v w = record {
  low = truth_mono _ _ (le_stays _ _ _ _ v.high w.low);
  high = truth_mono _ _ (le_stays _ _ _ _ v.low w.high);
}

-- what is one number stays so
pub one_stays : (s s' t t' : Span) → Within s s' → Within t t' → are_one s' t' ≡ true → are_one s t ≡ true
one_stays s s' t t' v w = both_stay _ _ _ _ (le_stays _ _ _ _ v.high w.low) (le_stays _ _ _ _ w.high v.low)

-- what may be equal may be by what is less sure
pub may_stay : (s s' t t' : Span) → Within s s' → Within t t' → may_equal s t ≡ true → may_equal s' t' ≡ true
may_stay s s' t t' v w = both_stay _ _ _ _ (le_stays _ _ _ _ v.low w.high) (le_stays _ _ _ _ w.low v.high)

-- each operator
pub span_mono : (op : Op) (s s' t t' : Span) → IsWordSpan s' → IsWordSpan t' → Within s s' → Within t t'
    → WithinIfFits (span_op op s t) (span_op op s' t')
span_mono Add s s' t t' p q v w =
    lies _ _ (record { low = omega (arith, ints, v.low, w.low); high = omega (arith, ints, v.high, w.high) })
span_mono Sub s s' t t' p q v w =
    lies _ _ (record { low = omega (arith, ints, v.low, w.high); high = omega (arith, ints, v.high, w.low) })
span_mono Mul s s' t t' p q v w = mul_mono s s' t t' v w
span_mono Div s s' t t' p q v w = quotient_mono s s' t t' v w
span_mono Mod s s' t t' p q v w = mod_mono s s' t t' v w
span_mono Min s s' t t' p q v w =
    lies _ _ (record { low = omega (arith, ints, clamps, v.low, w.low); high = omega (arith, ints, clamps, v.high, w.high) })
span_mono Max s s' t t' p q v w =
    lies _ _ (record { low = omega (arith, ints, clamps, v.low, w.low); high = omega (arith, ints, clamps, v.high, w.high) })
span_mono Eq s s' t t' p q v w =
    lies _ _ (record {
      low = truth_mono _ _ (one_stays s s' t t' v w);
      high = truth_mono _ _ (may_stay s s' t t' v w);
    })
span_mono Ne s s' t t' p q v w =
    lies _ _ (record {
      low = truth_mono _ _ (not_falls _ _ (may_stay s s' t t' v w));
      high = truth_mono _ _ (not_falls _ _ (one_stays s s' t t' v w));
    })
span_mono Lt s s' t t' p q v w = lies _ _ (lt_mono s s' t t' v w)
span_mono Le s s' t t' p q v w = lies _ _ (le_mono s s' t t' v w)
span_mono Gt s s' t t' p q v w = lies _ _ (lt_mono t t' s s' w v)
span_mono Ge s s' t t' p q v w = lies _ _ (le_mono t t' s s' w v)
span_mono Shl s s' t t' p q v w = shl_mono s s' t t' v w
span_mono Shr s s' t t' p q v w = shr_mono s s' t t' p.high.high v w
span_mono Shra s s' t t' p q v w = shra_mono s s' t t' v w
span_mono And s s' t t' p q v w = and_mono s s' t t' p q v w
span_mono Or s s' t t' p q v w = or_mono s s' t t' p q v w
span_mono Xor s s' t t' p q v w = xor_mono s s' t t' p q v w

-- so does each operator of one number: a span that lies in another is taken to a span that lies in that of the other
pub span_un_mono : (op : UnOp) (s s' : Span) → Within s s' → WithinIfFits (span_un_op op s) (span_un_op op s')
span_un_mono Neg s s' v =
    lies _ _ (record { low = omega (arith, ints, v.high); high = omega (arith, ints, v.low) })
span_un_mono Not s s' v =
    let zero_same : Within (span (pos 0) (pos 0)) (span (pos 0) (pos 0)) =
    record { low = omega (arith, ints); high = omega (arith, ints) } in
    lies _ _ (record {
      low = truth_mono _ _ (one_stays s s' _ _ v zero_same);
      high = truth_mono _ _ (may_stay s s' _ _ v zero_same);
    })
