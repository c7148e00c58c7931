-- Numbers that agree on their lowest bits: what the operators make of them agrees too. For proofs only.
use Rattle.std.proofs.Common.{◌≡◌, ℕ, suc, ◌+◌, ◌-◌, ◌*◌, ◌/◌, ◌%◌, ◌^◌, ◌<◌, ◌≤◌, ℤ, pos, negsuc, neg_ℤ, ◌+ℤ◌, ◌-ℤ◌, ◌*ℤ◌, refl, sym, ap, ◌∙◌, arith, FitsSigned, w64, to_z, of_z, to_z-of_z, pow_pos, pow-add, mul_assoc, inl, inr, unsigned_abs, bit_and, bit_or, bit_xor}
use Rattle.std.specs.Int.{int_wrap, int_div_euclid}
use Rattle.std.proofs.lemmas.Int.{int_rem_euclid_is, int_wrap_fits}
use Rattle.std.specs.Int.Bits.{or_zero_r, xor_zero_r}
use Rattle.std.proofs.lemmas.Bool.{cases_lt}
use Rattle.std.proofs.lemmas.Nat.{and_mask, and_le_r, field_of, shr_high, shl-shr, mod-pow-add, div-add-mod', and_mod, or_mod, xor_mod, mod_below}
use Rattle.std.proofs.Math.Nat.{mod-eq_of_lt, mul-le-mul_left}
use Rattle.std.proofs.Math.IntN.{*ℤ_comm}
use borrow.Author.Differences.{up, down, same_in, same_out, sum_is_lem, neg_is, product_is, ints}
use Rattle.mir_base.specs.Numbers.{wrapped, unsigned}
use Rattle.wanted_bits.specs.Agreement.{low_bits, AgreeBelow}

-- numbers that differ by a multiple of 2^k agree
pub apart_agree : (k : ℕ) (a b : ℤ) (i j : ℕ) → a +ℤ pos (i * 2 ^ k) ≡ b +ℤ pos (j * 2 ^ k) → AgreeBelow k a b
apart_agree k a b i j e =
    let m = 2 ^ k in
    let some = pow_pos k in
    let t = down a + down b in
    let far : t * 1 ≤ t * m = mul-le-mul_left t some in
    let n = up a + (i + t) * m - down a in
    let from : (z : ℤ) (c : ℕ) → z +ℤ pos ((c + t) * m) ≡ pos n → low_bits k z ≡ n % m = λ z c h. ap unsigned_abs (int_rem_euclid_is z (pos m) m (c + t) n some refl h) in
    from a i (omega (arith, ints)) ∙ sym (from b j (omega (arith, ints)))

-- a number and its lowest bits differ by a multiple
split : (k : ℕ) (z : ℤ) → (i : ℕ) × (j : ℕ) × (z +ℤ pos (i * 2 ^ k) ≡ pos (low_bits k z) +ℤ pos (j * 2 ^ k))
split k (pos a) = (0, a / 2 ^ k, omega (arith, same_in, sum_is_lem, div-add-mod' a (2 ^ k)))
split k (negsuc a) = (a / 2 ^ k + 1, 0, omega (arith, same_in, sum_is_lem, div-add-mod' a (2 ^ k), mod_below a (2 ^ k) (pow_pos k)))

-- numbers that agree differ by a multiple
pub agree_apart : (k : ℕ) (a b : ℤ) → AgreeBelow k a b → (i : ℕ) × (j : ℕ) × (a +ℤ pos (i * 2 ^ k) ≡ b +ℤ pos (j * 2 ^ k))
agree_apart k a b same =
    let p = split k a in
    let q = split k b in
    let e = p.2 in
    let f = q.2 in
    (p.0 + q.1, q.0 + p.1, omega (arith, same_in, same_out, sum_is_lem, e, f))

-- sums
pub agree_add : (k : ℕ) (a a' b b' : ℤ) → AgreeBelow k a a' → AgreeBelow k b b' → AgreeBelow k (a +ℤ b) (a' +ℤ b')
agree_add k a a' b b' p q =
    let r = agree_apart k a a' p in
    let s = agree_apart k b b' q in
    apart_agree k (a +ℤ b) (a' +ℤ b') (r.0 + s.0) (r.1 + s.1) (omega (arith, same_in, same_out, sum_is_lem, r.2, s.2))

-- negatives
pub agree_neg : (k : ℕ) (a a' : ℤ) → AgreeBelow k a a' → AgreeBelow k (neg_ℤ a) (neg_ℤ a')
agree_neg k a a' p =
    let r = agree_apart k a a' p in
    apart_agree k (neg_ℤ a) (neg_ℤ a') r.1 r.0 (omega (arith, same_in, same_out, sum_is_lem, neg_is, r.2))

-- differences
pub agree_sub : (k : ℕ) (a a' b b' : ℤ) → AgreeBelow k a a' → AgreeBelow k b b' → AgreeBelow k (a -ℤ b) (a' -ℤ b')
agree_sub k a a' b b' p q =
    let r = agree_apart k a a' p in
    let s = agree_apart k b b' q in
    apart_agree k (a -ℤ b) (a' -ℤ b') (r.0 + s.1) (r.1 + s.0) (omega (arith, same_in, same_out, sum_is_lem, neg_is, r.2, s.2))

-- one factor
agree_times : (k : ℕ) (a a' c : ℤ) → AgreeBelow k a a' → AgreeBelow k (a *ℤ c) (a' *ℤ c)
agree_times k a a' c p =
    let r = agree_apart k a a' p in
    let i = r.0 in
    let j = r.1 in
    let e = r.2 in
    let sum : up a + i * 2 ^ k + down a' ≡ up a' + j * 2 ^ k + down a = omega (arith, same_out, sum_is_lem, e) in
    let above = ap (λ x. x * up c) sum in
    let below = ap (λ x. x * down c) sum in
    apart_agree k (a *ℤ c) (a' *ℤ c) (i * up c + j * down c) (j * up c + i * down c) (omega (arith, same_in, sum_is_lem, product_is))

-- products
pub agree_mul : (k : ℕ) (a a' b b' : ℤ) → AgreeBelow k a a' → AgreeBelow k b b' → AgreeBelow k (a *ℤ b) (a' *ℤ b')
agree_mul k a a' b b' p q =
    agree_times k a a' b p ∙ ap (low_bits k) (*ℤ_comm a' b) ∙ agree_times k b b' a' q ∙ ap (low_bits k) (*ℤ_comm b' a')

-- ---- fewer bits, and wrapping

-- what agrees on more bits agrees on fewer
pub agree_lower : (j k : ℕ) (a b : ℤ) → j ≤ k → AgreeBelow k a b → AgreeBelow j a b
agree_lower j k a b le p =
    let r = agree_apart k a b p in
    let d = k - j in
    let sum : k ≡ d + j = omega arith in
    let two : 2 ^ k ≡ 2 ^ d * 2 ^ j = ap (λ n. 2 ^ n) sum ∙ pow-add 2 d j in
    let first : r.0 * 2 ^ d * 2 ^ j ≡ r.0 * 2 ^ k = mul_assoc r.0 (2 ^ d) (2 ^ j) ∙ ap (λ n. r.0 * n) (sym two) in
    let second : r.1 * 2 ^ d * 2 ^ j ≡ r.1 * 2 ^ k = mul_assoc r.1 (2 ^ d) (2 ^ j) ∙ ap (λ n. r.1 * n) (sym two) in
    apart_agree j a b (r.0 * 2 ^ d) (r.1 * 2 ^ d) (ap (λ n. a +ℤ pos n) first ∙ r.2 ∙ ap (λ n. b +ℤ pos n) (sym second))

-- the lowest bits of a number agree with it
pub low_agrees : (k : ℕ) (z : ℤ) → AgreeBelow k (pos (low_bits k z)) z
low_agrees k z = let s = split k z in apart_agree k (pos (low_bits k z)) z s.1 s.0 (sym s.2)

-- fewer of the lowest bits
pub low_of_low : (j k : ℕ) (z : ℤ) → j ≤ k → low_bits k z % 2 ^ j ≡ low_bits j z
low_of_low j k z le = agree_lower j k (pos (low_bits k z)) z le (low_agrees k z)

-- the lowest bits are below the power
pub low_below : (k : ℕ) (z : ℤ) → low_bits k z < 2 ^ k
low_below k (pos a) = mod_below a (2 ^ k) (pow_pos k)
low_below k (negsuc a) = omega (arith, pow_pos k)

-- a word read with a sign agrees with it
word_agrees : (n : ℕ) → n < 2 ^ 64 → AgreeBelow 64 (to_z w64 n) (pos n)
word_agrees n low = elim (cases_lt n (2 ^ 63)) [
  | inl small ↦ apart_agree 64 (to_z w64 n) (pos n) 0 0 (omega (arith, ints))
  | inr large ↦
      let m = 2 ^ 64 - suc n in
      let back : n ≡ of_z w64 (negsuc m) = omega arith in
      let fits : FitsSigned w64 (negsuc m) = record { sfits = omega arith } in
      let is : to_z w64 n ≡ negsuc m = ap (to_z w64) back ∙ to_z-of_z fits in
      apart_agree 64 (to_z w64 n) (pos n) 1 0 (omega (arith, ints, is))
]

-- wrapping keeps all 64 bits
pub wrapped_agrees : (k : ℕ) (z : ℤ) → k ≤ 64 → AgreeBelow k (wrapped z) z
unfolding int_wrap
wrapped_agrees k z le = agree_lower k 64 (wrapped z) z le (word_agrees (low_bits 64 z) (low_below 64 z) ∙ low_agrees 64 z)

-- signed 64-bit numbers that agree on all bits are equal
pub agree_equal : (a b : ℤ) → FitsSigned w64 a → FitsSigned w64 b → AgreeBelow 64 a b → a ≡ b
unfolding int_wrap
agree_equal a b f g p = sym (int_wrap_fits w64 a f) ∙ ap (λ n. to_z w64 n) p ∙ int_wrap_fits w64 b g

-- so wrapped values agree where what is wrapped does
pub agree_wrapped : (k : ℕ) (a b : ℤ) → k ≤ 64 → AgreeBelow k a b → AgreeBelow k (wrapped a) (wrapped b)
agree_wrapped k a b le p = wrapped_agrees k a le ∙ p ∙ sym (wrapped_agrees k b le)

-- ---- bit by bit

-- an operator on bits
agree_bits : (f : ℕ → ℕ → ℕ) → ((x y k : ℕ) → f x y % 2 ^ k ≡ f (x % 2 ^ k) (y % 2 ^ k)) → (k : ℕ) (a a' b b' : ℤ) → k ≤ 64 → AgreeBelow k a a' → AgreeBelow k b b' → AgreeBelow k (wrapped (pos (f (unsigned a) (unsigned b)))) (wrapped (pos (f (unsigned a') (unsigned b'))))
agree_bits f by_bits k a a' b b' le p q =
    let first : unsigned a % 2 ^ k ≡ unsigned a' % 2 ^ k = low_of_low k 64 a le ∙ p ∙ sym (low_of_low k 64 a' le) in
    let second : unsigned b % 2 ^ k ≡ unsigned b' % 2 ^ k = low_of_low k 64 b le ∙ q ∙ sym (low_of_low k 64 b' le) in
    agree_wrapped k (pos (f (unsigned a) (unsigned b))) (pos (f (unsigned a') (unsigned b'))) le
    (by_bits (unsigned a) (unsigned b) k ∙ ap (λ n. f n (unsigned b % 2 ^ k)) first ∙ ap (f (unsigned a' % 2 ^ k)) second ∙ sym (by_bits (unsigned a') (unsigned b') k))

-- and, or, exclusive or
pub agree_and : (k : ℕ) (a a' b b' : ℤ) → k ≤ 64 → AgreeBelow k a a' → AgreeBelow k b b' → AgreeBelow k (wrapped (pos (bit_and (unsigned a) (unsigned b)))) (wrapped (pos (bit_and (unsigned a') (unsigned b'))))
agree_and = agree_bits bit_and and_mod

-- or
pub agree_or : (k : ℕ) (a a' b b' : ℤ) → k ≤ 64 → AgreeBelow k a a' → AgreeBelow k b b' → AgreeBelow k (wrapped (pos (bit_or (unsigned a) (unsigned b)))) (wrapped (pos (bit_or (unsigned a') (unsigned b'))))
agree_or = agree_bits bit_or or_mod

-- exclusive or
pub agree_xor : (k : ℕ) (a a' b b' : ℤ) → k ≤ 64 → AgreeBelow k a a' → AgreeBelow k b b' → AgreeBelow k (wrapped (pos (bit_xor (unsigned a) (unsigned b)))) (wrapped (pos (bit_xor (unsigned a') (unsigned b'))))
agree_xor = agree_bits bit_xor xor_mod

-- what `and` keeps of a number are the bits below the length of the other
pub agree_mask : (b : ℕ) (a a' c : ℤ) → b ≤ 64 → unsigned c < 2 ^ b → AgreeBelow b a a' → bit_and (unsigned a) (unsigned c) ≡ bit_and (unsigned a') (unsigned c)
agree_mask b a a' c le low p =
    let cut : (x : ℕ) → bit_and x (unsigned c) ≡ bit_and (x % 2 ^ b) (unsigned c % 2 ^ b) = λ x. sym (mod-eq_of_lt (omega (arith, and_le_r x (unsigned c), low))) ∙ and_mod x (unsigned c) b in
    let same : unsigned a % 2 ^ b ≡ unsigned a' % 2 ^ b = low_of_low b 64 a le ∙ p ∙ sym (low_of_low b 64 a' le) in
    cut (unsigned a) ∙ ap (λ n. bit_and n (unsigned c % 2 ^ b)) same ∙ sym (cut (unsigned a'))

-- ---- shifts by s places

-- to the left
pub agree_shl : (k s : ℕ) (a a' : ℤ) → AgreeBelow (k - s) a a' → AgreeBelow k (a *ℤ pos (2 ^ s)) (a' *ℤ pos (2 ^ s))
agree_shl k s a a' p =
    let r = agree_apart (k - s) a a' p in
    let i = r.0 in
    let j = r.1 in
    let e = r.2 in
    let two : 2 ^ (k - s + s) ≡ 2 ^ (k - s) * 2 ^ s = pow-add 2 (k - s) s in
    let sum : up a + i * 2 ^ (k - s) + down a' ≡ up a' + j * 2 ^ (k - s) + down a = omega (arith, same_out, sum_is_lem, e) in
    let all = ap (λ n. n * 2 ^ s) sum in
    let left : i * 2 ^ (k - s + s) ≡ i * 2 ^ (k - s) * 2 ^ s = ap (λ n. i * n) two ∙ sym (mul_assoc i (2 ^ (k - s)) (2 ^ s)) in
    let right : j * 2 ^ (k - s + s) ≡ j * 2 ^ (k - s) * 2 ^ s = ap (λ n. j * n) two ∙ sym (mul_assoc j (2 ^ (k - s)) (2 ^ s)) in
    agree_lower k (k - s + s) (a *ℤ pos (2 ^ s)) (a' *ℤ pos (2 ^ s)) (omega arith)
    (apart_agree (k - s + s) (a *ℤ pos (2 ^ s)) (a' *ℤ pos (2 ^ s)) i j (omega (arith, same_in, sum_is_lem, product_is)))

-- to the right without a sign, where the bits that come down are among the 64
pub agree_shr : (k s : ℕ) (a a' : ℤ) → k + s ≤ 64 → AgreeBelow (k + s) a a' → AgreeBelow k (pos (unsigned a / 2 ^ s)) (pos (unsigned a' / 2 ^ s))
agree_shr k s a a' le p =
    let same : unsigned a % 2 ^ (k + s) ≡ unsigned a' % 2 ^ (k + s) = low_of_low (k + s) 64 a le ∙ p ∙ sym (low_of_low (k + s) 64 a' le) in
    sym (field_of (unsigned a) k s) ∙ ap (λ n. n / 2 ^ s) same ∙ field_of (unsigned a') k s

-- to the right with the sign: the bits come down from s places higher
pub low_shra : (k s : ℕ) (a : ℤ) → low_bits k (int_div_euclid a (pos (2 ^ s))) ≡ low_bits (k + s) a / 2 ^ s
low_shra k s (pos a) = sym (field_of a k s)
low_shra k s (negsuc a) =
    let q = a / 2 ^ s % 2 ^ k in
    let r = a % 2 ^ s in
    let r_low : r < 2 ^ s = mod_below a (2 ^ s) (pow_pos s) in
    let q_low : q < 2 ^ k = mod_below (a / 2 ^ s) (2 ^ k) (pow_pos k) in
    let parts : a % 2 ^ (k + s) ≡ q * 2 ^ s + r = mod-pow-add a k s in
    let two : 2 ^ (k + s) ≡ 2 ^ k * 2 ^ s = pow-add 2 k s in
    let h = 2 ^ k - 1 - q in
    let sum : 2 ^ k ≡ h + 1 + q = omega arith in
    let times : 2 ^ k * 2 ^ s ≡ (h + 1 + q) * 2 ^ s = ap (λ n. n * 2 ^ s) sum in
    let is : 2 ^ (k + s) - 1 - a % 2 ^ (k + s) ≡ h * 2 ^ s + (2 ^ s - 1 - r) = omega (arith, times, two, parts) in
    sym (ap (λ n. n / 2 ^ s) is ∙ shr_high h s (2 ^ s - 1 - r) (omega arith))

-- so numbers that agree s places higher agree after it
pub agree_shra : (k s : ℕ) (a a' : ℤ) → AgreeBelow (k + s) a a' → AgreeBelow k (int_div_euclid a (pos (2 ^ s))) (int_div_euclid a' (pos (2 ^ s)))
agree_shra k s a a' p = low_shra k s a ∙ ap (λ n. n / 2 ^ s) p ∙ sym (low_shra k s a')

-- a shift to the left and back gives the number
shl_shra : (s : ℕ) (a : ℤ) → int_div_euclid (a *ℤ pos (2 ^ s)) (pos (2 ^ s)) ≡ a
shl_shra s (pos a) = ap pos (shl-shr a s)
shl_shra s (negsuc a) =
    let some = pow_pos s in
    let is : suc a * 2 ^ s ≡ suc (a * 2 ^ s + (2 ^ s - 1)) = omega arith in
    ap (λ n. int_div_euclid (neg_ℤ (pos n)) (pos (2 ^ s))) is ∙ ap negsuc (shr_high a s (2 ^ s - 1) (omega arith))

-- and so do the bits that were not shifted out, where the shift to the left wraps
pub extended_agrees : (k s : ℕ) (a : ℤ) → k + s ≤ 64 → AgreeBelow k (int_div_euclid (wrapped (a *ℤ pos (2 ^ s))) (pos (2 ^ s))) a
extended_agrees k s a le =
    agree_shra k s (wrapped (a *ℤ pos (2 ^ s))) (a *ℤ pos (2 ^ s)) (wrapped_agrees (k + s) (a *ℤ pos (2 ^ s)) le)
    ∙ ap (low_bits k) (shl_shra s a)

-- also where what comes down has no sign
pub extended_low : (k s : ℕ) (a : ℤ) → k + s ≤ 64 → AgreeBelow k (wrapped (pos (unsigned (wrapped (a *ℤ pos (2 ^ s))) / 2 ^ s))) a
extended_low k s a le =
    let x = a *ℤ pos (2 ^ s) in
    let y = wrapped x in
    wrapped_agrees k (pos (unsigned y / 2 ^ s)) (omega arith) ∙ sym (field_of (unsigned y) k s)
    ∙ ap (λ n. n / 2 ^ s) (low_of_low (k + s) 64 y le ∙ wrapped_agrees (k + s) x le) ∙ sym (low_shra k s x) ∙ ap (low_bits k) (shl_shra s a)

-- ---- constants that change nothing on the lowest bits

-- a constant with only zeros there: a sum
pub add_nothing : (k : ℕ) (a c : ℤ) → k ≤ 64 → AgreeBelow k c (pos 0) → AgreeBelow k (wrapped (a +ℤ c)) a
add_nothing k a c le none =
    wrapped_agrees k (a +ℤ c) le ∙ agree_add k a a c (pos 0) refl none ∙ ap (low_bits k) (let e : a +ℤ pos 0 ≡ a = omega (arith, ints) in e)

-- a difference
pub sub_nothing : (k : ℕ) (a c : ℤ) → k ≤ 64 → AgreeBelow k c (pos 0) → AgreeBelow k (wrapped (a -ℤ c)) a
sub_nothing k a c le none =
    wrapped_agrees k (a -ℤ c) le ∙ agree_sub k a a c (pos 0) refl none ∙ ap (low_bits k) (let e : a -ℤ pos 0 ≡ a = omega (arith, ints) in e)

-- a disjunction
pub or_nothing : (k : ℕ) (a c : ℤ) → k ≤ 64 → AgreeBelow k c (pos 0) → AgreeBelow k (wrapped (pos (bit_or (unsigned a) (unsigned c)))) a
or_nothing k a c le none =
    agree_or k a a c (pos 0) le refl none ∙ wrapped_agrees k (pos (bit_or (unsigned a) 0)) le
    ∙ ap (λ n. n % 2 ^ k) (or_zero_r (unsigned a)) ∙ low_of_low k 64 a le

-- and an exclusive one
pub xor_nothing : (k : ℕ) (a c : ℤ) → k ≤ 64 → AgreeBelow k c (pos 0) → AgreeBelow k (wrapped (pos (bit_xor (unsigned a) (unsigned c)))) a
xor_nothing k a c le none =
    agree_xor k a a c (pos 0) le refl none ∙ wrapped_agrees k (pos (bit_xor (unsigned a) 0)) le
    ∙ ap (λ n. n % 2 ^ k) (xor_zero_r (unsigned a)) ∙ low_of_low k 64 a le

-- a constant with only ones there: a conjunction
pub and_nothing : (k : ℕ) (a c : ℤ) → k ≤ 64 → AgreeBelow k c (negsuc 0) → AgreeBelow k (wrapped (pos (bit_and (unsigned a) (unsigned c)))) a
and_nothing k a c le all =
    agree_and k a a c (negsuc 0) le refl all ∙ wrapped_agrees k (pos (bit_and (unsigned a) (2 ^ 64 - 1))) le
    ∙ ap (λ n. n % 2 ^ k) (and_mask (unsigned a) 64 ∙ mod-eq_of_lt (low_below 64 a)) ∙ low_of_low k 64 a le
