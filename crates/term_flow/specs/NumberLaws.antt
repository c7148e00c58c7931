-- Operators with constants on one another, on all signed 64-bit numbers.
use Rattle.std.proofs.Common.{◌≡◌, ℕ, zero, suc, ◌+◌, ◌*◌, ◌/◌, ◌%◌, ◌^◌, ◌<◌, ◌≤◌, min, inl, inr, ℤ, pos, negsuc, neg_ℤ, ◌+ℤ◌, ◌-ℤ◌, ◌*ℤ◌, refl, sym, ap, ◌∙◌, arith, FitsSigned, w64, to_z, of_z, to_z-of_z, pow_pos, pow-add, mul_assoc, bit_and, bit_or, bit_xor, div-le_self}
use Rattle.std.specs.Int.{int_wrap, int_div_euclid, int_min, int_max}
use Rattle.std.specs.Int.Bits.{and_lt, or_lt, xor_lt, xor_assoc, xor_self, xor_zero_r}
use Rattle.std.specs.Ordering.{int_eq}
use Rattle.std.proofs.Math.IntN.{+ℤ_assoc}
use Rattle.std.proofs.Math.Nat.{div-div-eq-div-mul, div-eq_of_lt, mod-eq_of_lt, zero-mul, mul-zero}
use Rattle.std.proofs.lemmas.Bool.{cases_Bool, cases_lt}
use Rattle.std.proofs.lemmas.Bool.Decides.{Decides-int_eq}
use Rattle.std.proofs.lemmas.Int.{clamps, ints, int_wrap-add_left, int_wrap-add_right, int_wrap-mul_left, int_wrap-mul_right, int_wrap-sub_right, int_wrap_fits, of_z-to_z}
use Rattle.std.proofs.lemmas.Nat.{and_assoc, mod_below, pow_below, xor_comm}
use Rattle.std.proofs.lemmas.Nat.Bits.{bit_at_or, same_from_bits}
use Rattle.mir_base.specs.Numbers.{distance, unsigned, wrapped}
use Rattle.mir_base.specs.NumberLaws.{wrapped_fits}
use Rattle.mir_base.specs.WordLaws.{bits_are}

-- ---- sums and differences

-- to wrap what is taken from changes nothing
sub_left : (a b : ℤ) → wrapped (wrapped a -ℤ b) ≡ wrapped (a -ℤ b)
sub_left a b = int_wrap-add_left w64 a (neg_ℤ b)

-- (v + k) + c
pub add_add : (v k c : ℤ) → wrapped (wrapped (v +ℤ k) +ℤ c) ≡ wrapped (v +ℤ wrapped (k +ℤ c))
add_add v k c = int_wrap-add_left w64 (v +ℤ k) c ∙ ap wrapped (+ℤ_assoc v k c) ∙ sym (int_wrap-add_right w64 v (k +ℤ c))

-- (k - v) + c
pub sub_add : (v k c : ℤ) → wrapped (wrapped (k -ℤ v) +ℤ c) ≡ wrapped (wrapped (k +ℤ c) -ℤ v)
sub_add v k c =
    let e : (k -ℤ v) +ℤ c ≡ (k +ℤ c) -ℤ v = omega (arith, ints) in
    int_wrap-add_left w64 (k -ℤ v) c ∙ ap wrapped e ∙ sym (sub_left (k +ℤ c) v)

-- c - (v + k)
pub add_taken : (v k c : ℤ) → wrapped (c -ℤ wrapped (v +ℤ k)) ≡ wrapped (wrapped (c -ℤ k) -ℤ v)
add_taken v k c =
    let e : c -ℤ (v +ℤ k) ≡ (c -ℤ k) -ℤ v = omega (arith, ints) in
    int_wrap-sub_right w64 c (v +ℤ k) ∙ ap wrapped e ∙ sym (sub_left (c -ℤ k) v)

-- c - (k - v)
pub sub_taken : (v k c : ℤ) → wrapped (c -ℤ wrapped (k -ℤ v)) ≡ wrapped (v +ℤ wrapped (c -ℤ k))
sub_taken v k c =
    let e : c -ℤ (k -ℤ v) ≡ v +ℤ (c -ℤ k) = omega (arith, ints) in
    int_wrap-sub_right w64 c (k -ℤ v) ∙ ap wrapped e ∙ sym (int_wrap-add_right w64 v (c -ℤ k))

-- the negative is the difference from 0
pub neg_is_sub : (v : ℤ) → wrapped (neg_ℤ v) ≡ wrapped (pos 0 -ℤ v)
neg_is_sub v = let e : neg_ℤ v ≡ pos 0 -ℤ v = omega (arith, ints) in ap wrapped e

-- a difference is the sum with the negative
pub sub_is_add : (v c : ℤ) → wrapped (v -ℤ c) ≡ wrapped (v +ℤ wrapped (neg_ℤ c))
sub_is_add v c = sym (int_wrap-add_right w64 v (neg_ℤ c))

-- nothing more is the number
pub add_nothing : (v : ℤ) → FitsSigned w64 v → wrapped (v +ℤ pos 0) ≡ v
add_nothing v fits = let e : v +ℤ pos 0 ≡ v = omega (arith, ints) in ap wrapped e ∙ int_wrap_fits w64 v fits

-- ---- products

-- a negative factor on the left
minus_left : (a b : ℕ) → neg_ℤ (pos a) *ℤ pos b ≡ neg_ℤ (pos (a * b))
minus_left zero b = rw (zero-mul b) refl
minus_left (suc a) b = refl

-- a negative factor on the right
minus_right : (a b : ℕ) → pos a *ℤ neg_ℤ (pos b) ≡ neg_ℤ (pos (a * b))
minus_right a zero = rw (mul-zero a) refl
minus_right a (suc b) = refl

-- two negative factors
minus_both : (a b : ℕ) → neg_ℤ (pos a) *ℤ neg_ℤ (pos b) ≡ pos (a * b)
minus_both zero zero = refl
minus_both zero (suc b) = rw (zero-mul (suc b)) refl
minus_both (suc a) zero = rw (mul-zero (suc a)) refl
minus_both (suc a) (suc b) = refl

-- the order of two products is free
mul_mul : (x y z : ℤ) → (x *ℤ y) *ℤ z ≡ x *ℤ (y *ℤ z)
mul_mul (pos a) (pos b) (pos c) = ap pos (mul_assoc a b c)
mul_mul (pos a) (pos b) (negsuc c) = ap (λ n. neg_ℤ (pos n)) (mul_assoc a b (suc c)) ∙ sym (minus_right a (b * suc c))
mul_mul (pos a) (negsuc b) (pos c) = minus_left (a * suc b) c ∙ ap (λ n. neg_ℤ (pos n)) (mul_assoc a (suc b) c) ∙ sym (minus_right a (suc b * c))
mul_mul (pos a) (negsuc b) (negsuc c) = minus_both (a * suc b) (suc c) ∙ ap pos (mul_assoc a (suc b) (suc c))
mul_mul (negsuc a) (pos b) (pos c) = minus_left (suc a * b) c ∙ ap (λ n. neg_ℤ (pos n)) (mul_assoc (suc a) b c)
mul_mul (negsuc a) (pos b) (negsuc c) = minus_both (suc a * b) (suc c) ∙ ap pos (mul_assoc (suc a) b (suc c)) ∙ sym (minus_both (suc a) (b * suc c))
mul_mul (negsuc a) (negsuc b) (pos c) = ap pos (mul_assoc (suc a) (suc b) c) ∙ sym (minus_both (suc a) (suc b * c))
mul_mul (negsuc a) (negsuc b) (negsuc c) = ap (λ n. neg_ℤ (pos n)) (mul_assoc (suc a) (suc b) (suc c))

-- (v * k) * c
pub mul_twice : (v k c : ℤ) → wrapped (wrapped (v *ℤ k) *ℤ c) ≡ wrapped (v *ℤ wrapped (k *ℤ c))
mul_twice v k c = int_wrap-mul_left w64 (v *ℤ k) c ∙ ap wrapped (mul_mul v k c) ∙ sym (int_wrap-mul_right w64 v (k *ℤ c))

-- ---- the lesser and the greater

-- the order of two minima is free: (v min k) min c
pub min_twice : (v k c : ℤ) → int_min (int_min v k) c ≡ int_min v (int_min k c)
min_twice v k c = omega (arith, ints, clamps)

-- the order of two maxima is free: (v max k) max c
pub max_twice : (v k c : ℤ) → int_max (int_max v k) c ≡ int_max v (int_max k c)
max_twice v k c = omega (arith, ints, clamps)

-- the two operands of a minimum may be turned
pub min_turned : (v c : ℤ) → int_min c v ≡ int_min v c
min_turned v c = omega (arith, ints, clamps)

-- the two operands of a maximum may be turned
pub max_turned : (v c : ℤ) → int_max c v ≡ int_max v c
max_turned v c = omega (arith, ints, clamps)

-- ---- bits

-- without a sign a number is below 2^64
unsigned_low : (z : ℤ) → unsigned z < 2 ^ 64
unsigned_low (pos a) = mod_below a (2 ^ 64) (pow_pos 64)
unsigned_low (negsuc a) = omega (arith, pow_pos 64)

-- what is below 2^64, read with a sign and again without
unsigned_word : (n : ℕ) → n < 2 ^ 64 → unsigned (wrapped (pos n)) ≡ n
unfolding int_wrap
unsigned_word n low =
    let e : n % 2 ^ 64 ≡ n = mod-eq_of_lt low in
    sym (bits_are (wrapped (pos n)) (wrapped_fits (pos n))) ∙ ap (λ m. of_z w64 (to_z w64 m)) e ∙ of_z-to_z w64 n low

-- a number, read without a sign and again with one
pub back : (z : ℤ) → FitsSigned w64 z → wrapped (pos (unsigned z)) ≡ z
unfolding int_wrap
back z fits =
    let e : unsigned z % 2 ^ 64 ≡ unsigned z = mod-eq_of_lt (unsigned_low z) in
    ap (to_z w64) (e ∙ sym (bits_are z fits)) ∙ to_z-of_z fits

-- an operator on bits whose order is free
bits_twice : (f : ℕ → ℕ → ℕ) → ((a b : ℕ) → a < 2 ^ 64 → b < 2 ^ 64 → f a b < 2 ^ 64) → ((a b c : ℕ) → f (f a b) c ≡ f a (f b c)) → (v k c : ℤ)
    → wrapped (pos (f (unsigned (wrapped (pos (f (unsigned v) (unsigned k))))) (unsigned c))) ≡ wrapped (pos (f (unsigned v) (unsigned (wrapped (pos (f (unsigned k) (unsigned c)))))))
bits_twice f low free v k c =
    ap (λ n. wrapped (pos (f n (unsigned c)))) (unsigned_word (f (unsigned v) (unsigned k)) (low (unsigned v) (unsigned k) (unsigned_low v) (unsigned_low k)))
    ∙ ap (λ n. wrapped (pos n)) (free (unsigned v) (unsigned k) (unsigned c))
    ∙ sym (ap (λ n. wrapped (pos (f (unsigned v) n))) (unsigned_word (f (unsigned k) (unsigned c)) (low (unsigned k) (unsigned c) (unsigned_low k) (unsigned_low c))))

-- the order of two disjunctions is free
or_or : (a b c : ℕ) → bit_or (bit_or a b) c ≡ bit_or a (bit_or b c)
or_or a b c = same_from_bits (bit_or (bit_or a b) c) (bit_or a (bit_or b c)) (λ i. omega (arith, bit_at_or (bit_or a b) c i, bit_at_or a b i, bit_at_or a (bit_or b c) i, bit_at_or b c i))

-- (v and k) and c, on words: each result is wrapped, and read without a sign by the next operator
pub and_twice : (v k c : ℤ) → wrapped (pos (bit_and (unsigned (wrapped (pos (bit_and (unsigned v) (unsigned k))))) (unsigned c))) ≡ wrapped (pos (bit_and (unsigned v) (unsigned (wrapped (pos (bit_and (unsigned k) (unsigned c)))))))
and_twice = bits_twice bit_and (and_lt 64) (λ a b c. and_assoc c a b)

-- (v or k) or c, on words
pub or_twice : (v k c : ℤ) → wrapped (pos (bit_or (unsigned (wrapped (pos (bit_or (unsigned v) (unsigned k))))) (unsigned c))) ≡ wrapped (pos (bit_or (unsigned v) (unsigned (wrapped (pos (bit_or (unsigned k) (unsigned c)))))))
or_twice = bits_twice bit_or (or_lt 64) or_or

-- (v xor k) xor c, on words
pub xor_twice : (v k c : ℤ) → wrapped (pos (bit_xor (unsigned (wrapped (pos (bit_xor (unsigned v) (unsigned k))))) (unsigned c))) ≡ wrapped (pos (bit_xor (unsigned v) (unsigned (wrapped (pos (bit_xor (unsigned k) (unsigned c)))))))
xor_twice = bits_twice bit_xor (xor_lt 64) xor_assoc

-- an exclusive or by nothing is the number
pub xor_nothing : (v : ℤ) → FitsSigned w64 v → wrapped (pos (bit_xor (unsigned v) (unsigned (pos 0)))) ≡ v
xor_nothing v fits = ap (λ n. wrapped (pos n)) (xor_zero_r (unsigned v)) ∙ back v fits

-- ---- shifts

-- how far a shift by so far goes
pub distance_is : (far : ℕ) → far ≤ 63 → distance (pos far) ≡ far
distance_is far low = let lt : far < 64 = omega arith in mod-eq_of_lt lt

-- to the left
pub shl_twice : (v : ℤ) (a b : ℕ) → wrapped (wrapped (v *ℤ pos (2 ^ a)) *ℤ pos (2 ^ b)) ≡ wrapped (v *ℤ pos (2 ^ (a + b)))
shl_twice v a b = int_wrap-mul_left w64 (v *ℤ pos (2 ^ a)) (pos (2 ^ b)) ∙ ap wrapped (mul_mul v (pos (2 ^ a)) (pos (2 ^ b))) ∙ ap (λ n. wrapped (v *ℤ pos n)) (sym (pow-add 2 a b))

-- a quotient of a quotient
div_twice : (n a b : ℕ) → n / 2 ^ a / 2 ^ b ≡ n / 2 ^ (a + b)
div_twice n a b = div-div-eq-div-mul n (2 ^ a) (2 ^ b) ∙ ap (λ m. n / m) (sym (pow-add 2 a b))

-- to the right without a sign
pub shr_twice : (v : ℤ) (a b : ℕ) → wrapped (pos (unsigned (wrapped (pos (unsigned v / 2 ^ a))) / 2 ^ b)) ≡ wrapped (pos (unsigned v / 2 ^ (a + b)))
shr_twice v a b =
    let low : unsigned v / 2 ^ a < 2 ^ 64 = omega (arith, unsigned_low v, div-le_self (unsigned v) (2 ^ a)) in
    ap (λ n. wrapped (pos (n / 2 ^ b))) (unsigned_word (unsigned v / 2 ^ a) low) ∙ ap (λ n. wrapped (pos n)) (div_twice (unsigned v) a b)

-- and with the sign
shra_shra : (v : ℤ) (a b : ℕ) → int_div_euclid (int_div_euclid v (pos (2 ^ a))) (pos (2 ^ b)) ≡ int_div_euclid v (pos (2 ^ (a + b)))
shra_shra (pos n) a b = ap pos (div_twice n a b)
shra_shra (negsuc n) a b = ap negsuc (div_twice n a b)

-- past 63 places only the sign is left
div_past : (n far : ℕ) → n < 2 ^ 63 → n / 2 ^ far ≡ n / 2 ^ min far 63
div_past n far low = elim (cases_lt 63 far) [
  | inl past ↦
      let more : 2 ^ 63 < 2 ^ far = pow_below 63 far past in
      let none : n / 2 ^ far ≡ 0 = div-eq_of_lt (omega arith) in
      let none' : n / 2 ^ 63 ≡ 0 = div-eq_of_lt low in
      let is : min far 63 ≡ 63 = omega arith in
      none ∙ sym (ap (λ k. n / 2 ^ k) is ∙ none')
  | inr within ↦ (let is : far ≡ min far 63 = omega arith in ap (λ k. n / 2 ^ k) is)
]

-- a shift to the right with the sign goes by 63 where it would go further
shra_past : (v : ℤ) (far : ℕ) → FitsSigned w64 v → int_div_euclid v (pos (2 ^ far)) ≡ int_div_euclid v (pos (2 ^ min far 63))
shra_past (pos n) far fits = ap pos (div_past n far fits.sfits)
shra_past (negsuc n) far fits = ap negsuc (div_past n far (omega (arith, fits.sfits)))

-- two shifts to the right with the sign are one by both distances, 63 at most
pub shra_twice : (v : ℤ) (a b : ℕ) → FitsSigned w64 v → int_div_euclid (int_div_euclid v (pos (2 ^ a))) (pos (2 ^ b)) ≡ int_div_euclid v (pos (2 ^ min (a + b) 63))
shra_twice v a b fits = shra_shra v a b ∙ shra_past v (a + b) fits

-- ---- equations

-- two tests for equality are one where each says the other
same_test : (a b c d : ℤ) → (a ≡ b → c ≡ d) → (c ≡ d → a ≡ b) → int_eq a b ≡ int_eq c d
same_test a b c d there here = elim (cases_Bool (int_eq a b)) [
  | inl is ↦ is ∙ sym ((Decides-int_eq c d).1 (there ((Decides-int_eq a b).0 is)))
  | inr off ↦ elim (cases_Bool (int_eq c d)) [
    | inl is ↦ (Decides-int_eq a b).1 (here ((Decides-int_eq c d).0 is)) ∙ sym is
    | inr off' ↦ off ∙ sym off'
  ]
]

-- v + k = c
pub add_solved : (v k c : ℤ) → FitsSigned w64 v → FitsSigned w64 c → int_eq (wrapped (v +ℤ k)) c ≡ int_eq v (wrapped (c -ℤ k))
add_solved v k c fits fits' =
    let e : (v +ℤ k) -ℤ k ≡ v = omega (arith, ints) in
    let f : (c -ℤ k) +ℤ k ≡ c = omega (arith, ints) in
    same_test (wrapped (v +ℤ k)) c v (wrapped (c -ℤ k))
    (λ is. sym (ap (λ z. wrapped (z -ℤ k)) (sym is) ∙ sub_left (v +ℤ k) k ∙ ap wrapped e ∙ int_wrap_fits w64 v fits))
    (λ is. ap (λ z. wrapped (z +ℤ k)) is ∙ int_wrap-add_left w64 (c -ℤ k) k ∙ ap wrapped f ∙ int_wrap_fits w64 c fits')

-- k - v = c
pub sub_solved : (v k c : ℤ) → FitsSigned w64 v → FitsSigned w64 c → int_eq (wrapped (k -ℤ v)) c ≡ int_eq v (wrapped (k -ℤ c))
sub_solved v k c fits fits' =
    let e : k -ℤ (k -ℤ v) ≡ v = omega (arith, ints) in
    let f : k -ℤ (k -ℤ c) ≡ c = omega (arith, ints) in
    same_test (wrapped (k -ℤ v)) c v (wrapped (k -ℤ c))
    (λ is. sym (ap (λ z. wrapped (k -ℤ z)) (sym is) ∙ int_wrap-sub_right w64 k (k -ℤ v) ∙ ap wrapped e ∙ int_wrap_fits w64 v fits))
    (λ is. ap (λ z. wrapped (k -ℤ z)) is ∙ int_wrap-sub_right w64 k (k -ℤ c) ∙ ap wrapped f ∙ int_wrap_fits w64 c fits')

-- the exclusive or of two numbers
abbrev xor : ℤ → ℤ → ℤ
xor a b = wrapped (pos (bit_xor (unsigned a) (unsigned b)))

-- in either order it is one
xor_turned : (a b : ℤ) → xor a b ≡ xor b a
xor_turned a b = ap (λ n. wrapped (pos n)) (xor_comm (unsigned a) (unsigned b))

-- with one number twice it is the other
xor_again : (v k : ℤ) → FitsSigned w64 v → xor (xor v k) k ≡ v
xor_again v k fits =
    xor_twice v k k ∙ ap (λ n. xor v (wrapped (pos n))) (xor_self (unsigned k)) ∙ ap (λ n. wrapped (pos (bit_xor (unsigned v) n))) (unsigned_word 0 (pow_pos 64)) ∙ xor_nothing v fits

-- v xor k = c
pub xor_solved : (v k c : ℤ) → FitsSigned w64 v → FitsSigned w64 c → int_eq (wrapped (pos (bit_xor (unsigned v) (unsigned k)))) c ≡ int_eq v (wrapped (pos (bit_xor (unsigned k) (unsigned c))))
xor_solved v k c fits fits' = same_test (xor v k) c v (xor k c)
    (λ is. sym (xor_turned k c ∙ ap (λ z. xor z k) (sym is) ∙ xor_again v k fits))
    (λ is. ap (λ z. xor z k) (is ∙ xor_turned k c) ∙ xor_again c k fits')

-- equality is the same both ways
pub eq_turned : (a b : ℤ) → int_eq a b ≡ int_eq b a
eq_turned a b = same_test a b b a (λ is. sym is) (λ is. sym is)
