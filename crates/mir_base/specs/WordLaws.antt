-- What machine words compute is the number over the whole numbers, wrapped. For proofs only; cond_const cites it too.
use Rattle.std.proofs.Common.{◌≡◌, ℕ, zero, suc, ◌/◌, ◌%◌, ◌^◌, ◌<◌, ℤ, pos, negsuc, neg_ℤ, ◌*ℤ◌, int_div, bit_and, bit_or, bit_xor, sym, ap, ◌∙◌, arith, FitsSigned, w64, to_z, of_z, to_z-of_z, div-le_self}
use Rattle.std.specs.Int.{int_wrap, int_shl, int_wrapping_div, int_bit_and, int_bit_or, int_bit_xor}
use Rattle.std.specs.Int.Signed.{mag}
use Rattle.std.specs.Int.Bits.{and_lt, or_lt, xor_lt}
use Rattle.std.proofs.Math.Nat.{mod-eq_of_lt}
use Rattle.std.proofs.Math.Pow.{pow-lt}
use Rattle.std.proofs.Math.Facts.{Fits-lt-pow, Fits-of_z}
use Rattle.std.proofs.lemmas.Int.{SFits-int_wrap, int_wrap-mul_right, wrapping_mul-bits}
use Rattle.mir_base.specs.Numbers.{wrapped, unsigned}

-- a number of at most 64 bits, read without a sign and then with one
once : (z : ℤ) → mag z < 2 ^ 64 → to_z w64 (of_z w64 z) ≡ wrapped z
unfolding int_wrap
once (pos n) low = let e : n % 2 ^ 64 ≡ n = mod-eq_of_lt low in ap (to_z w64) (sym e)
once (negsuc n) low = let e : n % 2 ^ 64 ≡ n = mod-eq_of_lt low in ap (to_z w64) (omega (arith, e))

-- a word read as a signed number is its value wrapped
word_is : (n : ℕ) → n < 2 ^ 64 → to_z w64 n ≡ wrapped (pos n)
word_is n low = once (pos n) low

-- the bits of a number are the number without its sign
pub bits_are : (a : ℤ) → FitsSigned w64 a → of_z w64 a ≡ unsigned a
bits_are (pos n) fits = let low : n < 2 ^ 64 = omega (arith, fits.sfits) in sym (mod-eq_of_lt low)
bits_are (negsuc n) fits = let low : n < 2 ^ 64 = omega (arith, fits.sfits) in let e : n % 2 ^ 64 ≡ n = mod-eq_of_lt low in omega (arith, e)

-- read without a sign, it stays below 2 ^ 64
unsigned_low : (a : ℤ) → FitsSigned w64 a → unsigned a < 2 ^ 64
unsigned_low a fits = omega (arith, bits_are a fits, Fits-lt-pow (Fits-of_z fits))

-- a change of sign keeps the magnitude
negated_low : (n : ℕ) → n < 2 ^ 64 → mag (neg_ℤ (pos n)) < 2 ^ 64
negated_low zero low = low
negated_low (suc n) low = omega (arith, low)

-- a quotient's magnitude is at most its dividend's
quotient_low : (a d : ℤ) → FitsSigned w64 a → mag (int_div a d) < 2 ^ 64
quotient_low (pos a) (pos b) fits = omega (arith, fits.sfits, div-le_self a b)
quotient_low (pos a) (negsuc b) fits = negated_low (a / suc b) (omega (arith, fits.sfits, div-le_self a (suc b)))
quotient_low (negsuc a) (pos b) fits = negated_low (suc a / b) (omega (arith, fits.sfits, div-le_self (suc a) b))
quotient_low (negsuc a) (negsuc b) fits = omega (arith, fits.sfits, div-le_self (suc a) (suc b))

-- ---- each operator whose word is not the number itself

-- the quotient
pub div_is : (a d : ℤ) → FitsSigned w64 a → int_wrapping_div w64 a d ≡ wrapped (int_div a d)
div_is a d fits = once (int_div a d) (quotient_low a d fits)

-- a shift to the left
pub shl_is : (a : ℤ) (k : ℕ) → FitsSigned w64 a → k < 64 → int_shl w64 a k ≡ wrapped (a *ℤ pos (2 ^ k))
shl_is a k fits low =
    wrapping_mul-bits w64 (of_z w64 a) (2 ^ k) (Fits-lt-pow (Fits-of_z fits)) (pow-lt low) ∙ ap (λ x. wrapped (x *ℤ to_z w64 (2 ^ k))) (to_z-of_z fits)
    ∙ ap (λ x. wrapped (a *ℤ x)) (word_is (2 ^ k) (pow-lt low)) ∙ int_wrap-mul_right w64 a (pos (2 ^ k))

-- a shift to the right of the number without its sign
pub shr_is : (a : ℤ) (k : ℕ) → FitsSigned w64 a → to_z w64 (of_z w64 a / 2 ^ k) ≡ wrapped (pos (unsigned a / 2 ^ k))
shr_is a k fits =
    ap (λ n. to_z w64 (n / 2 ^ k)) (bits_are a fits) ∙ word_is (unsigned a / 2 ^ k) (omega (arith, unsigned_low a fits, div-le_self (unsigned a) (2 ^ k)))

-- what is computed bit by bit
bitwise_is : (f : ℕ → ℕ → ℕ) (a b : ℤ) → FitsSigned w64 a → FitsSigned w64 b → f (unsigned a) (unsigned b) < 2 ^ 64
    → to_z w64 (f (of_z w64 a) (of_z w64 b)) ≡ wrapped (pos (f (unsigned a) (unsigned b)))
bitwise_is f a b fits_a fits_b low =
    ap (λ n. to_z w64 (f n (of_z w64 b))) (bits_are a fits_a) ∙ ap (λ n. to_z w64 (f (unsigned a) n)) (bits_are b fits_b) ∙ word_is (f (unsigned a) (unsigned b)) low

-- and
pub and_is : (a b : ℤ) → FitsSigned w64 a → FitsSigned w64 b → int_bit_and w64 a b ≡ wrapped (pos (bit_and (unsigned a) (unsigned b)))
and_is a b fits_a fits_b = bitwise_is bit_and a b fits_a fits_b (and_lt 64 _ _ (unsigned_low a fits_a) (unsigned_low b fits_b))

-- or
pub or_is : (a b : ℤ) → FitsSigned w64 a → FitsSigned w64 b → int_bit_or w64 a b ≡ wrapped (pos (bit_or (unsigned a) (unsigned b)))
or_is a b fits_a fits_b = bitwise_is bit_or a b fits_a fits_b (or_lt 64 _ _ (unsigned_low a fits_a) (unsigned_low b fits_b))

-- exclusive or
pub xor_is : (a b : ℤ) → FitsSigned w64 a → FitsSigned w64 b → int_bit_xor w64 a b ≡ wrapped (pos (bit_xor (unsigned a) (unsigned b)))
xor_is a b fits_a fits_b = bitwise_is bit_xor a b fits_a fits_b (xor_lt 64 _ _ (unsigned_low a fits_a) (unsigned_low b fits_b))

-- a wrapped number stays what it is on its way out of a call
pub handed : (r z : ℤ) → r ≡ wrapped z → to_z w64 (of_z w64 r) ≡ wrapped z
handed r z e = ap (λ x. to_z w64 (of_z w64 x)) e ∙ to_z-of_z (SFits-int_wrap w64 z)
