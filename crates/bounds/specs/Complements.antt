-- Numbers read without a sign, and their complements, bit by bit. For proofs only.
use Rattle.std.proofs.Common.{◌≡◌, ℕ, ◌%◌, ◌^◌, ◌<◌, ◌-◌, sym, ap, ◌∙◌, arith, mod-eq_of_lt, ℤ, pos, negsuc, bit_and, bit_or, bit_xor, FitsSigned, w64, to_z}
use Rattle.std.proofs.lemmas.Int.{int_wrap_fits}
use Rattle.std.proofs.lemmas.Nat.{and_mask, xor_lt, xor_comm}
use Rattle.std.specs.Int.{int_wrap}
use Rattle.std.specs.Int.Bits.{or_add_and, xor_add_and, xor_assoc}
use Rattle.mir_base.specs.Numbers.{wrapped, unsigned}

-- how far a number is up from 0, or down from -1
abbrev pub far : ℤ → ℕ
far (pos n) = n
far (negsuc n) = n

-- a number has 63 bits beside its sign
pub far_low : (a : ℤ) → FitsSigned w64 a → far a < 2 ^ 63
far_low (pos n) fits = omega (arith, fits.sfits)
far_low (negsuc n) fits = omega (arith, fits.sfits)

-- a negative number read without a sign
pub unsigned_negative : (n : ℕ) → FitsSigned w64 (negsuc n) → unsigned (negsuc n) ≡ 18446744073709551615 - n
unsigned_negative n fits =
    let low : n < 2 ^ 64 = omega (arith, far_low (negsuc n) fits) in
    let e : n % 2 ^ 64 ≡ n = mod-eq_of_lt low in
    omega (arith, e)

-- ones but those of a number: read with a sign, its complement
pub read_negative : (n u : ℕ) → n < 2 ^ 63 → u ≡ 18446744073709551615 - n → wrapped (pos u) ≡ negsuc n
unfolding int_wrap
read_negative n u low is =
    let fits : FitsSigned w64 (negsuc n) = record { sfits = omega (arith, low) } in
    let same : u % 2 ^ 64 ≡ unsigned (negsuc n) = omega (arith, is, unsigned_negative n fits) in
    ap (to_z w64) same ∙ int_wrap_fits w64 (negsuc n) fits

-- `xor` with ones alone
xor_ones : (n : ℕ) → n < 2 ^ 64 → bit_xor n 18446744073709551615 ≡ 18446744073709551615 - n
xor_ones n low =
    let mask : bit_and n 18446744073709551615 ≡ n % 2 ^ 64 = and_mask n 64 in
    let same : n % 2 ^ 64 ≡ n = mod-eq_of_lt low in
    omega (arith, mask, same, low, xor_add_and n 18446744073709551615)

-- of a complement
pub xor_complement : (n m : ℕ) → n < 2 ^ 64 → m < 2 ^ 64
    → bit_xor (18446744073709551615 - n) m ≡ 18446744073709551615 - bit_xor n m
xor_complement n m low low' =
    ap (λ k. bit_xor k m) (sym (xor_ones n low) ∙ xor_comm n 18446744073709551615) ∙ xor_assoc 18446744073709551615 n m
    ∙ xor_comm 18446744073709551615 (bit_xor n m) ∙ xor_ones (bit_xor n m) (xor_lt 64 n m low low')

-- of two
pub xor_complements : (n m : ℕ) → n < 2 ^ 64 → m < 2 ^ 64
    → bit_xor (18446744073709551615 - n) (18446744073709551615 - m) ≡ bit_xor n m
xor_complements n m low low' =
    let low'' : 18446744073709551615 - m < 2 ^ 64 = omega arith in
    let once : bit_xor n (18446744073709551615 - m) ≡ 18446744073709551615 - bit_xor n m =
    xor_comm n _ ∙ xor_complement m n low' low ∙ ap (λ k. 18446744073709551615 - k) (xor_comm m n) in
    let small : bit_xor n m < 2 ^ 64 = xor_lt 64 n m low low' in
    omega (arith, xor_complement n (18446744073709551615 - m) low low'', once, small)

-- `and` of two
pub and_complements : (n m : ℕ) → n < 2 ^ 64 → m < 2 ^ 64
    → bit_and (18446744073709551615 - n) (18446744073709551615 - m) ≡ 18446744073709551615 - bit_or n m
and_complements n m low low' =
    omega (
      arith,
      low,
      low',
      xor_complements n m low low',
      xor_add_and (18446744073709551615 - n) (18446744073709551615 - m),
      xor_add_and n m,
      or_add_and n m,
    )
