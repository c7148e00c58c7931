-- A shift to the left and as far back keeps the numbers of the bits that are left, with a sign and without.
use Rattle.std.proofs.Common.{◌≡◌, ℕ, zero, suc, ◌+◌, ◌-◌, ◌*◌, ◌/◌, ◌%◌, ◌^◌, ◌<◌, ◌≤◌, sym, ap, ◌∙◌, subst, arith, mod-eq_of_lt, ℤ, pos, negsuc, neg_ℤ, ◌*ℤ◌, FitsSigned, w64, to_z, of_z}
use Rattle.std.specs.Prelude.{◌≤ℤ◌}
use Rattle.std.specs.Int.{int_wrap}
use Rattle.std.proofs.lemmas.Int.{ints, int_wrap_fits, of_z-to_z}
use Rattle.std.proofs.lemmas.Nat.{pow-add, shl-shr}
use Rattle.std.proofs.Math.Nat.{mul-le-mul_left}
use Rattle.std.proofs.Math.Pow.{pow_pos}
use Rattle.mir_base.specs.declared.operators.Op.TheVariants.{Shl, Shr, Shra}
use Rattle.mir_base.specs.NumberLaws.{wrapped_fits}
use Rattle.mir_base.specs.Numbers.{distance, unsigned, value_of_op, wrapped}
use Rattle.mir_base.specs.WordLaws.{bits_are}
use Rattle.bounds.specs.SpanMono.{power_mono}
use Rattle.bounds.specs.UseLaws.{shifts_keep}
use Rattle.extend_flow.specs.Extensions.{IsDistance}

-- a distance is read as itself
pub distance_reads : (d : ℕ) → IsDistance d → distance (wrapped (pos d)) ≡ d
distance_reads d far =
    let fits : FitsSigned w64 (pos d) = record { sfits = omega (arith, far.high) } in
    ap distance (int_wrap_fits w64 (pos d) fits) ∙ mod-eq_of_lt (omega (arith, far.high))

-- the product of two powers of two
power_product : (i j k : ℕ) → i + j ≡ k → 2 ^ i * 2 ^ j ≡ 2 ^ k
power_product i j k sum = sym (pow-add 2 i j) ∙ ap (λ n. 2 ^ n) sum

-- with a sign, what is kept does not wrap
fits_shifted : (d : ℕ) (a : ℤ) → IsDistance d → neg_ℤ (pos (2 ^ (63 - d))) ≤ℤ a → a ≤ℤ pos (2 ^ (63 - d) - 1) → FitsSigned w64 (a *ℤ pos (2 ^ d))
fits_shifted d (pos n) far low high =
    let less : suc n ≤ 2 ^ (63 - d) = omega (arith, ints, high, pow_pos (63 - d)) in
    let product : 2 ^ d * suc n ≤ 2 ^ d * 2 ^ (63 - d) = mul-le-mul_left (2 ^ d) less in
    let all : 2 ^ d * 2 ^ (63 - d) ≡ 2 ^ 63 = power_product d (63 - d) 63 (omega (arith, far.high)) in
    let more : suc n * 2 ^ d ≡ 2 ^ d + n * 2 ^ d = omega arith in
    record { sfits = omega (arith, product, all, more, pow_pos d) }
fits_shifted d (negsuc n) far low high =
    let less : suc n ≤ 2 ^ (63 - d) = omega (arith, ints, low) in
    let product : 2 ^ d * suc n ≤ 2 ^ d * 2 ^ (63 - d) = mul-le-mul_left (2 ^ d) less in
    let all : 2 ^ d * 2 ^ (63 - d) ≡ 2 ^ 63 = power_product d (63 - d) 63 (omega (arith, far.high)) in
    by (suc n * 2 ^ d) (omega (arith, product, all))
  where
    by : (m : ℕ) → m ≤ 2 ^ 63 → FitsSigned w64 (neg_ℤ (pos m))
    by zero le = record { sfits = omega arith }
    by (suc m) le = record { sfits = omega (arith, le) }

-- so the shift back with the sign gives the number
pub signed_kept : (d : ℕ) (a : ℤ) → IsDistance d → neg_ℤ (pos (2 ^ (63 - d))) ≤ℤ a → a ≤ℤ pos (2 ^ (63 - d) - 1)
    → value_of_op Shra (value_of_op Shl a (wrapped (pos d))) (wrapped (pos d)) ≡ a
signed_kept d a far low high =
    shifts_keep a (wrapped (pos d)) (subst (λ k. FitsSigned w64 (a *ℤ pos (2 ^ k))) (sym (distance_reads d far)) (fits_shifted d a far low high))

-- ---- without a sign

-- a number below 2 ^ 64, wrapped and read without a sign
word_of : (n : ℕ) → n < 2 ^ 64 → to_z w64 n ≡ wrapped (pos n)
unfolding int_wrap
word_of n low = let e : n % 2 ^ 64 ≡ n = mod-eq_of_lt low in ap (to_z w64) (sym e)

-- and read without a sign again, it is that number
reads_back : (n : ℕ) → n < 2 ^ 64 → unsigned (wrapped (pos n)) ≡ n
reads_back n low = sym (bits_are (wrapped (pos n)) (wrapped_fits (pos n))) ∙ ap (of_z w64) (sym (word_of n low)) ∙ of_z-to_z w64 n low

-- the shift back without a sign gives the number
pub unsigned_kept : (d : ℕ) (a : ℤ) → IsDistance d → pos 0 ≤ℤ a → a ≤ℤ pos (2 ^ (64 - d) - 1)
    → value_of_op Shr (value_of_op Shl a (wrapped (pos d))) (wrapped (pos d)) ≡ a
unsigned_kept d (negsuc n) far low high = absurd (omega (arith, ints, low))
unsigned_kept d (pos n) far low high =
    let less : suc n ≤ 2 ^ (64 - d) = omega (arith, ints, high, pow_pos (64 - d)) in
    let product : 2 ^ d * suc n ≤ 2 ^ d * 2 ^ (64 - d) = mul-le-mul_left (2 ^ d) less in
    let all : 2 ^ d * 2 ^ (64 - d) ≡ 2 ^ 64 = power_product d (64 - d) 64 (omega (arith, far.high)) in
    let more : suc n * 2 ^ d ≡ 2 ^ d + n * 2 ^ d = omega arith in
    let small : n * 2 ^ d < 2 ^ 64 = omega (arith, product, all, more, pow_pos d) in
    let bound : 2 ^ (64 - d) ≤ 2 ^ 63 = power_mono (64 - d) 63 (omega (arith, far.low)) in
    let fits : FitsSigned w64 (pos n) = record { sfits = omega (arith, less, bound) } in
    let reads = distance_reads d far in
    ap (λ k. wrapped (pos (unsigned (wrapped (pos n *ℤ pos (2 ^ k))) / 2 ^ k))) reads
    ∙ ap (λ m. wrapped (pos (m / 2 ^ d))) (reads_back (n * 2 ^ d) small)
    ∙ ap (λ m. wrapped (pos m)) (shl-shr n d) ∙ int_wrap_fits w64 (pos n) fits
