-- What a rewriting may use of facts: operators that give an operand or a number, and divisions that do not trap. For
-- proofs only.
use Rattle.std.proofs.Common.{◌≡◌, ℕ, zero, suc, ◌+◌, ◌*◌, ◌-◌, ◌/◌, ◌%◌, ◌^◌, ◌<◌, ◌⊎◌, inl, inr, Bool, true, false, ◌&&◌, refl, sym, ap, ◌∙◌, subst, arith, mod-eq_of_lt, ℤ, pos, negsuc, neg_ℤ, ◌*ℤ◌, unsigned_abs, bit_and, FitsSigned, w64}
use Rattle.std.specs.Ordering.{int_eq}
use Rattle.std.proofs.lemmas.Int.{ints, clamps, int_wrap_fits}
use Rattle.std.proofs.lemmas.Nat.{and_mask, and_block, shl-shr, div-mul-add, mod_below}
use Rattle.std.proofs.Math.Pow.{pow_pos}
use Rattle.std.specs.Int.{int_div_euclid}
use Rattle.std.specs.Prelude.{◌≤ℤ◌, ◌<ℤ◌}
use Rattle.mir_base.specs.declared.operators.Op.{Op}
use Rattle.mir_base.specs.declared.operators.Op.TheVariants.{Mod, Min, Max, Shl, Shra, And}
use Rattle.mir_base.specs.Numbers.{wrapped, unsigned, distance, is_dividing, traps, value_of_op}
use Rattle.bounds.specs.declared.ends.End.{End}
use Rattle.bounds.specs.declared.facts.Fact.{Fact}
use Rattle.bounds.specs.declared.facts.Fact.TheVariants.{Between}
use Rattle.bounds.specs.Ends.{end_value}
use Rattle.bounds.specs.Facts.{low_of, high_of, Bounds}
use Rattle.bounds.specs.RoundingLaws.{le_trans}
use Rattle.bounds.specs.SpanHolds.{ones_end, unsigned_is}

-- an interval whose two ends are one holds of the number of this end alone; so it is where a comparison is decided
pub one_number : (e : End) (z : ℤ) → Bounds (Between e e) z → z ≡ end_value e
one_number e z h = omega (arith, ints, h.low, h.high)

-- numbers above 0 are not found equal to it
positive_apart : (b : ℤ) → pos 1 ≤ℤ b → int_eq b (pos 0) ≡ false
positive_apart b h = grind (arith, ints)

-- nor are those below
negative_apart : (b : ℤ) → b ≤ℤ negsuc 0 → int_eq b (pos 0) ≡ false
negative_apart b h = grind (arith, ints)

-- no operator traps on what is not 0
unharmed : (op : Op) (b : ℤ) → int_eq b (pos 0) ≡ false → traps op b ≡ false
unharmed op b apart = cases (is_dividing op) (int_eq b (pos 0)) apart
  where
    cases : (c e : Bool) → e ≡ false → (c && e) ≡ false
    cases true e h = h
    cases false e h = refl

-- a divisor whose fact leaves out 0 does not trap; the least number by -1 never does
pub no_trap : (op : Op) (y : Fact) (b : ℤ) → (pos 1 ≤ℤ low_of y) ⊎ (high_of y ≤ℤ negsuc 0) → Bounds y b
    → traps op b ≡ false
no_trap op y b (inl above) h = unharmed op b (positive_apart b (le_trans _ _ _ above h.low))
no_trap op y b (inr below) h = unharmed op b (negative_apart b (le_trans _ _ _ h.high below))

-- a remainder of a number that is not negative by a greater one is the number
pub mod_itself : (a d : ℤ) → pos 0 ≤ℤ a → a <ℤ d → value_of_op Mod a d ≡ a
mod_itself (pos a) (pos d) low h = let small : a < d = omega (arith, ints, h) in ap pos (mod-eq_of_lt small)
mod_itself (pos a) (negsuc d) low h = absurd (omega (arith, ints, h))
mod_itself (negsuc a) d low h = absurd (omega (arith, ints, low))

-- so where the fact of the first lies below that of the second
pub mod_keeps : (x y : Fact) (a d : ℤ) → pos 0 ≤ℤ low_of x → high_of x <ℤ low_of y → Bounds x a → Bounds y d
    → value_of_op Mod a d ≡ a
mod_keeps x y a d low less p q =
    mod_itself a d (le_trans _ _ _ low p.low) (omega (arith, ints, less, p.high, q.low))

-- the lesser of two numbers, where it is known which
pub min_keeps : (x y : Fact) (a b : ℤ) → high_of x ≤ℤ low_of y → Bounds x a → Bounds y b → value_of_op Min a b ≡ a
min_keeps x y a b less p q = omega (arith, ints, clamps, less, p.high, q.low)

-- the greater
pub max_keeps : (x y : Fact) (a b : ℤ) → high_of y ≤ℤ low_of x → Bounds x a → Bounds y b → value_of_op Max a b ≡ a
max_keeps x y a b less p q = omega (arith, ints, clamps, less, p.low, q.high)

-- bits below a mask of ones stay by an `and` with what has all of them
masked : (n m k : ℕ) → n < 2 ^ k → bit_and m (2 ^ k - 1) ≡ 2 ^ k - 1 → bit_and n m ≡ n
masked n m k small ones =
    let none : 0 * 2 ^ k + n ≡ n = omega arith in
    let split : m / 2 ^ k * 2 ^ k + m % 2 ^ k ≡ m = omega (arith, pow_pos k) in
    let low : m % 2 ^ k ≡ 2 ^ k - 1 = sym (and_mask m k) ∙ ones in
    let blocks : bit_and (0 * 2 ^ k + n) (m / 2 ^ k * 2 ^ k + m % 2 ^ k) ≡ bit_and 0 (m / 2 ^ k) * 2 ^ k + bit_and n (m % 2 ^ k) =
    and_block k 0 (m / 2 ^ k) n (m % 2 ^ k) small (mod_below m (2 ^ k) (pow_pos k)) in
    let rest : bit_and n (2 ^ k - 1) ≡ n = and_mask n k ∙ mod-eq_of_lt small in
    let kept : bit_and n (m % 2 ^ k) ≡ n = subst (λ j. bit_and n j ≡ n) (sym low) rest in
    let left : bit_and n m ≡ bit_and (0 * 2 ^ k + n) (m / 2 ^ k * 2 ^ k + m % 2 ^ k) = cc in
    left ∙ blocks ∙ omega (arith, kept)

-- an `and` with a number that has all bits of an interval of natural numbers, one by its high end, keeps its numbers
pub and_keeps : (e f : End) (a m : ℤ) → FitsSigned w64 a → pos 0 ≤ℤ end_value e
    → pos (bit_and (unsigned m) (unsigned_abs (end_value f))) ≡ end_value f → Bounds (Between e f) a
    → value_of_op And a m ≡ a
and_keeps e f (negsuc a) m fits low ones h = absurd (omega (arith, ints, low, h.low))
and_keeps e f (pos a) m fits low ones h =
    let natural : pos 0 ≤ℤ end_value f = omega (arith, ints, h.high) in
    let power = ones_end f natural in
    let small : a < 2 ^ power.0 = omega (arith, ints, h.high, power.1) in
    let end_is : end_value f ≡ pos (2 ^ power.0 - 1) = omega (arith, ints, power.1, pow_pos power.0) in
    let ones' : pos (bit_and (unsigned m) (2 ^ power.0 - 1)) ≡ pos (2 ^ power.0 - 1) =
    subst (λ z. pos (bit_and (unsigned m) (unsigned_abs z)) ≡ z) end_is ones in
    let bits : bit_and (unsigned m) (2 ^ power.0 - 1) ≡ 2 ^ power.0 - 1 = cc in
    let kept : bit_and (unsigned (pos a)) (unsigned m) ≡ a =
    subst (λ n. bit_and n (unsigned m) ≡ a) (sym (unsigned_is a fits)) (masked a (unsigned m) power.0 small bits) in
    ap (λ n. wrapped (pos n)) kept ∙ int_wrap_fits w64 (pos a) fits

-- a product by a power of two, shifted back
shifted_back : (a : ℤ) (k : ℕ) → int_div_euclid (a *ℤ pos (2 ^ k)) (pos (2 ^ k)) ≡ a
shifted_back (pos a) k = ap pos (shl-shr a k)
shifted_back (negsuc a) k = negative (2 ^ k) (pow_pos k)
  where
    negative : (d : ℕ) → 0 < d → int_div_euclid (negsuc a *ℤ pos d) (pos d) ≡ negsuc a
    negative zero some = absurd (omega arith)
    negative (suc d) some =
        let whole : suc a * suc d ≡ suc (a * suc d + d) = omega arith in
        ap (λ m. int_div_euclid (neg_ℤ (pos m)) (pos (suc d))) whole ∙ ap negsuc (div-mul-add a (suc d) d (omega arith))

-- a shift to the left and back keeps the numbers that it does not wrap
pub shifts_keep : (a s : ℤ) → FitsSigned w64 (a *ℤ pos (2 ^ distance s))
    → value_of_op Shra (value_of_op Shl a s) s ≡ a
shifts_keep a s fits =
    ap (λ z. int_div_euclid z (pos (2 ^ distance s))) (int_wrap_fits w64 _ fits) ∙ shifted_back a (distance s)
