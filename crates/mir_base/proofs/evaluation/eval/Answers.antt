use Rattle.std.proofs.Common.{◌≡◌, ◌≢◌, ℕ, ◌/◌, ◌%◌, ◌^◌, ◌<◌, false, ℤ, pos, negsuc, ◌*ℤ◌, int_div, int_eq, refl, ap, Ok, w64, to_z, of_z, ◌∙◌, to_z-of_z, arith, FitsSigned}
use Rattle.std.proofs.lemmas.Bool.Decides.{nat_tests}
use Rattle.std.specs.Int.{int_wrapping_div, int_shl}
use Rattle.std.proofs.Math.Nat.{mod-eq_of_lt}
use Rattle.std.proofs.lemmas.Int.{wrapping_add_is, wrapping_sub_is}
use Rattle.mir_base.specs.Numbers.{distance, unsigned}
use Rattle.mir_base.specs.WordLaws.{handed, div_is, shl_is, shr_is, and_is, or_is, xor_is}
use Rattle.mir_base.proofs.evaluation.eval.Goals as goal

pub returns-in-Add : goal.returns-in-Add
returns-in-Add c = rw c.in-Add.is (ap Ok (wrapping_add_is w64 c.args.a c.args.b c.ranges.a c.ranges.b))

pub returns-in-Sub : goal.returns-in-Sub
returns-in-Sub c = rw c.in-Sub.is (ap Ok (wrapping_sub_is w64 c.args.a c.args.b c.ranges.a c.ranges.b))

not_zero : (b : ℤ) → of_z w64 b ≢ 0 → int_eq b (pos 0) ≡ false
not_zero (pos n) other = grind (arith, nat_tests)
not_zero (negsuc n) other = refl

pub returns-else-b-eq0 : goal.returns-else-b-eq0
returns-else-b-eq0 c =
    let other : int_eq c.args.b (pos 0) ≡ false = not_zero c.args.b c.if-b-eq0.false in
    let machine = c.wrapping_div.ensures ∙ ap (λ a. int_wrapping_div w64 a (to_z w64 (of_z w64 c.args.b))) (to_z-of_z c.ranges.a) ∙ ap (int_wrapping_div w64 c.args.a) (to_z-of_z c.ranges.b) in
    rw (c.in-Div.is, other) (ap Ok (handed c.wrapping_div.result (int_div c.args.a c.args.b) (machine ∙ div_is c.args.a c.args.b c.ranges.a)))

-- the distance that the code shifts by
shifted_by : (b : ℤ) (k : ℕ) → FitsSigned w64 b → k < 64 → k ≡ distance (to_z w64 (of_z w64 b)) → k % 64 ≡ distance b
shifted_by b k fits low is = mod-eq_of_lt low ∙ is ∙ ap distance (to_z-of_z fits)

pub returns-in-Shl : goal.returns-in-Shl
returns-in-Shl c =
    let by = shifted_by c.args.b c.distance.result c.ranges.b c.distance.ensures.below c.distance.ensures.value in
    let low : distance c.args.b < 64 = omega (arith, c.distance.ensures.below, c.distance.ensures.value, ap distance (to_z-of_z c.ranges.b)) in
    let machine = c.wrapping_shl.ensures ∙ ap (λ a. int_shl w64 a (c.distance.result % 64)) (to_z-of_z c.ranges.a) ∙ ap (int_shl w64 c.args.a) by in
    rw c.in-Shl.is (ap Ok (handed c.wrapping_shl.result (c.args.a *ℤ pos (2 ^ distance c.args.b)) (machine ∙ shl_is c.args.a (distance c.args.b) c.ranges.a low)))

pub returns-in-Shr : goal.returns-in-Shr
returns-in-Shr c =
    let by = shifted_by c.args.b c.distance-in-Shr.result c.ranges.b c.distance-in-Shr.ensures.below c.distance-in-Shr.ensures.value in
    let bits = c.cast_unsigned.ensures ∙ ap (of_z w64) (to_z-of_z c.ranges.a) in
    let machine = c.cast_signed.ensures ∙ ap (to_z w64) (c.wrapping_shr.ensures ∙ ap (λ n. n / 2 ^ (c.distance-in-Shr.result % 64)) bits ∙ ap (λ k. of_z w64 c.args.a / 2 ^ k) by) in
    rw c.in-Shr.is (ap Ok (handed c.cast_signed.result (pos (unsigned c.args.a / 2 ^ distance c.args.b)) (machine ∙ shr_is c.args.a (distance c.args.b) c.ranges.a)))

pub returns-in-And : goal.returns-in-And
returns-in-And c = rw c.in-And.is (ap Ok (and_is c.args.a c.args.b c.ranges.a c.ranges.b))

pub returns-in-Or : goal.returns-in-Or
returns-in-Or c = rw c.in-Or.is (ap Ok (or_is c.args.a c.args.b c.ranges.a c.ranges.b))

pub returns-in-Xor : goal.returns-in-Xor
returns-in-Xor c = rw c.in-Xor.is (ap Ok (xor_is c.args.a c.args.b c.ranges.a c.ranges.b))
