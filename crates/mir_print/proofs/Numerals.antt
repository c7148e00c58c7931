-- The decimal texts of signed numbers are numerals of these numbers.
use Rattle.std.proofs.Common.{◌≡◌, ℕ, ℤ, pos, negsuc, neg_ℤ, suc, ◌<◌, ◌^◌, ◌==◌, Bool, true, false, cond, List, [], ◌∷◌, drop, decimal, FitsSigned, w64, refl, ap, ◌∙◌, inl, inr, arith}
use Rattle.std.specs.Fmt.{signed_decimal}
use Rattle.std.specs.Char.{is_ascii_digit}
use Rattle.std.specs.Str.{all_ascii_digits}
use Rattle.std.specs.Str.Parse.{without_leading_sign, digits_value, signed_digits_value}
use Rattle.std.proofs.lemmas.Bool.{and_parts}
use Rattle.mir_base.specs.DecimalLaws.{decimal_is_digits, decimal_has_value}
use Rattle.std.proofs.lemmas.Bool.Decides.{nat_tests}
use Rattle.mir_lex.specs.declared.scan.Previous.{Previous}
use Rattle.mir_lex.specs.Spelling.{IsDigits, CanBeSigned, IsNumeral}

-- a signed number is a numeral, where a minus may begin one
pub signed_numeral : (previous : Previous) (z : ℤ) → FitsSigned w64 z → CanBeSigned previous → IsNumeral previous (signed_decimal z)
signed_numeral previous (pos n) fits can = inl (decimal_is_digits n (omega (arith, fits.sfits)))
signed_numeral previous (negsuc n) fits can = inr (decimal (suc n), refl, decimal_is_digits (suc n) (omega (arith, fits.sfits)), can)

-- digits alone have the value of a number without a sign
plain_value : (ds : List ℕ) → IsDigits ds → signed_digits_value 10 ds ≡ pos (digits_value 10 ds)
plain_value [] h = absurd (omega (arith, h.0))
plain_value (d ∷ ds) h =
    let digit : is_ascii_digit d ≡ true = (and_parts (is_ascii_digit d) (all_ascii_digits ds) h.1).0 in
    let minus : (d == 45) ≡ false = grind (arith, nat_tests) in
    let plus : (d == 43) ≡ false = grind (arith, nat_tests) in
    let bare : without_leading_sign (d ∷ ds) ≡ d ∷ ds = ap (λ (t : Bool). cond t ds (drop (cond (d == 43) 1 0) (d ∷ ds))) minus ∙ ap (λ (t : Bool). drop (cond t 1 0) (d ∷ ds)) plus in
    let value : List ℕ → ℤ = λ l. pos (digits_value 10 l) in
    ap (λ (t : Bool). cond t (neg_ℤ (value (without_leading_sign (d ∷ ds)))) (value (without_leading_sign (d ∷ ds)))) minus ∙ ap value bare

-- a signed number is the value of its decimal text
pub signed_value : (z : ℤ) → FitsSigned w64 z → signed_digits_value 10 (signed_decimal z) ≡ z
signed_value (pos n) fits = let low : n < 2 ^ 64 = omega (arith, fits.sfits) in plain_value (decimal n) (decimal_is_digits n low) ∙ ap pos (decimal_has_value n low)
signed_value (negsuc n) fits =
    let low : suc n < 2 ^ 64 = omega (arith, fits.sfits) in ap (λ (v : ℕ). neg_ℤ (pos v)) (decimal_has_value (suc n) low)
