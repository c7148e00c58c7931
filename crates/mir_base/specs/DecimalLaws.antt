-- The decimal text of a number below 2^64: it is of digits, at most 20, and no other number has it; digits among other
-- bytes. For proofs only.
use Rattle.std.proofs.Common.{◌≡◌, ◌<◌, ◌≤◌, ◌^◌, ℕ, Bool, true, ◌&&◌, List, [], ◌∷◌, ◌++◌, length, decimal, refl, sym, ap, ◌∙◌, arith}
use Rattle.std.specs.List.{list_all}
use Rattle.std.specs.Char.{is_ascii_digit}
use Rattle.std.specs.Str.{all_ascii_digits}
use Rattle.std.specs.Str.Parse.{digits_value}
use Rattle.std.proofs.lemmas.Bool.{and_parts}
use Rattle.std.proofs.lemmas.List.{append_cancel_left}
use Rattle.std.proofs.lemmas.List.Folds.{list_all-append}
use Rattle.std.proofs.lemmas.Str.Parse.{IsNumeralModel, numerals_by_value, tells_all_ascii_digits}
use Rattle.std.proofs.lemmas.Fmt.{digits_decimal, digits_value-decimal, decimal_injective, decimal_nonempty, length-decimal-le}

-- ---- the text of a number

-- texts of ASCII digits are numerals by std's laws
pub digits_are_numerals : IsNumeralModel (λ ds. all_ascii_digits ds ≡ true) (digits_value 10)
digits_are_numerals = numerals_by_value _ tells_all_ascii_digits

-- the text is of digits
pub decimal_all_digits : (n : ℕ) → n < 2 ^ 64 → all_ascii_digits (decimal n) ≡ true
decimal_all_digits n low = digits_decimal digits_are_numerals n low

-- and has at least one
pub decimal_is_digits : (n : ℕ) → n < 2 ^ 64 → (0 < length (decimal n)) × (all_ascii_digits (decimal n) ≡ true)
decimal_is_digits n low = (decimal_nonempty n low, decimal_all_digits n low)

-- and at most 20
pub decimal_is_short : (n : ℕ) → n < 2 ^ 64 → length (decimal n) ≤ 20
decimal_is_short n low = length-decimal-le 20 n (omega arith) (omega arith) low

-- its value is the number
pub decimal_has_value : (n : ℕ) → n < 2 ^ 64 → digits_value 10 (decimal n) ≡ n
decimal_has_value n low = digits_value-decimal digits_are_numerals n low

-- different numbers have different texts, also behind the same bytes
pub numbered_differ : (front : List ℕ) (m n : ℕ) → m < 2 ^ 64 → n < 2 ^ 64 → front ++ decimal m ≡ front ++ decimal n → m ≡ n
numbered_differ front m n m_low n_low same = decimal_injective m n m_low n_low (append_cancel_left front (decimal m) (decimal n) same)

-- ---- a byte among others

-- digits are bytes that each pass the test of a digit
pub digits_all : (s : List ℕ) → all_ascii_digits s ≡ list_all is_ascii_digit s
digits_all [] = refl
digits_all (d ∷ s) = ap (λ (t : Bool). is_ascii_digit d && t) (digits_all s)

-- a byte among bytes that all pass a test passes it
pub passes_at : (test : ℕ → Bool) (bytes : List ℕ) (byte : ℕ) (more : List ℕ) → list_all test (bytes ++ byte ∷ more) ≡ true → test byte ≡ true
passes_at test bytes byte more h =
    let parts = and_parts (list_all test bytes) (test byte && list_all test more) (sym (list_all-append test bytes (byte ∷ more)) ∙ h) in
    (and_parts (test byte) (list_all test more) parts.1).0

-- a byte among digits is one
pub digit_at : (bytes : List ℕ) (byte : ℕ) (more : List ℕ) → all_ascii_digits (bytes ++ byte ∷ more) ≡ true → is_ascii_digit byte ≡ true
digit_at bytes byte more h = passes_at is_ascii_digit bytes byte more (sym (digits_all (bytes ++ byte ∷ more)) ∙ h)
