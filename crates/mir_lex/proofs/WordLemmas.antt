-- A number word is a numeral of the language, and each numeral in range is one.
use Rattle.std.proofs.Common.{◌≡◌, ℕ, ℤ, ◌^◌, ◌==◌, Bool, true, cond, List, [], ◌∷◌, length, None, Some, refl, sym, ◌∙◌, ap, ◌&&◌, nat_lt, inl, inr}
use Rattle.std.proofs.lemmas.Bool.{cases_Bool, ltb-true, lt-ltb, eqb-true, and_from, and_parts}
use Rattle.std.specs.Char.{is_ascii_digit}
use Rattle.std.specs.Str.{all_ascii_digits}
use Rattle.std.specs.Str.Parse.{digits_value, signed_digits_value}
use Rattle.mir_lex.specs.declared.scan.Previous.TheVariants.{Other as AfterOther}
use Rattle.mir_lex.specs.Numbers.{is_digits, without_minus, fits_signed, signed_number, unsigned_number, IsSignedWord, IsUnsignedWord}
use Rattle.mir_lex.specs.Spelling.{IsDigits, IsNumeral}
use Rattle.std.proofs.lemmas.Option.{cond_some}

-- ---- tests and facts

-- the test of digits gives the fact
of_digits : (bytes : List ℕ) → is_digits bytes ≡ true → IsDigits bytes
of_digits bytes is = let two = and_parts (nat_lt 0 (length bytes)) (all_ascii_digits bytes) is in (ltb-true _ _ two.0, two.1)

-- the fact gives the test
to_digits : (bytes : List ℕ) → IsDigits bytes → is_digits bytes ≡ true
to_digits bytes is = and_from _ _ (lt-ltb _ _ is.0) is.1

-- what has digits behind an optional minus is a numeral
of_minus : (bytes : List ℕ) → is_digits (without_minus bytes) ≡ true → IsNumeral AfterOther bytes
of_minus [] is = absurd (cc)
of_minus (b ∷ bytes) is = elim (cases_Bool (b == 45)) [
  | inl minus ↦ inr (bytes, ap (λ (n : ℕ). n ∷ bytes) (eqb-true b 45 minus), of_digits bytes (ap (λ (t : Bool). is_digits (cond t bytes (b ∷ bytes))) (sym minus) ∙ is), tt)
  | inr plain ↦ inl (of_digits (b ∷ bytes) (ap (λ (t : Bool). is_digits (cond t bytes (b ∷ bytes))) (sym plain) ∙ is))
]

-- digits begin with no minus
no_minus : (bytes : List ℕ) → IsDigits bytes → without_minus bytes ≡ bytes
no_minus [] is = refl
no_minus (b ∷ bytes) is = elim (cases_Bool (b == 45)) [
  | inl minus ↦ absurd (let two = and_parts (is_ascii_digit b) (all_ascii_digits bytes) is.1 in let e = sym (ap is_ascii_digit (eqb-true b 45 minus)) ∙ two.0 in cc)
  | inr plain ↦ ap (λ (t : Bool). cond t bytes (b ∷ bytes)) plain
]

-- a numeral has digits behind an optional minus
to_minus : (bytes : List ℕ) → IsNumeral AfterOther bytes → is_digits (without_minus bytes) ≡ true
to_minus bytes (inl digits) = ap is_digits (no_minus bytes digits) ∙ to_digits bytes digits
to_minus bytes (inr (digits, is, are, signed)) = ap (λ (l : List ℕ). is_digits (without_minus l)) is ∙ to_digits digits are

-- ---- both ways, with a sign and without

-- a number that is found is the numeral's
pub signed_word : (word : List ℕ) (number : ℤ) → signed_number word ≡ Some number → IsSignedWord word number
unfolding signed_number
signed_word word number is =
    let v = signed_digits_value 10 word in
    let has = cond_some (is_digits (without_minus word) && fits_signed v) v number is in
    let two = and_parts (is_digits (without_minus word)) (fits_signed v) has.0 in
    record { numeral = of_minus word two.0; range = record { sfits = ltb-true _ _ two.1 }; value = sym has.1 }

-- the numeral's number is found
pub word_signed : (word : List ℕ) (number : ℤ) → IsSignedWord word number → signed_number word ≡ Some number
unfolding signed_number
word_signed word number is =
    let v = signed_digits_value 10 word in
    ap (λ (t : Bool). cond t (Some v) None) (and_from (is_digits (without_minus word)) (fits_signed v) (to_minus word is.numeral) (lt-ltb _ _ is.range.sfits)) ∙ ap (λ (n : ℤ). Some n) (sym is.value)

-- a number without a sign that is found is the numeral's
pub unsigned_word : (word : List ℕ) (number : ℕ) → unsigned_number word ≡ Some number → IsUnsignedWord word number
unfolding unsigned_number
unsigned_word word number is =
    let v = digits_value 10 word in
    let has = cond_some (is_digits word && nat_lt v (2 ^ 64)) v number is in
    let two = and_parts (is_digits word) (nat_lt v (2 ^ 64)) has.0 in
    record { numeral = of_digits word two.0; range = ltb-true _ _ two.1; value = sym has.1 }

-- the numeral's number without a sign is found
pub word_unsigned : (word : List ℕ) (number : ℕ) → IsUnsignedWord word number → unsigned_number word ≡ Some number
unfolding unsigned_number
word_unsigned word number is =
    let v = digits_value 10 word in
    ap (λ (t : Bool). cond t (Some v) None) (and_from (is_digits word) (nat_lt v (2 ^ 64)) (to_digits word is.numeral) (lt-ltb _ _ is.range)) ∙ ap (λ (n : ℕ). Some n) (sym is.value)
