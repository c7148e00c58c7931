-- Which classes of bytes exclude which, and lists of bytes of one class. For proofs only.
use Rattle.std.specs.List.{list_all}
use Rattle.std.specs.Char.{is_ascii_digit}
use Rattle.mir_base.specs.Names.{is_name_byte, is_letter, is_digit}
use Rattle.std.proofs.Common.{◌≡◌, ℕ, ◌==◌, Bool, true, false, ◌||◌, ◌&&◌, List, [], ◌∷◌, ◌++◌, refl, ◌∙◌, ap, arith, nat_eq}
use Rattle.std.proofs.lemmas.Bool.{and_from}
use Rattle.std.proofs.lemmas.List.Folds.{list_all-append}
use Rattle.mir_lex.specs.Spelling.{is_blank}
use Rattle.std.proofs.lemmas.Bool.Decides.{nat_tests}

-- ---- what a byte of one class is not

-- a blank is no line feed
pub blank_feed : (b : ℕ) → is_blank b ≡ true → (b == 10) ≡ false
blank_feed b h = grind (arith, nat_tests)

-- a letter is no line feed
pub letter_feed : (b : ℕ) → is_letter b ≡ true → (b == 10) ≡ false
letter_feed b h = grind (arith, nat_tests)

-- a letter is no blank
pub letter_blank : (b : ℕ) → is_letter b ≡ true → is_blank b ≡ false
letter_blank b h = grind (arith, nat_tests)

-- a digit is no blank
pub digit_blank : (b : ℕ) → is_ascii_digit b ≡ true → is_blank b ≡ false
digit_blank b h = grind (arith, nat_tests)

-- a digit is no letter
pub digit_no_letter : (byte : ℕ) → is_ascii_digit byte ≡ true → is_letter byte ≡ false
digit_no_letter byte h = grind (arith, nat_tests)

-- what may not stand in a name is no digit
pub name_digit : (byte : ℕ) → is_name_byte byte ≡ false → is_ascii_digit byte ≡ false
name_digit byte h = grind (arith, nat_tests)

-- a letter may stand in a name
pub letter_is_name : (byte : ℕ) → is_letter byte ≡ true → is_name_byte byte ≡ true
letter_is_name byte h = grind (arith, nat_tests)

-- a digit is no plus
pub digit_sign : (d : ℕ) → is_ascii_digit d ≡ true → (d == 43) ≡ false
digit_sign d h = grind (arith, nat_tests)

-- a digit is no minus
pub digit_minus : (d : ℕ) → is_ascii_digit d ≡ true → (d == 45) ≡ false
digit_minus d h = grind (arith, nat_tests)

-- a letter alone has the bytes of a name
pub letter_name : (b : ℕ) → is_letter b ≡ true → (is_name_byte b && true) ≡ true
letter_name b h = ap (λ (t : Bool). (t || is_digit b || nat_eq b 95) && true) h

-- ---- lists of bytes that all pass a test

-- one more byte that passes
pub all_push : (test : ℕ → Bool) (bytes : List ℕ) (byte : ℕ) → list_all test bytes ≡ true → test byte ≡ true → list_all test (bytes ++ byte ∷ []) ≡ true
all_push test bytes byte all is = list_all-append test bytes (byte ∷ []) ∙ and_from _ _ all (and_from _ _ is refl)
