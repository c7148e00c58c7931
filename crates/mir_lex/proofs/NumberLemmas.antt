-- What std reads as a number, and what the grammar does.
use Rattle.std.proofs.Common.{◌≡◌, ℕ, ℤ, ◌^◌, ◌<◌, ◌==◌, Bool, true, false, cond, List, [], ◌∷◌, drop, length, None, Some, Result, Ok, Err, refl, sym, ◌∙◌, ap, subst, arith, not, ◌&&◌, nat_lt, slice_index, w64, inl, inr}
use Rattle.std.proofs.lemmas.Bool.{cases_Bool, ltb-true, lt-ltb, eqb-true, and_from, and_parts, and_right, not-true}
use Rattle.std.specs.Result.{result_ok}
use Rattle.std.proofs.lemmas.Str.{IsUtf8-from_ascii}
use Rattle.std.proofs.lemmas.Str.Ascii.{IsAscii-nil, IsAscii-cons}
use Rattle.std.specs.Char.{is_ascii_digit}
use Rattle.std.proofs.lemmas.Bool.Decides.{nat_tests}
use Rattle.std.specs.Int.Signed.{mag}
use Rattle.std.specs.Str.{all_ascii_digits, IsAscii, IsUtf8}
use Rattle.std.specs.Str.Parse.{ParsesSigned, ParsesUnsigned, without_leading_sign, without_leading_plus, signed_digits_value, digits_value}
use Rattle.mir_lex.specs.Numbers.{is_digits, without_minus, fits_signed, signed_number, unsigned_number}
use Rattle.mir_lex.specs.Scanner.{is_number, number_of}
use Rattle.mir_base.specs.DecimalLaws.{digits_are_numerals}

-- ---- an optional sign and digits

-- what the scanner tests of a number, as facts
pub record SpellsNumber (bytes : List ℕ) : Type 0 where
  pub plus : (slice_index bytes 0 == 43) ≡ false
  pub some : 0 < length (without_leading_sign bytes)
  pub digits : all_ascii_digits (without_leading_sign bytes) ≡ true
  pub fits : mag (signed_digits_value 10 bytes) < 2 ^ 63

-- the test gives the facts
pub spells : (bytes : List ℕ) → is_number bytes ≡ true → SpellsNumber bytes
spells bytes holds =
    let three = and_parts _ (nat_lt (mag (signed_digits_value 10 bytes)) (2 ^ 63)) holds in
    let two = and_parts _ (all_ascii_digits (without_leading_sign bytes)) three.0 in
    let one = and_parts (not (slice_index bytes 0 == 43)) (nat_lt 0 (length (without_leading_sign bytes))) two.0 in
    record { plus = not-true _ one.0; some = ltb-true _ _ one.1; digits = two.1; fits = ltb-true _ _ three.1 }

-- the facts give the test
is_spelled : (bytes : List ℕ) → SpellsNumber bytes → is_number bytes ≡ true
is_spelled bytes h = and_from _ _ (and_from _ _ (and_from _ _ (ap not h.plus) (lt-ltb _ _ h.some)) h.digits) (lt-ltb _ _ h.fits)

-- what begins with a plus is no number
pub number_plus : (bytes : List ℕ) → (slice_index bytes 0 == 43) ≡ true → None ≡ number_of bytes
unfolding number_of
number_plus bytes plus = elim (cases_Bool (is_number bytes)) [
  | inl holds ↦ absurd (let h = (spells bytes holds).plus in cc)
  | inr fails ↦ sym (ap (λ (b : Bool). cond b (Some (signed_digits_value 10 bytes)) None) fails)
]

-- otherwise the number is what std parses
pub number_read : {E : Type 0} (bytes : List ℕ) (r : Result ℤ E) → (slice_index bytes 0 == 43) ≡ false → ParsesSigned w64 10 bytes r → result_ok r ≡ number_of bytes
unfolding number_of
number_read bytes (Ok z) plus h =
    let v = signed_digits_value 10 bytes in
    let holds : is_number bytes ≡ true = is_spelled bytes (record { plus = plus; some = h.0.0.0; digits = digits_are_numerals.from _ h.0.0.1; fits = h.0.1.sfits }) in
    ap (λ (z : ℤ). Some z) h.1 ∙ sym (ap (λ (b : Bool). cond b (Some v) None) holds)
number_read bytes (Err e) plus h = elim (cases_Bool (is_number bytes)) [
  | inl holds ↦ absurd (let s = spells bytes holds in h ((s.some, digits_are_numerals.to _ s.digits), record { sfits = s.fits }))
  | inr fails ↦ sym (ap (λ (b : Bool). cond b (Some (signed_digits_value 10 bytes)) None) fails)
]

-- digits are ASCII
ascii_digits : (ds : List ℕ) → all_ascii_digits ds ≡ true → IsAscii ds
ascii_digits [] h = IsAscii-nil
ascii_digits (d ∷ ds) h = let parts = and_parts (is_ascii_digit d) _ h in IsAscii-cons d ds (ascii_digit d parts.0) (ascii_digits ds parts.1)
  where
    ascii_digit : (d : ℕ) → is_ascii_digit d ≡ true → d < 128
    ascii_digit d h = grind (arith, nat_tests)

-- a number is ASCII
ascii_number : (bytes : List ℕ) → SpellsNumber bytes → IsAscii bytes
ascii_number [] h = IsAscii-nil
ascii_number (b ∷ bytes) h = elim (cases_Bool (b == 45)) [
  | inl minus ↦ IsAscii-cons b bytes (omega (arith, eqb-true b 45 minus)) (ascii_digits bytes (ap all_ascii_digits (sym (signed true minus)) ∙ h.digits))
  | inr plain ↦ ascii_digits (b ∷ bytes) (ap all_ascii_digits (sym (signed false plain ∙ ap (λ (c : Bool). drop (cond c 1 0) (b ∷ bytes)) h.plus)) ∙ h.digits)
]
  where
    signed : (t : Bool) → (b == 45) ≡ t → without_leading_sign (b ∷ bytes) ≡ cond t bytes (drop (cond (b == 43) 1 0) (b ∷ bytes))
    signed t is = ap (λ (c : Bool). cond c bytes (drop (cond (b == 43) 1 0) (b ∷ bytes))) is

-- what is no UTF-8 is no number
pub no_number_unless_text : (bytes : List ℕ) → (IsUtf8 bytes → ⊥) → None ≡ number_of bytes
unfolding number_of
no_number_unless_text bytes not_text = elim (cases_Bool (is_number bytes)) [
  | inl holds ↦ absurd (not_text (IsUtf8-from_ascii bytes (ascii_number bytes (spells bytes holds))))
  | inr fails ↦ sym (ap (λ (b : Bool). cond b (Some (signed_digits_value 10 bytes)) None) fails)
]

-- ---- digits and range

-- a list that begins with no digit is none of digits
no_digits : (b : ℕ) (bytes : List ℕ) (n : ℕ) → (b == n) ≡ true → is_ascii_digit n ≡ false → is_digits (b ∷ bytes) ≡ false
no_digits b bytes n is none = and_right (nat_lt 0 (length (b ∷ bytes))) _ (ap (λ (d : ℕ). is_ascii_digit d && all_ascii_digits bytes) (eqb-true b n is) ∙ ap (λ (t : Bool). t && all_ascii_digits bytes) none)

-- the scanner's test is that of digits behind a minus, and of the range
same_number_test : (bytes : List ℕ) → is_number bytes ≡ (is_digits (without_minus bytes) && fits_signed (signed_digits_value 10 bytes))
same_number_test [] = refl
same_number_test (b ∷ bytes) = go (b == 45) (b == 43) refl refl
  where
    v : Bool
    v = fits_signed (signed_digits_value 10 (b ∷ bytes))

    left : Bool → Bool → Bool
    left minus plus = let digits = cond minus bytes (drop (cond plus 1 0) (b ∷ bytes)) in not plus && nat_lt 0 (length digits) && all_ascii_digits digits && v

    right : Bool → Bool
    right minus = is_digits (cond minus bytes (b ∷ bytes)) && v

    go : (minus plus : Bool) → (b == 45) ≡ minus → (b == 43) ≡ plus → left (b == 45) (b == 43) ≡ right (b == 45)
    go true true is also = absurd (omega (arith, eqb-true b 45 is, eqb-true b 43 also))
    go true false is also = ap (λ (t : Bool). left t (b == 43)) is ∙ ap (left true) also ∙ sym (ap right is)
    go false true is also =
        ap (λ (t : Bool). left t (b == 43)) is ∙ ap (left false) also
        ∙ sym (ap right is ∙ ap (λ (t : Bool). t && v) (no_digits b bytes 43 also refl))
    go false false is also = ap (λ (t : Bool). left t (b == 43)) is ∙ ap (left false) also ∙ sym (ap right is)

-- the number of the scanner is the one that contracts name
pub signed_is : (bytes : List ℕ) → number_of bytes ≡ signed_number bytes
unfolding number_of signed_number
signed_is bytes = ap (λ (t : Bool). cond t (Some (signed_digits_value 10 bytes)) None) (same_number_test bytes)

-- ---- digits below 2^64

-- what is tested of a number without a sign, as facts
record SpellsUnsigned (bytes : List ℕ) : Type 0 where
  some : 0 < length bytes
  digits : all_ascii_digits bytes ≡ true
  fits : digits_value 10 bytes < 2 ^ 64

-- the test gives the facts
unsigned_spells : (bytes : List ℕ) → (is_digits bytes && nat_lt (digits_value 10 bytes) (2 ^ 64)) ≡ true → SpellsUnsigned bytes
unsigned_spells bytes holds =
    let two = and_parts (is_digits bytes) (nat_lt (digits_value 10 bytes) (2 ^ 64)) holds in
    let one = and_parts (nat_lt 0 (length bytes)) (all_ascii_digits bytes) two.0 in
    record { some = ltb-true _ _ one.0; digits = one.1; fits = ltb-true _ _ two.1 }

-- the facts give the test
unsigned_is_spelled : (bytes : List ℕ) → SpellsUnsigned bytes → (is_digits bytes && nat_lt (digits_value 10 bytes) (2 ^ 64)) ≡ true
unsigned_is_spelled bytes h = and_from _ _ (and_from _ _ (lt-ltb _ _ h.some) h.digits) (lt-ltb _ _ h.fits)

-- what begins with a plus is no such number
pub unsigned_plus : (bytes : List ℕ) → (slice_index bytes 0 == 43) ≡ true → None ≡ unsigned_number bytes
unfolding unsigned_number
unsigned_plus [] plus = refl
unsigned_plus (b ∷ bytes) plus =
    sym (ap (λ (t : Bool). cond (t && nat_lt (digits_value 10 (b ∷ bytes)) (2 ^ 64)) (Some (digits_value 10 (b ∷ bytes))) None) (no_digits b bytes 43 plus refl))

-- without a plus, the digits are all of the bytes
plain : (bytes : List ℕ) → (slice_index bytes 0 == 43) ≡ false → without_leading_plus bytes ≡ bytes
plain bytes is = ap (λ (t : Bool). drop (cond t 1 0) bytes) is

-- otherwise the number is what std parses
pub unsigned_read : {E : Type 0} (bytes : List ℕ) (r : Result ℕ E) → (slice_index bytes 0 == 43) ≡ false → ParsesUnsigned 64 10 bytes r → result_ok r ≡ unsigned_number bytes
unfolding unsigned_number
unsigned_read bytes (Ok n) is h =
    let same = plain bytes is in
    let spelled : SpellsUnsigned bytes = record {
      some = subst (λ (l : List ℕ). 0 < length l) same h.0.0.0;
      digits = ap all_ascii_digits (sym same) ∙ digits_are_numerals.from _ h.0.0.1;
      fits = subst (λ (l : List ℕ). digits_value 10 l < 2 ^ 64) same h.0.1;
    } in
    ap (λ (n : ℕ). Some n) (h.1 ∙ ap (digits_value 10) same) ∙ sym (ap (λ (b : Bool). cond b (Some (digits_value 10 bytes)) None) (unsigned_is_spelled bytes spelled))
unsigned_read bytes (Err e) is h = elim (cases_Bool (is_digits bytes && nat_lt (digits_value 10 bytes) (2 ^ 64))) [
  | inl holds ↦ absurd (let s = unsigned_spells bytes holds in let same = sym (plain bytes is) in
      h ((subst (λ (l : List ℕ). 0 < length l) same s.some, digits_are_numerals.to _ (ap all_ascii_digits (sym same) ∙ s.digits)), subst (λ (l : List ℕ). digits_value 10 l < 2 ^ 64) same s.fits))
  | inr fails ↦ sym (ap (λ (b : Bool). cond b (Some (digits_value 10 bytes)) None) fails)
]

-- what is no UTF-8 is no such number
pub unsigned_text : (bytes : List ℕ) → (IsUtf8 bytes → ⊥) → None ≡ unsigned_number bytes
unfolding unsigned_number
unsigned_text bytes not_text = elim (cases_Bool (is_digits bytes && nat_lt (digits_value 10 bytes) (2 ^ 64))) [
  | inl holds ↦ absurd (not_text (IsUtf8-from_ascii bytes (ascii_digits bytes (unsigned_spells bytes holds).digits)))
  | inr fails ↦ sym (ap (λ (b : Bool). cond b (Some (digits_value 10 bytes)) None) fails)
]
