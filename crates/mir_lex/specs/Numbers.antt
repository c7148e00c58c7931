-- The numbers that decimal digits spell. Cited by contracts.
use Rattle.std.specs.Prelude.{ℕ, ℤ, ◌≡◌, ◌<◌, ◌^◌, ◌==◌, Bool, ◌&&◌, nat_lt, List, [], ◌∷◌, length, Option, None, Some, if◌then◌else◌}
use Rattle.std.specs.Int.Signed.{mag}
use Rattle.std.specs.Str.{all_ascii_digits}
use Rattle.std.specs.Str.Parse.{digits_value, signed_digits_value}
use Rattle.mir_lex.specs.declared.scan.Previous.TheVariants.{Other as AfterOther}
use Rattle.mir_lex.specs.Spelling.{IsDigits, IsNumeral, IsInRange}

-- one or more decimal digits
abbrev pub is_digits : List ℕ → Bool
is_digits bytes = nat_lt 0 (length bytes) && all_ascii_digits bytes

-- the bytes behind a `-`, where the first is one
abbrev pub without_minus : List ℕ → List ℕ
without_minus [] = []
without_minus (byte ∷ bytes) = if byte == 45 then bytes else (byte ∷ bytes)

-- the number is from -2^63 to 2^63 - 1; the magnitude of -n is n - 1
abbrev pub fits_signed : ℤ → Bool
fits_signed number = nat_lt (mag number) (2 ^ 63)

-- the number of an optional `-` and one or more decimal digits, where it is in the signed 64-bit range
unfoldable pub signed_number : List ℕ → Option ℤ
signed_number bytes =
    if is_digits (without_minus bytes) && fits_signed (signed_digits_value 10 bytes)
    then Some (signed_digits_value 10 bytes) else None

-- the number of one or more decimal digits, where it is below 2^64
unfoldable pub unsigned_number : List ℕ → Option ℕ
unsigned_number bytes =
    if is_digits bytes && nat_lt (digits_value 10 bytes) (2 ^ 64) then Some (digits_value 10 bytes) else None

-- the word is a numeral of the language, with a sign or without, of this number, which is in the signed 64-bit range
pub record IsSignedWord (word : List ℕ) (number : ℤ) : Type 0 where
  pub numeral : IsNumeral AfterOther word
  pub range : IsInRange word
  pub value : number ≡ signed_digits_value 10 word

-- the word is a numeral without a sign of this number, which is below 2^64
pub record IsUnsignedWord (word : List ℕ) (number : ℕ) : Type 0 where
  pub numeral : IsDigits word
  pub range : digits_value 10 word < 2 ^ 64
  pub value : number ≡ digits_value 10 word
