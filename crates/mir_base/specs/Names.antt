-- How a name is spelled: an ASCII letter and then ASCII letters, digits and `_`, at most 64 bytes, and no reserved
-- word. Cited by contracts.
use Rattle.std.specs.Prelude.{ℕ, Bool, false, ◌&&◌, ◌||◌, not, nat_le, nat_eq, List, [], ◌∷◌, ◌++◌, ◌+◌, length, map, decimal, IsTrue}
use Rattle.std.specs.List.{list_all, list_any}
use Rattle.mir_base.specs.Limits.{most_name_bytes}
use Rattle.mir_base.specs.Words.{is_text, word_text, words}

-- an ASCII letter
abbrev pub is_letter : ℕ → Bool
is_letter byte = (nat_le 65 byte && nat_le byte 90) || (nat_le 97 byte && nat_le byte 122)

-- an ASCII digit
abbrev pub is_digit : ℕ → Bool
is_digit byte = nat_le 48 byte && nat_le byte 57

-- a letter, a digit or `_`
abbrev pub is_name_byte : ℕ → Bool
is_name_byte byte = is_letter byte || is_digit byte || nat_eq byte 95

-- the texts that no name is
abbrev pub reserved_words : List (List ℕ)
reserved_words = map word_text words

-- the bytes are a reserved word
unfoldable pub is_reserved : List ℕ → Bool
is_reserved bytes = list_any (λ word. is_text word bytes) reserved_words

-- the first byte is a letter
abbrev pub begins_as_name : List ℕ → Bool
begins_as_name [] = false
begins_as_name (byte ∷ bytes) = is_letter byte

-- the bytes are spelled as a name
abbrev pub is_name : List ℕ → Bool
is_name bytes =
    begins_as_name bytes && list_all is_name_byte bytes && nat_le (length bytes) most_name_bytes
    && not
    (is_reserved bytes)

-- the same, as a fact
abbrev pub IsName : List ℕ → Type 0
IsName bytes = IsTrue (is_name bytes)

-- these bytes with a number in decimal behind them
abbrev pub numbered_name : List ℕ → ℕ → List ℕ
numbered_name front number = front ++ decimal number

-- a name can begin with the bytes, and has room for the 20 digits that a number of 64 bits has at most
abbrev pub CanBeNumbered : List ℕ → Type 0
CanBeNumbered front =
    IsTrue (begins_as_name front && list_all is_name_byte front
    && nat_le (length front + 20) most_name_bytes)
