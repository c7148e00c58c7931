-- The bytes of a name, and names that end in a number. For proofs only.
use Rattle.std.proofs.Common.{◌≡◌, ◌+◌, ◌<◌, ◌^◌, ℕ, Bool, true, false, not, ◌||◌, ◌&&◌, nat_eq, nat_le, List, [], ◌∷◌, ◌++◌, length, length-append, decimal, refl, sym, ap, ◌∙◌, subst, arith}
use Rattle.std.specs.List.{list_all, list_any}
use Rattle.std.specs.Char.{is_ascii_digit}
use Rattle.std.specs.Str.{all_ascii_digits}
use Rattle.std.specs.Cmp.Derive.{both_true}
use Rattle.std.specs.Cmp.Lexicographic.{pointwise, same_text}
use Rattle.std.proofs.lemmas.Bool.{and_parts}
use Rattle.std.proofs.lemmas.Bool.Decides.{nat_tests}
use Rattle.std.proofs.lemmas.List.Folds.{list_all-append}
use Rattle.std.proofs.lemmas.Fmt.{decimal_nonempty}
use Rattle.mir_base.specs.DecimalLaws.{decimal_all_digits, decimal_is_short}
use Rattle.mir_base.specs.Names.{is_name_byte, begins_as_name, is_name, is_reserved, reserved_words, numbered_name, CanBeNumbered, IsName}

-- the bytes of a name begin with a letter, and are bytes of names
pub name_shape : (bytes : List ℕ) → is_name bytes ≡ true → (begins_as_name bytes ≡ true) × (list_all is_name_byte bytes ≡ true)
name_shape bytes h =
    let three = and_parts _ (not (is_reserved bytes)) h in
    let two = and_parts _ (nat_le (length bytes) 64) three.0 in and_parts (begins_as_name bytes) (list_all is_name_byte bytes) two.0

-- a text that begins as a name is not empty
pub begins_some : (bytes : List ℕ) → begins_as_name bytes ≡ true → 0 < length bytes
begins_some [] h = absurd (cc)
begins_some (byte ∷ bytes) h = omega arith

-- ---- names that end in a number

-- a digit may stand in a name
pub digit_in_name : (b : ℕ) → is_ascii_digit b ≡ true → is_name_byte b ≡ true
digit_in_name b h = grind (arith, nat_tests)

-- so may digits
pub digits_in_name : (ds : List ℕ) → all_ascii_digits ds ≡ true → list_all is_name_byte ds ≡ true
digits_in_name [] h = refl
digits_in_name (d ∷ ds) h =
    let parts = and_parts (is_ascii_digit d) (all_ascii_digits ds) h in
    both_true (digit_in_name d parts.0) (digits_in_name ds parts.1)

-- no reserved word has a digit: what is among words without digits has none

-- a word that equals one with no digit has no digit
among_words : (words : List (List ℕ)) (bytes : List ℕ)
    → list_all (λ word. not (list_any is_ascii_digit word)) words ≡ true
    → list_any (λ word. pointwise nat_eq word bytes) words ≡ true → not (list_any is_ascii_digit bytes) ≡ true
among_words [] bytes none h = cc
among_words (word ∷ words) bytes none h = by (pointwise nat_eq word bytes) refl (among_words words bytes parts.1) h
  where
    parts : (not (list_any is_ascii_digit word) ≡ true) × (list_all (λ w. not (list_any is_ascii_digit w)) words ≡ true)
    parts = and_parts (not (list_any is_ascii_digit word)) (list_all (λ w. not (list_any is_ascii_digit w)) words) none

    by : (b : Bool) → pointwise nat_eq word bytes ≡ b
        → (list_any (λ w. pointwise nat_eq w bytes) words ≡ true → not (list_any is_ascii_digit bytes) ≡ true)
        → b || list_any (λ w. pointwise nat_eq w bytes) words ≡ true → not (list_any is_ascii_digit bytes) ≡ true
    by true is ih later = subst (λ l. not (list_any is_ascii_digit l) ≡ true) (same_text word bytes (sym is)) parts.0
    by false is ih later = ih later

-- a text that ends in one or more digits has a digit
ends_in_digit : (front ds : List ℕ) → 0 < length ds → all_ascii_digits ds ≡ true → list_any is_ascii_digit (front ++ ds) ≡ true
ends_in_digit [] [] some h = absurd (omega (arith, some))
ends_in_digit [] (d ∷ ds) some h = ap (λ b. b || list_any is_ascii_digit ds) (and_parts (is_ascii_digit d) (all_ascii_digits ds) h).0
ends_in_digit (x ∷ front) ds some h = by (is_ascii_digit x) (ends_in_digit front ds some h)
  where
    by : (b : Bool) → list_any is_ascii_digit (front ++ ds) ≡ true → b || list_any is_ascii_digit (front ++ ds) ≡ true
    by true e = refl
    by false e = e

-- no text both has a digit and has none
has_or_has_none : (b : Bool) → b ≡ true → not b ≡ true → ⊥
has_or_has_none b has none = let both : false ≡ true = ap not (sym has) ∙ none in cc

-- no reserved word has a digit, so a text that ends in one is not reserved
ends_unreserved : (front ds : List ℕ) → 0 < length ds → all_ascii_digits ds ≡ true → is_reserved (front ++ ds) ≡ false
unfolding is_reserved
ends_unreserved front ds some h = by (list_any (λ word. pointwise nat_eq word (front ++ ds)) reserved_words) refl
  where
    by : (b : Bool) → list_any (λ word. pointwise nat_eq word (front ++ ds)) reserved_words ≡ b → b ≡ false
    by true is = absurd (has_or_has_none (list_any is_ascii_digit (front ++ ds)) (ends_in_digit front ds some h) (among_words reserved_words (front ++ ds) refl is))
    by false is = refl

-- a name begins with its first byte, whatever is added at its end
begins_still : (front ds : List ℕ) → begins_as_name front ≡ true → begins_as_name (front ++ ds) ≡ true
begins_still [] ds h = cc
begins_still (x ∷ front) ds h = h

-- a text of name bytes that begins as a name, with a number behind it, is a name, where there is room for the digits
pub numbered_is_name : (front : List ℕ) (n : ℕ) → CanBeNumbered front → n < 2 ^ 64 → IsName (numbered_name front n)
numbered_is_name front n can low =
    let ds = decimal n in
    let fits = and_parts (begins_as_name front && list_all is_name_byte front) (nat_le (length front + 20) 64) can in
    let shape = and_parts (begins_as_name front) (list_all is_name_byte front) fits.0 in
    let room = fits.1 in
    let all_digits = decimal_all_digits n low in
    let name_bytes : list_all is_name_byte (front ++ ds) ≡ true = list_all-append is_name_byte front ds ∙ both_true shape.1 (digits_in_name ds all_digits) in
    let short : nat_le (length (front ++ ds)) 64 ≡ true = (let long = length-append front ds in let few = decimal_is_short n low in grind (arith, nat_tests)) in
    both_true (both_true (both_true (begins_still front ds shape.0) name_bytes) short) (ap not (ends_unreserved front ds (decimal_nonempty n low) all_digits))
