-- Words and numbers: what the scanner finds for their bytes.
use Rattle.std.specs.List.{list_all, list_any}
use Rattle.std.specs.Option.{option_map}
use Rattle.std.specs.Char.{is_ascii_digit}
use Rattle.std.specs.Str.{all_ascii_digits}
use Rattle.std.specs.Str.Parse.{signed_digits_value, without_leading_sign}
use Rattle.std.specs.Int.Signed.{mag}
use Rattle.std.specs.Cmp.Lexicographic.{same_text, pointwise}
use Rattle.mir_base.specs.Names.{is_name, is_name_byte, begins_as_name, is_reserved, reserved_words}
use Rattle.mir_base.specs.declared.words.Word.{Word}
use Rattle.mir_base.specs.declared.words.Word.TheVariants.{Begin}
use Rattle.mir_lex.specs.declared.words.Kind.{Kind}
use Rattle.mir_lex.specs.declared.words.Kind.TheVariants.{Name as NameKind, Word as WordKind}
use Rattle.mir_lex.specs.declared.scan.Pending.TheVariants.{Word as PWord}
use Rattle.mir_lex.specs.declared.scan.Previous.{Previous}
use Rattle.std.proofs.Common.{◌≡◌, ℕ, ℤ, ◌<◌, ◌≤◌, ◌^◌, ◌==◌, Bool, true, false, ◌||◌, ◌&&◌, not, List, [], ◌∷◌, length, drop, map, Option, None, Some, refl, sym, ◌∙◌, ap, subst, inl, inr, if◌then◌else◌, cond, arith, nat_lt, nat_le, nat_eq, slice_index}
use Rattle.std.proofs.lemmas.Bool.{and_right, or_from, lt-ltb, ltb-true, ltb-false, leb-false, and_from, and_parts, cond-false, cond-true, cond_both, false_from_ne_true}
use Rattle.std.proofs.lemmas.Bool.Decides.{nat_tests}
use Rattle.mir_base.specs.Words.{first_word, is_text, reserved_word, word_text, words}
use Rattle.mir_lex.specs.Spelling.{IsDigits, IsNumeral, IsInRange}
use Rattle.mir_lex.specs.Scanner.{is_number, number_of, is_lone_letter, word_kind}
use Rattle.mir_lex.proofs.Pieces.{IsPieceToken}
use Rattle.mir_lex.proofs.Classes.{digit_minus, digit_sign, letter_name}

-- ---- words

-- a word that is found is spelled as these bytes
abbrev pub WordIs : List ℕ → Option Word → Type 0
WordIs s None = Unit {0}
WordIs s (Some w) = s ≡ word_text w

-- a word that is found is spelled so
first_spelled : (s : List ℕ) (table : List Word) → WordIs s (first_word word_text (λ word. word) s table)
first_spelled s [] = tt
first_spelled s (word ∷ table) = cond_both (is_text (word_text word) s) (Some word) _ (WordIs s) (λ h. sym (same_text (word_text word) s (sym h))) (λ h. first_spelled s table)

-- a reserved word that is found is spelled so
pub word_spelled : (s : List ℕ) → WordIs s (reserved_word s)
unfolding reserved_word
word_spelled s = first_spelled s words

-- where no word is found, none of the table is spelled so
none_among : (s : List ℕ) (table : List Word) → first_word word_text (λ word. word) s table ≡ None → list_any (λ text. is_text text s) (map word_text table) ≡ false
none_among s [] h = refl
none_among s (word ∷ table) h = not_tested (is_text (word_text word) s) _ word _ (none_among s table) h
  where
    not_tested : (p r : Bool) (w : Word) (o : Option Word) → (o ≡ None → r ≡ false) → (if p then Some w else o) ≡ None → (p || r) ≡ false
    not_tested true r w o rest h = absurd (cc)
    not_tested false r w o rest h = rest h

-- bytes of which no reserved word is found are none
none_reserved : (s : List ℕ) → reserved_word s ≡ None → is_reserved s ≡ false
unfolding reserved_word is_reserved
none_reserved s h = none_among s words h

-- what is found for a word
abbrev pub KindIs : Previous → List ℕ → Option Kind → Type 0
KindIs previous s None = 64 < length s
KindIs previous s (Some k) = IsPieceToken previous s k PWord

-- what has the bytes of a name, and is none and no reserved word, is too long
too_long : (s : List ℕ) → (begins_as_name s && list_all is_name_byte s && nat_le (length s) 64 && not (is_reserved s)) ≡ false → begins_as_name s ≡ true → list_all is_name_byte s ≡ true → is_reserved s ≡ false → 64 < length s
too_long s h begins all free =
    let short : nat_le (length s) 64 ≡ false = shorter (begins_as_name s) (list_all is_name_byte s) (nat_le (length s) 64) (is_reserved s) h begins all free in
    leb-false (length s) 64 short
  where
    shorter : (a b c d : Bool) → (a && b && c && not d) ≡ false → a ≡ true → b ≡ true → d ≡ false → c ≡ false
    shorter true true true true h p q r = absurd (cc)
    shorter true true true false h p q r = absurd (cc)
    shorter true true false d h p q r = refl
    shorter true false c d h p q r = absurd (cc)
    shorter false b c d h p q r = absurd (cc)

-- what is found for bytes of a name that are none
no_name : (previous : Previous) (s : List ℕ) (o : Option Word) → reserved_word s ≡ o → WordIs s o → is_name s ≡ false → begins_as_name s ≡ true → list_all is_name_byte s ≡ true → KindIs previous s (option_map (λ w. WordKind w) o)
no_name previous s None is word h begins all = too_long s h begins all (none_reserved s is)
no_name previous s (Some w) is word h begins all = (word, refl)

-- what is found for a word is its kind, and nothing is found only where it is too long
pub kind_is : (previous : Previous) (s : List ℕ) → begins_as_name s ≡ true → list_all is_name_byte s ≡ true → KindIs previous s (word_kind s)
unfolding word_kind
kind_is previous s begins all = cond_both (is_name s) (Some NameKind) (option_map (λ w. WordKind w) (reserved_word s)) (KindIs previous s) (λ h. (h, refl)) (λ h. no_name previous s (reserved_word s) refl (word_spelled s) h begins all)

-- ---- the kind of a word, and the value of a number

-- what is known of each reserved word's spelling
pub record WordFacts (w : Word) : Type 0 where
  pub begins : begins_as_name (word_text w) ≡ true
  pub all : list_all is_name_byte (word_text w) ≡ true
  pub kind : word_kind (word_text w) ≡ Some (WordKind w)
  pub short : length (word_text w) ≤ 8

-- by computing with each spelling
pub word_facts : (w : Word) → WordFacts w
unfolding word_kind reserved_word is_reserved
word_facts Begin = record { begins = refl; all = refl; kind = refl; short = omega arith }
word_facts w = record { begins = refl; all = refl; kind = refl; short = omega arith }

-- a name is found to be one
pub name_kind : (s : List ℕ) → is_name s ≡ true → word_kind s ≡ Some NameKind
unfolding word_kind
name_kind s h = cond-true (is_name s) (Some NameKind) (option_map (λ w. WordKind w) (reserved_word s)) h

-- one letter is none of some words of two bytes and more
none_lone : (byte : ℕ) (table : List (List ℕ)) → list_all (λ word. nat_lt 1 (length word)) table ≡ true → list_any (λ word. pointwise nat_eq word (byte ∷ [])) table ≡ false
none_lone byte [] h = refl
none_lone byte ([] ∷ table) h = absurd (cc)
none_lone byte ((first ∷ []) ∷ table) h = absurd (cc)
none_lone byte ((first ∷ second ∷ word) ∷ table) h =
    or_from _ _ (and_right (nat_eq first byte) _ refl) (none_lone byte table (and_parts (nat_lt 1 (length (first ∷ second ∷ word))) (list_all (λ word. nat_lt 1 (length word)) table) h).1)

-- so it is a name
pub lone_kind : (s : List ℕ) → is_lone_letter s ≡ true → Some NameKind ≡ word_kind s
unfolding is_reserved
lone_kind [] h = absurd (cc)
lone_kind (byte ∷ []) h = sym (name_kind (byte ∷ []) (and_from _ _ (and_from _ _ (and_from _ _ h (letter_name byte h)) refl) (ap not (none_lone byte reserved_words refl))))
lone_kind (byte ∷ next ∷ s) h = absurd (cc)

-- no kind is found for a word of more than 64 bytes
pub long_word : (s : List ℕ) → 64 < length s → word_kind s ≡ None
unfolding word_kind
long_word s long = cond-false (is_name s) (Some NameKind) (option_map (λ w. WordKind w) (reserved_word s)) (no_name (begins_as_name s) (list_all is_name_byte s) (not (is_reserved s))) ∙ no_word (reserved_word s) (word_spelled s)
  where
    far : nat_le (length s) 64 ≡ false
    far = grind (arith, nat_tests)

    no_name : (a b d : Bool) → (a && b && nat_le (length s) 64 && d) ≡ false
    no_name true true d = ap (λ (t : Bool). t && d) far
    no_name true false d = refl
    no_name false b d = refl

    no_word : (o : Option Word) → WordIs s o → option_map (λ w. WordKind w) o ≡ None
    no_word None h = refl
    no_word (Some w) h = let facts = word_facts w in absurd (omega (arith, facts.short, ap length h, long))

-- ---- numbers

-- how std reads a number: no plus, and digits behind an optional minus
pub record Shape (s : List ℕ) : Type 0 where
  pub plus : (slice_index s 0 == 43) ≡ false
  pub some : nat_lt 0 (length (without_leading_sign s)) ≡ true
  pub digits : all_ascii_digits (without_leading_sign s) ≡ true

-- digits have no sign in prefix
unsigned : (d : ℕ) (ds : List ℕ) → is_ascii_digit d ≡ true → without_leading_sign (d ∷ ds) ≡ d ∷ ds
unsigned d ds h =
    ap (λ (t : Bool). cond t ds (drop (cond (d == 43) 1 0) (d ∷ ds))) (digit_minus d h) ∙ ap (λ (t : Bool). drop (cond t 1 0) (d ∷ ds)) (digit_sign d h)

-- the test that there is a byte
digits_some : (ds : List ℕ) → 0 < length ds → nat_lt 0 (length ds) ≡ true
digits_some [] h = absurd (omega arith)
digits_some (d ∷ ds) h = grind (arith, nat_tests)

-- digits have this shape
digits_shape : (s : List ℕ) → IsDigits s → Shape s
digits_shape [] h = absurd (omega (arith, h.0))
digits_shape (d ∷ ds) h =
    let first = (and_parts (is_ascii_digit d) (all_ascii_digits ds) h.1).0 in
    record {
      plus = digit_sign d first;
      some = ap (λ (l : List ℕ). nat_lt 0 (length l)) (unsigned d ds first) ∙ digits_some (d ∷ ds) h.0;
      digits = ap all_ascii_digits (unsigned d ds first) ∙ h.1;
    }

-- each numeral has this shape
pub numeral_shape : (previous : Previous) (s : List ℕ) → IsNumeral previous s → Shape s
numeral_shape previous s (inl h) = digits_shape s h
numeral_shape previous s (inr h) = subst Shape (sym h.1) (record { plus = refl; some = digits_some h.0 h.2.0; digits = h.2.1 })

-- a number that is found is the one that is spelled, and none is found only out of range
abbrev pub NumberIs : List ℕ → Option ℤ → Type 0
NumberIs s None = IsInRange s → ⊥
NumberIs s (Some z) = IsInRange s × (z ≡ signed_digits_value 10 s)

-- where the test of the range fails, the number is out of range
too_large : (s : List ℕ) → nat_lt (mag (signed_digits_value 10 s)) (2 ^ 63) ≡ false → IsInRange s → ⊥
too_large s h small = let large = ltb-false (mag (signed_digits_value 10 s)) (2 ^ 63) h in omega (arith, large, small.sfits)

-- of a numeral, the scanner tests nothing but its range
pub number_test : (s : List ℕ) → Shape s → is_number s ≡ nat_lt (mag (signed_digits_value 10 s)) (2 ^ 63)
number_test s h = ap (λ (t : Bool). t && nat_lt (mag (signed_digits_value 10 s)) (2 ^ 63)) (and_from _ _ (and_from _ _ (ap not h.plus) h.some) h.digits)

-- what is found for a numeral
pub number_spelled : (s : List ℕ) → Shape s → NumberIs s (number_of s)
unfolding number_of
number_spelled s h = cond_both (is_number s) (Some (signed_digits_value 10 s)) None (NumberIs s)
    (λ is. (record { sfits = ltb-true _ _ (sym (number_test s h) ∙ is) }, refl)) (λ is. too_large s (sym (number_test s h) ∙ is))

-- a number in range is found
pub small_number : (previous : Previous) (s : List ℕ) → IsNumeral previous s → IsInRange s → number_of s ≡ Some (signed_digits_value 10 s)
unfolding number_of
small_number previous s numeral small = cond-true (is_number s) (Some (signed_digits_value 10 s)) None (number_test s (numeral_shape previous s numeral) ∙ below (mag (signed_digits_value 10 s)) (2 ^ 63) small.sfits)
  where
    below : (a b : ℕ) → a < b → nat_lt a b ≡ true
    below a b h = lt-ltb a b h

-- a number out of range is not found
pub large_number : (previous : Previous) (s : List ℕ) → IsNumeral previous s → (IsInRange s → ⊥) → number_of s ≡ None
unfolding number_of
large_number previous s numeral large = cond-false (is_number s) (Some (signed_digits_value 10 s)) None (number_test s (numeral_shape previous s numeral) ∙ above (mag (signed_digits_value 10 s)) (2 ^ 63) (λ small. large (record { sfits = small })))
  where
    above : (a b : ℕ) → (a < b → ⊥) → nat_lt a b ≡ false
    above a b h = false_from_ne_true (nat_lt a b) (λ e. h (ltb-true a b e))
