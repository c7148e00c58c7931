-- A spelled number is not empty, names and numbers lie on one line, and on which line stands what follows. For proofs
-- only, of this crate and of the canonical text.
use Rattle.std.specs.Char.{is_ascii_digit}
use Rattle.std.specs.List.{list_all}
use Rattle.std.proofs.Common.{◌≡◌, ℕ, ◌+◌, ◌<◌, ◌==◌, Bool, true, false, not, List, [], ◌∷◌, ◌++◌, length, refl, sym, ◌∙◌, ap, subst, inl, inr, arith, if◌then◌else◌}
use Rattle.std.proofs.lemmas.Bool.{and_from, and_parts, not-true}
use Rattle.std.proofs.lemmas.Bool.Decides.{nat_tests}
use Rattle.std.proofs.lemmas.List.Sums.{sum_by-append}
use Rattle.mir_base.specs.DecimalLaws.{digits_all}
use Rattle.mir_base.specs.Names.{is_name_byte}
use Rattle.mir_lex.specs.declared.scan.Previous.{Previous}
use Rattle.mir_lex.specs.Spelling.{HasNoLineFeed, IsNumeral}
use Rattle.mir_lex.specs.Tokens.{line_after, line_feeds}

-- a number has a digit, with a sign before it or without
pub numeral_some : (previous : Previous) (bytes : List ℕ) → IsNumeral previous bytes → 0 < length bytes
numeral_some previous bytes (inl digits) = digits.0
numeral_some previous bytes (inr signed) = omega (arith, ap length signed.1)

-- ---- what lies on one line

-- a digit is no line feed
pub digit_feed : (byte : ℕ) → is_ascii_digit byte ≡ true → (byte == 10) ≡ false
digit_feed byte h = grind (arith, nat_tests)

-- nor is a byte of a name
pub name_feed : (byte : ℕ) → is_name_byte byte ≡ true → (byte == 10) ≡ false
name_feed byte h = grind (arith, nat_tests)

-- bytes that pass a test which a line feed fails lie on one line
pub all_no_feed : (test : ℕ → Bool) → ((byte : ℕ) → test byte ≡ true → (byte == 10) ≡ false) → (bytes : List ℕ)
    → list_all test bytes ≡ true → HasNoLineFeed bytes
all_no_feed test feed [] h = refl
all_no_feed test feed (byte ∷ bytes) h = let parts = and_parts (test byte) (list_all test bytes) h in and_from _ _ (ap not (feed byte parts.0)) (all_no_feed test feed bytes parts.1)

-- a number lies on one line
pub numeral_no_feed : (previous : Previous) (bytes : List ℕ) → IsNumeral previous bytes → HasNoLineFeed bytes
numeral_no_feed previous bytes (inl h) = all_no_feed is_ascii_digit digit_feed bytes (sym (digits_all bytes) ∙ h.1)
numeral_no_feed previous bytes (inr h) = subst HasNoLineFeed (sym h.1) (all_no_feed is_ascii_digit digit_feed h.0 (sym (digits_all h.0) ∙ h.2.1))

-- ---- on which line stands what follows

-- bytes of one line have no line feed
no_feeds : (bytes : List ℕ) → HasNoLineFeed bytes → line_feeds bytes ≡ 0
no_feeds [] h = refl
no_feeds (byte ∷ bytes) h =
    let parts = and_parts (not (byte == 10)) (list_all (λ byte. not (byte == 10)) bytes) h in
    let here : 0 + (if byte == 10 then 1 else 0) ≡ 0 = ap (λ (t : Bool). 0 + (if t then 1 else 0)) (not-true (byte == 10) parts.0) in
    let sum : line_feeds (byte ∷ bytes) ≡ (0 + (if byte == 10 then 1 else 0)) + line_feeds bytes = sum_by-append (λ byte. if byte == 10 then 1 else 0) (byte ∷ []) bytes in
    omega (arith, sum, here, no_feeds bytes parts.1)

-- what has no line feed leaves the line as it is
pub line_stays : (prefix bytes : List ℕ) → HasNoLineFeed bytes → line_after (prefix ++ bytes) ≡ line_after prefix
line_stays prefix bytes h =
    let sum : line_feeds (prefix ++ bytes) ≡ line_feeds prefix + line_feeds bytes = sum_by-append (λ byte. if byte == 10 then 1 else 0) prefix bytes in
    omega (arith, sum, no_feeds bytes h)

-- a line feed begins the next line
pub line_begins : (prefix : List ℕ) → line_after (prefix ++ 10 ∷ []) ≡ line_after prefix + 1
line_begins prefix =
    let sum : line_feeds (prefix ++ 10 ∷ []) ≡ line_feeds prefix + 1 = sum_by-append (λ byte. if byte == 10 then 1 else 0) prefix (10 ∷ []) in
    omega (arith, sum)
