-- A token that a blank, a line end or a mark between arguments follows is as long as it can be.
use Rattle.std.proofs.Common.{◌≡◌, ◌≢◌, ℕ, ◌<◌, ◌==◌, Bool, true, false, not, ◌||◌, List, [], ◌∷◌, ◌++◌, length, refl, sym, ap, ◌∙◌, subst, inl, inr, arith}
use Rattle.std.specs.List.{list_all}
use Rattle.std.specs.Char.{is_ascii_digit}
use Rattle.std.specs.Str.{all_ascii_digits}
use Rattle.std.proofs.lemmas.Bool.Decides.{nat_tests}
use Rattle.std.proofs.lemmas.Bool.{and_parts}
use Rattle.mir_base.specs.DecimalLaws.{digit_at, passes_at}
use Rattle.mir_base.specs.Names.{is_letter, is_name_byte}
use Rattle.mir_lex.specs.declared.words.Mark.{Mark}
use Rattle.mir_lex.specs.declared.words.Mark.TheVariants.{Colon, Comma, Semicolon, LeftParen, RightParen, Plus, Minus, Star, Slash, Equal, NotEqual, Less, LessEqual, Greater, GreaterEqual, Bang, Arrow}
use Rattle.mir_lex.specs.declared.scan.Previous.{Previous}
use Rattle.mir_lex.specs.Spelling.{IsMark, IsSpelled, IsLongest, BeginsWith}

-- a blank, a line feed, or one of `( ) , : ;`
abbrev pub is_separator : ℕ → Bool
is_separator byte = byte == 32 || byte == 10 || byte == 40 || byte == 41 || byte == 44 || byte == 58 || byte == 59

-- the byte ends no token
abbrev pub is_plain : ℕ → Bool
is_plain byte = not (is_separator byte)

-- no byte of a name is a separator
name_plain : (byte : ℕ) → is_name_byte byte ≡ true → is_plain byte ≡ true
name_plain byte h = grind (arith, nat_tests)

-- no digit is a separator
digit_plain : (byte : ℕ) → is_ascii_digit byte ≡ true → is_plain byte ≡ true
digit_plain byte h = grind (arith, nat_tests)

-- what equals these bytes has no separator behind its first byte if they have none there
plain_behind : (b c : ℕ) (bs cs : List ℕ) → b ∷ bs ≡ c ∷ cs → list_all is_plain cs ≡ true → list_all is_plain bs ≡ true
plain_behind b c bs cs is h = let same : bs ≡ cs = cc in ap (list_all is_plain) same ∙ h

-- behind its first byte no mark has a separator
mark_plain : (mark : Mark) (b : ℕ) (bs : List ℕ) → IsMark mark (b ∷ bs) → list_all is_plain bs ≡ true
mark_plain Colon b bs is = plain_behind b 58 bs [] is refl
mark_plain Comma b bs is = plain_behind b 44 bs [] is refl
mark_plain Semicolon b bs is = plain_behind b 59 bs [] is refl
mark_plain LeftParen b bs is = plain_behind b 40 bs [] is refl
mark_plain RightParen b bs is = plain_behind b 41 bs [] is refl
mark_plain Plus b bs is = plain_behind b 43 bs [] is refl
mark_plain Minus b bs is = plain_behind b 45 bs [] is refl
mark_plain Star b bs is = plain_behind b 42 bs [] is refl
mark_plain Slash b bs is = plain_behind b 47 bs [] is refl
mark_plain Equal b bs is = plain_behind b 61 bs [] is refl
mark_plain NotEqual b bs is = plain_behind b 33 bs (61 ∷ []) is refl
mark_plain Less b bs is = plain_behind b 60 bs [] is refl
mark_plain LessEqual b bs is = plain_behind b 60 bs (61 ∷ []) is refl
mark_plain Greater b bs is = plain_behind b 62 bs [] is refl
mark_plain GreaterEqual b bs is = plain_behind b 62 bs (61 ∷ []) is refl
mark_plain Bang b bs is = plain_behind b 33 bs [] is refl
mark_plain Arrow b bs (inl is) = plain_behind b 60 bs (45 ∷ []) is refl
mark_plain Arrow b bs (inr is) = plain_behind b 226 bs (134 ∷ 144 ∷ []) is refl

-- what is spelled has no separator behind its first byte
spelled_plain : (previous : Previous) (b : ℕ) (bs : List ℕ) (byte : ℕ) (more : List ℕ) → IsSpelled previous (b ∷ (bs ++ byte ∷ more)) → is_plain byte ≡ true
spelled_plain previous b bs byte more (inl word) = name_plain byte (passes_at is_name_byte (b ∷ bs) byte more word.1)
spelled_plain previous b bs byte more (inr (inl (inl digits))) = digit_plain byte (digit_at (b ∷ bs) byte more digits.1)
spelled_plain previous b bs byte more (inr (inl (inr signed))) =
    let same : bs ++ byte ∷ more ≡ signed.0 = cc (signed.1) in digit_plain byte (digit_at bs byte more (ap all_ascii_digits same ∙ signed.2.1))
spelled_plain previous b bs byte more (inr (inr mark)) = passes_at is_plain bs byte more (mark_plain mark.0 b (bs ++ byte ∷ more) mark.1)

-- a token before a byte that ends it cannot be longer
pub longest_before : (previous : Previous) (bytes after : List ℕ) → 0 < length bytes → BeginsWith is_separator after → IsLongest previous bytes after
longest_before previous bytes after some begins [] rest split spelled = refl
longest_before previous [] after some begins (byte ∷ more) rest split spelled = absurd (omega arith)
longest_before previous (b ∷ bs) [] some begins (byte ∷ more) rest split spelled = absurd begins
longest_before previous (b ∷ bs) (c ∷ after) some begins (byte ∷ more) rest split spelled =
    let same : c ≡ byte = cc in
    let plain = spelled_plain previous b bs byte more spelled in
    let separator : is_separator byte ≡ true = subst (λ (n : ℕ). is_separator n ≡ true) same begins in
    let clash : false ≡ true = ap not (sym separator) ∙ plain in
    absurd (cc)

-- ---- marks that stand alone

-- bytes that equal one single byte have nothing behind the first
alone : (b c : ℕ) (bs : List ℕ) → b ∷ bs ≡ c ∷ [] → bs ≡ []
alone b c bs is = cc

-- bytes with different first bytes are never equal, so whatever is asked of them holds
other : (b c : ℕ) (bs cs : List ℕ) → b ∷ bs ≡ c ∷ cs → b ≢ c → bs ≡ []
other b c bs cs is apart = let same : b ≡ c = cc in absurd (apart same)

-- a byte that no longer mark begins with
pub record StandsAlone (b : ℕ) : Type 0 where
  bang : b ≢ 33
  less : b ≢ 60
  greater : b ≢ 62
  arrow : b ≢ 226
  minus : b ≢ 45
  letter : is_letter b ≡ false
  digit : is_ascii_digit b ≡ false

-- a mark that begins with such a byte is that byte alone
mark_alone : (mark : Mark) (b : ℕ) (bs : List ℕ) → StandsAlone b → IsMark mark (b ∷ bs) → bs ≡ []
mark_alone Colon b bs apart is = alone b 58 bs is
mark_alone Comma b bs apart is = alone b 44 bs is
mark_alone Semicolon b bs apart is = alone b 59 bs is
mark_alone LeftParen b bs apart is = alone b 40 bs is
mark_alone RightParen b bs apart is = alone b 41 bs is
mark_alone Plus b bs apart is = alone b 43 bs is
mark_alone Minus b bs apart is = alone b 45 bs is
mark_alone Star b bs apart is = alone b 42 bs is
mark_alone Slash b bs apart is = alone b 47 bs is
mark_alone Equal b bs apart is = alone b 61 bs is
mark_alone NotEqual b bs apart is = other b 33 bs (61 ∷ []) is apart.bang
mark_alone Less b bs apart is = alone b 60 bs is
mark_alone LessEqual b bs apart is = other b 60 bs (61 ∷ []) is apart.less
mark_alone Greater b bs apart is = alone b 62 bs is
mark_alone GreaterEqual b bs apart is = other b 62 bs (61 ∷ []) is apart.greater
mark_alone Bang b bs apart is = alone b 33 bs is
mark_alone Arrow b bs apart (inl is) = other b 60 bs (45 ∷ []) is apart.less
mark_alone Arrow b bs apart (inr is) = other b 226 bs (134 ∷ 144 ∷ []) is apart.arrow

-- and so is every token that begins with such a byte
spelled_alone : (previous : Previous) (b : ℕ) (bs : List ℕ) → StandsAlone b → IsSpelled previous (b ∷ bs) → bs ≡ []
spelled_alone previous b bs apart (inl word) = let a = apart.letter in let h = word.0 in absurd (cc)
spelled_alone previous b bs apart (inr (inl (inl digits))) = let a = apart.digit in let h = (and_parts (is_ascii_digit b) (all_ascii_digits bs) digits.1).0 in absurd (cc)
spelled_alone previous b bs apart (inr (inl (inr signed))) = other b 45 bs signed.0 signed.1 apart.minus
spelled_alone previous b bs apart (inr (inr mark)) = mark_alone mark.0 b bs apart mark.1

-- a byte that no longer mark begins with is a token of its own
pub longest_alone : (previous : Previous) (b : ℕ) (after : List ℕ) → StandsAlone b → IsLongest previous (b ∷ []) after
longest_alone previous b after apart more rest split spelled = spelled_alone previous b more apart spelled

-- the three such marks: `(`
pub left_alone : StandsAlone 40
left_alone = record { bang = omega arith; less = omega arith; greater = omega arith; arrow = omega arith; minus = omega arith; letter = refl; digit = refl }

-- `,`
pub comma_alone : StandsAlone 44
comma_alone = record { bang = omega arith; less = omega arith; greater = omega arith; arrow = omega arith; minus = omega arith; letter = refl; digit = refl }

-- `;`
pub semicolon_alone : StandsAlone 59
semicolon_alone = record { bang = omega arith; less = omega arith; greater = omega arith; arrow = omega arith; minus = omega arith; letter = refl; digit = refl }
