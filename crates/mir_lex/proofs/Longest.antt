-- A token that is as long as it can be is one whose next byte does not continue it, and the other way round.
use Rattle.std.specs.Char.{is_ascii_digit}
use Rattle.std.specs.Str.{all_ascii_digits}
use Rattle.mir_base.specs.Names.{is_name_byte, is_letter}
use Rattle.mir_lex.specs.declared.words.Mark.{Mark}
use Rattle.mir_lex.specs.declared.words.Mark.TheVariants.{Colon, Comma, Semicolon, LeftParen, RightParen, Plus, Minus, Star, Slash, Equal, NotEqual, Less, LessEqual, Greater, GreaterEqual, Bang, Arrow}
use Rattle.mir_base.specs.declared.words.Word.{Word}
use Rattle.mir_lex.specs.declared.words.Kind.{Kind}
use Rattle.mir_lex.specs.declared.words.Kind.TheVariants.{Name as NameKind, Word as WordKind, Number as NumberKind, Mark as MarkKind, LineEnd as LineEndKind}
use Rattle.mir_lex.specs.declared.scan.Pending.{Pending}
use Rattle.mir_lex.specs.declared.scan.Pending.TheVariants.{Idle, Word as PWord, Number as PNumber, Minus as PMinus, Less as PLess, Greater as PGreater, Bang as PBang}
use Rattle.mir_lex.specs.declared.scan.Previous.{Previous}
use Rattle.mir_lex.specs.declared.scan.Previous.TheVariants.{LineEnd as AfterLineEnd, Operand as AfterOperand, Other as AfterOther}
use Rattle.std.proofs.Common.{◌≡◌, ℕ, ◌==◌, true, false, List, [], ◌∷◌, ◌++◌, refl, sym, ◌∙◌, ap, subst, inl, inr, arith}
use Rattle.std.proofs.lemmas.Bool.{cases_Bool, eqb-true, and_from, or_cases}
use Rattle.mir_base.specs.Words.{word_text}
use Rattle.mir_lex.specs.Spelling.{mark_text, IsMark, IsWord, IsNumeral, IsSpelled, IsLongest, BeginsWith, IsToken}
use Rattle.mir_lex.proofs.Pieces.{IsPieceToken, NotContinued, continues, idle_closed, minus_open, open_of_mark}
use Rattle.mir_base.specs.DecimalLaws.{digit_at, passes_at}
use Rattle.mir_lex.proofs.Classes.{all_push, letter_is_name, name_digit}
use Rattle.mir_lex.proofs.Sound.{begins_snoc, numeral_snoc}
use Rattle.mir_lex.proofs.Marks.{by_spelling, mark_no_name, mark_second, mark_third, numeral_first, numeral_no_letter, opens, spelled_first}
use Rattle.mir_lex.specs.SpellingLaws.{numeral_some}
use Rattle.mir_lex.proofs.KindLemmas.{word_facts}
use Rattle.mir_base.specs.NameLaws.{digit_in_name, name_shape}

-- ---- what the next byte does not continue is as long as it can be

-- what is behind the bytes makes no longer token of them
abbrev pub NoLonger : Previous → List ℕ → Pending → Type 0
NoLonger previous bytes tail = (byte : ℕ) (more : List ℕ) → continues tail byte ≡ false → IsSpelled previous (bytes ++ byte ∷ more) → ⊥

-- what no next byte makes longer, is not made longer by any bytes
longest_by : (previous : Previous) (bytes after : List ℕ) (tail : Pending) → NoLonger previous bytes tail → NotContinued tail after → IsLongest previous bytes after
longest_by previous bytes after tail longer ends [] rest split spelled = refl
longest_by previous bytes after tail longer ends (byte ∷ more) rest split spelled = absurd (longer byte more (subst (NotContinued tail) split ends) spelled)

-- only a byte of a name makes a word longer
word_no_longer : (previous : Previous) (bytes : List ℕ) → IsWord bytes → NoLonger previous bytes PWord
word_no_longer previous [] word byte more ends spelled = let is = word.0 in absurd (cc)
word_no_longer previous (first ∷ bytes) word byte more ends (inl longer) = let is = passes_at is_name_byte (first ∷ bytes) byte more longer.1 in absurd (cc)
word_no_longer previous (first ∷ bytes) word byte more ends (inr (inl numeral)) = let is = word.0 in let no = numeral_no_letter previous first (bytes ++ byte ∷ more) numeral in absurd (cc)
word_no_longer previous (first ∷ bytes) word byte more ends (inr (inr mark)) =
    let is = letter_is_name first word.0 in let no = mark_no_name mark.0 first (bytes ++ byte ∷ more) mark.1 in absurd (cc)

-- each byte behind the first of a numeral is a digit
numeral_at : (previous : Previous) (first : ℕ) (bytes : List ℕ) (byte : ℕ) (more : List ℕ) → IsNumeral previous (first ∷ (bytes ++ byte ∷ more)) → is_ascii_digit byte ≡ true
numeral_at previous first bytes byte more (inl digits) = digit_at (first ∷ bytes) byte more digits.1
numeral_at previous first bytes byte more (inr signed) = digit_at bytes byte more (ap all_ascii_digits (behind signed.0 signed.1) ∙ signed.2.1)
  where
    behind : (digits : List ℕ) → first ∷ (bytes ++ byte ∷ more) ≡ 45 ∷ digits → bytes ++ byte ∷ more ≡ digits
    behind digits is = cc

-- a number with more behind it is no mark
numeral_no_mark : (previous : Previous) (first : ℕ) (bytes : List ℕ) (byte : ℕ) (more : List ℕ) → IsNumeral previous (first ∷ bytes) → (mark : Mark) → IsMark mark (first ∷ (bytes ++ byte ∷ more)) → ⊥
numeral_no_mark previous first bytes byte more numeral mark is = elim (numeral_first previous first bytes numeral) [
  | inl digit ↦ let no = mark_no_name mark first (bytes ++ byte ∷ more) is in let name = digit_in_name first digit in absurd (cc)
  | inr minus ↦ second bytes is minus
]
  where
    second : (bytes : List ℕ) → IsMark mark (first ∷ (bytes ++ byte ∷ more)) → first ≡ 45 → ⊥
    second [] is minus = let opened : opens 45 byte ≡ true = subst (λ first. opens first byte ≡ true) minus (mark_second mark first byte more is) in absurd (cc)
    second (next ∷ bytes) is minus = let opened : opens 45 next ≡ true = subst (λ first. opens first next ≡ true) minus (mark_second mark first next (bytes ++ byte ∷ more) is) in absurd (cc)

-- only a digit makes a number longer
number_no_longer : (previous : Previous) (bytes : List ℕ) → IsNumeral previous bytes → (byte : ℕ) (more : List ℕ) → is_ascii_digit byte ≡ false → IsSpelled previous (bytes ++ byte ∷ more) → ⊥
number_no_longer previous [] numeral byte more ends spelled = absurd (omega (arith, numeral_some previous [] numeral))
number_no_longer previous (first ∷ bytes) numeral byte more ends (inl word) = let is = word.0 in let no = numeral_no_letter previous first bytes numeral in absurd (cc)
number_no_longer previous (first ∷ bytes) numeral byte more ends (inr (inl longer)) = let is = numeral_at previous first bytes byte more longer in absurd (cc)
number_no_longer previous (first ∷ bytes) numeral byte more ends (inr (inr mark)) = numeral_no_mark previous first bytes byte more numeral mark.0 mark.1

-- marks of one, two and three bytes
one_no_longer : (previous : Previous) (first byte : ℕ) (more : List ℕ) → is_letter first ≡ false → is_ascii_digit first ≡ false → (first == 45) ≡ false → opens first byte ≡ false → IsSpelled previous (first ∷ byte ∷ more) → ⊥
one_no_longer previous first byte more letter digit minus closed spelled =
    spelled_first previous first (byte ∷ more) letter digit minus (λ mark is. let opened = mark_second mark first byte more is in absurd (cc)) spelled

-- no token has three bytes or more that begin with a mark of two
two_no_longer : (previous : Previous) (first second byte : ℕ) (more : List ℕ) → is_letter first ≡ false → is_ascii_digit first ≡ false → (first == 45) ≡ false → (first == 226) ≡ false → IsSpelled previous (first ∷ second ∷ byte ∷ more) → ⊥
two_no_longer previous first second byte more letter digit minus arrow spelled =
    spelled_first previous first (second ∷ byte ∷ more) letter digit minus (λ mark is. let third = (mark_third mark first second byte more is).0 in absurd (cc)) spelled

-- none goes on after the three bytes of the arrow
three_no_longer : (previous : Previous) (byte : ℕ) (more : List ℕ) → IsSpelled previous (226 ∷ 134 ∷ 144 ∷ byte ∷ more) → ⊥
three_no_longer previous byte more spelled =
    spelled_first previous 226 (134 ∷ 144 ∷ byte ∷ more) refl refl refl (λ mark is. let rest = (mark_third mark 226 134 144 (byte ∷ more) is).1 in absurd (cc)) spelled

-- a digit makes a minus longer, where it can be a sign
minus_no_longer : (previous : Previous) → NoLonger previous (45 ∷ []) (minus_open previous)
minus_no_longer previous byte more ends (inl word) = let is = word.0 in absurd (cc)
minus_no_longer previous byte more ends (inr (inl (inl digits))) = let is = digits.1 in absurd (cc)
minus_no_longer AfterLineEnd byte more ends (inr (inl (inr signed))) = let is = numeral_at AfterLineEnd 45 [] byte more (inr signed) in absurd (cc)
minus_no_longer AfterOther byte more ends (inr (inl (inr signed))) = let is = numeral_at AfterOther 45 [] byte more (inr signed) in absurd (cc)
minus_no_longer AfterOperand byte more ends (inr (inl (inr signed))) = absurd signed.3
minus_no_longer previous byte more ends (inr (inr mark)) = let opened = mark_second mark.0 45 byte more mark.1 in absurd (cc)

-- by each mark
mark_no_longer : (previous : Previous) (mark : Mark) → NoLonger previous (mark_text mark) (open_of_mark previous mark)
mark_no_longer previous Colon byte more ends spelled = one_no_longer previous 58 byte more refl refl refl refl spelled
mark_no_longer previous Comma byte more ends spelled = one_no_longer previous 44 byte more refl refl refl refl spelled
mark_no_longer previous Semicolon byte more ends spelled = one_no_longer previous 59 byte more refl refl refl refl spelled
mark_no_longer previous LeftParen byte more ends spelled = one_no_longer previous 40 byte more refl refl refl refl spelled
mark_no_longer previous RightParen byte more ends spelled = one_no_longer previous 41 byte more refl refl refl refl spelled
mark_no_longer previous Plus byte more ends spelled = one_no_longer previous 43 byte more refl refl refl refl spelled
mark_no_longer previous Minus byte more ends spelled = minus_no_longer previous byte more ends spelled
mark_no_longer previous Star byte more ends spelled = one_no_longer previous 42 byte more refl refl refl refl spelled
mark_no_longer previous Slash byte more ends spelled = one_no_longer previous 47 byte more refl refl refl refl spelled
mark_no_longer previous Equal byte more ends spelled = one_no_longer previous 61 byte more refl refl refl refl spelled
mark_no_longer previous NotEqual byte more ends spelled = two_no_longer previous 33 61 byte more refl refl refl refl spelled
mark_no_longer previous Less byte more ends spelled = one_no_longer previous 60 byte more refl refl refl ends spelled
mark_no_longer previous LessEqual byte more ends spelled = two_no_longer previous 60 61 byte more refl refl refl refl spelled
mark_no_longer previous Greater byte more ends spelled = one_no_longer previous 62 byte more refl refl refl ends spelled
mark_no_longer previous GreaterEqual byte more ends spelled = two_no_longer previous 62 61 byte more refl refl refl refl spelled
mark_no_longer previous Bang byte more ends spelled = one_no_longer previous 33 byte more refl refl refl ends spelled
mark_no_longer previous Arrow byte more ends spelled = two_no_longer previous 60 45 byte more refl refl refl refl spelled

-- a mark of the scanner is one of the text
mark_longest : (previous : Previous) (bytes after : List ℕ) (mark : Mark) (tail : Pending) → IsPieceToken previous bytes (MarkKind mark) tail → NotContinued tail after → IsMark mark bytes × IsLongest previous bytes after
mark_longest previous bytes after mark tail (is, goes) ends = (
  is,
  by_spelling (λ mark bytes. NotContinued (open_of_mark previous mark) after → IsLongest previous bytes after)
      (λ mark. longest_by previous (mark_text mark) after (open_of_mark previous mark) (mark_no_longer previous mark))
      (longest_by previous (226 ∷ 134 ∷ 144 ∷ []) after Idle (λ byte more ends spelled. three_no_longer previous byte more spelled))
      mark bytes is (subst (λ tail. NotContinued tail after) goes ends),
)

-- a word that the next byte does not continue
pub word_longest : (previous : Previous) (bytes after : List ℕ) → IsWord bytes → NotContinued PWord after → IsLongest previous bytes after
word_longest previous bytes after word ends = longest_by previous bytes after PWord (word_no_longer previous bytes word) ends

-- a number that no digit follows is as long as it can be
pub number_longest : (previous : Previous) (bytes after : List ℕ) → IsNumeral previous bytes → ((byte : ℕ) (rest : List ℕ) → after ≡ byte ∷ rest → is_ascii_digit byte ≡ false) → IsLongest previous bytes after
number_longest previous bytes after numeral ends [] rest split spelled = refl
number_longest previous bytes after numeral ends (byte ∷ more) rest split spelled = absurd (number_no_longer previous bytes numeral byte more (ends byte (more ++ rest) split) spelled)

-- what does not continue a number begins with no byte of a name
not_begun : (after : List ℕ) → NotContinued PNumber after → BeginsWith is_name_byte after → ⊥
not_begun [] ends begun = begun
not_begun (byte ∷ after) ends begun = absurd (cc)

-- and with no digit
no_digit_behind : (after : List ℕ) → NotContinued PNumber after → (byte : ℕ) (rest : List ℕ) → after ≡ byte ∷ rest → is_ascii_digit byte ≡ false
no_digit_behind after ends byte rest is = name_digit byte (subst (NotContinued PNumber) is ends)

-- the spelling of a reserved word is a word
word_text_is : (word : Word) (bytes : List ℕ) → bytes ≡ word_text word → IsWord bytes
word_text_is word bytes is = subst IsWord (sym is) ((word_facts word).begins, (word_facts word).all)

-- a token of the scanner's is one of the text
pub piece_token : (previous : Previous) (bytes after : List ℕ) (kind : Kind) (tail : Pending) → IsPieceToken previous bytes kind tail → NotContinued tail after → IsToken previous bytes after kind × IsLongest previous bytes after
piece_token previous bytes after NameKind tail is ends = (is.0, word_longest previous bytes after (name_shape bytes is.0) (subst (λ tail. NotContinued tail after) is.1 ends))
piece_token previous bytes after (WordKind word) tail is ends = (is.0, word_longest previous bytes after (word_text_is word bytes is.0) (subst (λ tail. NotContinued tail after) is.1 ends))
piece_token previous bytes after (NumberKind value) tail is ends =
    let closed = subst (λ tail. NotContinued tail after) is.3 ends in (
      (is.0, is.1, is.2, not_begun after closed),
      number_longest previous bytes after is.0 (no_digit_behind after closed),
    )
piece_token previous bytes after (MarkKind mark) tail is ends = mark_longest previous bytes after mark tail is ends
piece_token previous bytes after LineEndKind tail is ends = absurd is

-- ---- what is as long as it can be is not continued by the next byte

-- where no byte that continues the piece follows, it is not continued
not_continued : (tail : Pending) (after : List ℕ) → ((byte : ℕ) (rest : List ℕ) → after ≡ byte ∷ rest → continues tail byte ≡ true → ⊥) → NotContinued tail after
not_continued tail [] never = tt
not_continued tail (byte ∷ after) never = elim (cases_Bool (continues tail byte)) [ inl is ↦ absurd (never byte after refl is) | inr is ↦ is ]

-- what is as long as it can be is not spelled with the next byte
longer : (previous : Previous) (bytes after : List ℕ) → IsLongest previous bytes after → (byte : ℕ) (rest : List ℕ) → after ≡ byte ∷ rest → IsSpelled previous (bytes ++ byte ∷ []) → ⊥
longer previous bytes after longest byte rest is spelled = let nothing : byte ∷ [] ≡ [] = longest (byte ∷ []) rest is spelled in absurd (cc)

-- no byte of a name follows a word
pub word_closed : (previous : Previous) (bytes after : List ℕ) → IsWord bytes → IsLongest previous bytes after → NotContinued PWord after
word_closed previous bytes after word longest =
    not_continued PWord after (λ byte rest is name. longer previous bytes after longest byte rest is (inl (begins_snoc bytes byte word.0, all_push is_name_byte bytes byte word.1 name)))

-- no digit is behind a number
pub number_closed : (previous : Previous) (bytes after : List ℕ) → IsNumeral previous bytes → IsLongest previous bytes after → (byte : ℕ) (rest : List ℕ) → after ≡ byte ∷ rest → is_ascii_digit byte ≡ false
number_closed previous bytes after numeral longest byte rest is = elim (cases_Bool (is_ascii_digit byte)) [
  | inl digit ↦ absurd (longer previous bytes after longest byte rest is (inr (inl (numeral_snoc previous bytes byte numeral digit))))
  | inr fails ↦ fails
]

-- what begins with no byte of a name does not continue a number
begun_not : (after : List ℕ) → (BeginsWith is_name_byte after → ⊥) → NotContinued PNumber after
begun_not [] never = tt
begun_not (byte ∷ after) never = elim (cases_Bool (is_name_byte byte)) [ inl is ↦ absurd (never is) | inr is ↦ is ]

-- a mark with one byte more
mark_more : (previous : Previous) (first : ℕ) (after : List ℕ) (tail : Pending) → IsLongest previous (first ∷ []) after → ((byte : ℕ) → continues tail byte ≡ true → IsSpelled previous (first ∷ byte ∷ [])) → NotContinued tail after
mark_more previous first after tail longest more = not_continued tail after (λ byte rest is goes. longer previous (first ∷ []) after longest byte rest is (more byte goes))

-- a first byte and this one are the mark
spelled_two : (previous : Previous) (mark : Mark) (first byte second : ℕ) → first ∷ second ∷ [] ≡ mark_text mark → (byte == second) ≡ true → IsMark mark (mark_text mark) → IsSpelled previous (first ∷ byte ∷ [])
spelled_two previous mark first byte second text is at = inr (inr (mark, subst (IsMark mark) (sym (ap (λ b. first ∷ b ∷ []) (eqb-true byte second is) ∙ text)) at))

-- `<-` and `<=` are spelled
less_more : (previous : Previous) (byte : ℕ) → continues PLess byte ≡ true → IsSpelled previous (60 ∷ byte ∷ [])
less_more previous byte goes = elim (or_cases (byte == 45) (byte == 61) goes) [
  | inl is ↦ spelled_two previous Arrow 60 byte 45 refl is (inl refl)
  | inr is ↦ spelled_two previous LessEqual 60 byte 61 refl is refl
]

-- a minus that is a token is followed by no digit, where it can be a sign
minus_closed : (previous : Previous) (after : List ℕ) → IsLongest previous (45 ∷ []) after → NotContinued (minus_open previous) after
minus_closed AfterOperand after longest = not_continued Idle after (λ byte rest is goes. absurd (cc))
minus_closed AfterLineEnd after longest = mark_more AfterLineEnd 45 after PMinus longest (λ byte goes. inr (inl (inr (byte ∷ [], refl, (omega arith, and_from _ _ goes refl), tt))))
minus_closed AfterOther after longest = mark_more AfterOther 45 after PMinus longest (λ byte goes. inr (inl (inr (byte ∷ [], refl, (omega arith, and_from _ _ goes refl), tt))))

-- by each mark
mark_closed : (previous : Previous) (mark : Mark) (after : List ℕ) → IsLongest previous (mark_text mark) after → NotContinued (open_of_mark previous mark) after
mark_closed previous Less after longest = mark_more previous 60 after PLess longest (less_more previous)
mark_closed previous Greater after longest = mark_more previous 62 after PGreater longest (λ byte goes. spelled_two previous GreaterEqual 62 byte 61 refl goes refl)
mark_closed previous Bang after longest = mark_more previous 33 after PBang longest (λ byte goes. spelled_two previous NotEqual 33 byte 61 refl goes refl)
mark_closed previous Minus after longest = minus_closed previous after longest
mark_closed previous mark after longest = idle_closed after

-- a token as the scanner has it
pub record AsPiece (previous : Previous) (bytes after : List ℕ) (kind : Kind) : Type 0 where
  pub tail : Pending
  pub token : IsPieceToken previous bytes kind tail
  pub closed : NotContinued tail after

-- a mark of the text is one of the scanner
mark_piece : (previous : Previous) (bytes after : List ℕ) (mark : Mark) → IsMark mark bytes → IsLongest previous bytes after → AsPiece previous bytes after (MarkKind mark)
mark_piece previous bytes after mark is longest = record {
  tail = open_of_mark previous mark;
  token = (is, refl);
  closed = by_spelling (λ mark bytes. IsLongest previous bytes after → NotContinued (open_of_mark previous mark) after) (λ mark. mark_closed previous mark after) (λ _. idle_closed after) mark bytes is longest;
}

-- a token of the text is one of the scanner
pub token_piece_is : (previous : Previous) (bytes after : List ℕ) (kind : Kind) → IsToken previous bytes after kind → IsLongest previous bytes after → AsPiece previous bytes after kind
token_piece_is previous bytes after NameKind is longest = record { tail = PWord; token = (is, refl); closed = word_closed previous bytes after (name_shape bytes is) longest }
token_piece_is previous bytes after (WordKind word) is longest = record { tail = PWord; token = (is, refl); closed = word_closed previous bytes after (word_text_is word bytes is) longest }
token_piece_is previous bytes after (NumberKind value) is longest = record { tail = PNumber; token = (is.0, is.1, is.2, refl); closed = begun_not after is.3 }
token_piece_is previous bytes after (MarkKind mark) is longest = mark_piece previous bytes after mark is longest
token_piece_is previous bytes after LineEndKind is longest = absurd is
