-- The pieces of a text as the scanner sees them: whether a piece goes on depends on the next byte alone. For proofs only.
use Rattle.std.specs.Prelude.{ℕ, ◌≡◌, ◌+◌, ◌<◌, ◌==◌, Bool, true, false, ◌||◌, not, ◌⊎◌, List, [], ◌∷◌, ◌++◌, length, None}
use Rattle.std.proofs.Common.{refl, subst, arith}
use Rattle.std.specs.List.{list_all}
use Rattle.std.specs.Char.{is_ascii_digit}
use Rattle.std.specs.Str.Parse.{signed_digits_value}
use Rattle.mir_base.specs.Limits.{most_name_bytes}
use Rattle.mir_base.specs.Names.{is_name, is_name_byte, is_letter, begins_as_name}
use Rattle.mir_lex.specs.declared.words.Mark.{Mark}
use Rattle.mir_lex.specs.declared.words.Mark.TheVariants.{Minus, Less, Greater, Bang}
use Rattle.mir_lex.specs.declared.words.Kind.{Kind}
use Rattle.mir_lex.specs.declared.words.Kind.TheVariants.{Name as NameKind, Word as WordKind, Number as NumberKind, Mark as MarkKind, LineEnd as LineEndKind}
use Rattle.mir_lex.specs.declared.tokens.Token.{Token}
use Rattle.mir_lex.specs.declared.scan.Pending.{Pending}
use Rattle.mir_lex.specs.declared.scan.Pending.TheVariants.{Idle, Word as PWord, Number as PNumber, Minus as PMinus, Less as PLess, Greater as PGreater, Bang as PBang, Bar, Comment, ArrowFirst, ArrowSecond}
use Rattle.mir_lex.specs.declared.scan.Previous.{Previous}
use Rattle.mir_lex.specs.declared.scan.Previous.TheVariants.{LineEnd as AfterLineEnd, Operand as AfterOperand}
use Rattle.mir_lex.specs.declared.faults.LexFault.{LexFault}
use Rattle.mir_lex.specs.declared.faults.LexFault.TheVariants.{BadByte, BadNumber, LongName, Memory}
use Rattle.mir_lex.specs.Scanner.{single_mark}
use Rattle.mir_base.specs.Words.{word_text}
use Rattle.mir_lex.specs.Spelling.{with_token, IsMark, IsNumeral, IsInRange, with_line_end, is_blank, previous_of, HasNoLineFeed}

-- ---- what may become longer

-- which piece a next byte may make longer
abbrev pub minus_open : Previous → Pending
minus_open AfterOperand = Idle
minus_open previous = PMinus

-- what is pending behind a mark that may become longer
abbrev pub open_of_mark : Previous → Mark → Pending
open_of_mark previous Less = PLess
open_of_mark previous Greater = PGreater
open_of_mark previous Bang = PBang
open_of_mark previous Minus = minus_open previous
open_of_mark previous m = Idle

-- the byte continues what is pending
abbrev pub continues : Pending → ℕ → Bool
continues PWord b = is_name_byte b
continues PNumber b = is_name_byte b
continues PMinus b = is_ascii_digit b
continues PLess b = b == 45 || b == 61
continues PGreater b = b == 61
continues PBang b = b == 61
continues Comment b = not (b == 10)
continues Bar b = b == 124
continues ArrowFirst b = b == 134
continues ArrowSecond b = b == 144
continues Idle b = false

-- the first byte of what follows does not
abbrev pub NotContinued : Pending → List ℕ → Type 0
NotContinued tail [] = Unit {0}
NotContinued tail (b ∷ rest) = continues tail b ≡ false

-- ---- pieces

-- the bytes are a token of this kind, and may go on as the last argument says
abbrev pub IsPieceToken : Previous → List ℕ → Kind → Pending → Type 0
IsPieceToken previous s NameKind tail = (is_name s ≡ true) × (tail ≡ PWord)
IsPieceToken previous s (WordKind w) tail = (s ≡ word_text w) × (tail ≡ PWord)
IsPieceToken previous s (NumberKind z) tail = IsNumeral previous s × IsInRange s × (z ≡ signed_digits_value 10 s) × (tail ≡ PNumber)
IsPieceToken previous s (MarkKind mark) tail = IsMark mark s × (tail ≡ open_of_mark previous mark)
IsPieceToken previous s LineEndKind tail = ⊥

-- the bytes are tokens, blanks, comments and line feeds, with these tokens; the last of them, the line that the next
-- byte is on, and how the last piece may go on
pub data Pieces : List ℕ → List Token → Previous → ℕ → Pending → Type 0 where
  no_piece : Pieces [] [] AfterLineEnd 1 Idle
  token_piece : {prefix : List ℕ} {items : List Token} {previous : Previous} {line : ℕ} {tail : Pending} (s : List ℕ) (kind : Kind) (next : Pending)
      → Pieces prefix items previous line tail → NotContinued tail s → IsPieceToken previous s kind next
      → Pieces (prefix ++ s) (with_token items kind (length prefix) (length s) line) (previous_of kind) line next
  blank_piece : {prefix : List ℕ} {items : List Token} {previous : Previous} {line : ℕ} {tail : Pending} (b : ℕ)
      → Pieces prefix items previous line tail → continues tail b ≡ false → is_blank b ≡ true
      → Pieces (prefix ++ b ∷ []) items previous line Idle
  comment_piece : {prefix : List ℕ} {items : List Token} {previous : Previous} {line : ℕ} {tail : Pending} (body : List ℕ)
      → Pieces prefix items previous line tail → continues tail 124 ≡ false → HasNoLineFeed body
      → Pieces (prefix ++ 124 ∷ 124 ∷ body) items previous line Comment
  feed_piece : {prefix : List ℕ} {items : List Token} {previous : Previous} {line : ℕ} {tail : Pending}
      → Pieces prefix items previous line tail → continues tail 10 ≡ false
      → Pieces (prefix ++ 10 ∷ []) (with_line_end items previous line (length prefix) 1) AfterLineEnd (line + 1) Idle

-- the tokens of a text: one more line end stands at its end (where the text ends with a line feed, it is dropped)
pub record PiecesTokens (text : List ℕ) (items : List Token) : Type 0 where
  pub before : List Token
  pub previous : Previous
  pub line : ℕ
  pub tail : Pending
  pub pieces : Pieces text before previous line tail
  pub items_are : items ≡ with_line_end before previous line (length text) 0

-- ---- refusals

-- a byte that begins no token, blank, comment or line end
abbrev pub ByteBeginsNone : List ℕ → Type 0
ByteBeginsNone [] = ⊥
ByteBeginsNone (b ∷ rest) = ((b ≡ 124) × NotContinued Bar rest)
    ⊎ ((b ≡ 226) × (NotContinued ArrowFirst rest ⊎ ((more : List ℕ) × (rest ≡ 134 ∷ more) × NotContinued ArrowSecond more)))
    ⊎ ((b == 10) ≡ false) × (is_blank b ≡ false) × (is_letter b ≡ false) × (is_ascii_digit b ≡ false) × ((b == 45) ≡ false) × ((b == 60) ≡ false) × ((b == 62) ≡ false)
    × ((b == 33) ≡ false) × ((b == 124) ≡ false) × ((b == 226) ≡ false) × (single_mark b ≡ None)

-- a number's spelling that is too large, or is directly followed by a letter or `_`
pub record PieceBadNumber (previous : Previous) (bytes : List ℕ) : Type 0 where
  pub s : List ℕ
  pub rest : List ℕ
  pub is : bytes ≡ s ++ rest
  pub numeral : IsNumeral previous s
  pub why : ((IsInRange s → ⊥) × NotContinued PNumber rest) ⊎ ((b : ℕ) × (more : List ℕ) × (rest ≡ b ∷ more) × (is_ascii_digit b ≡ false) × (is_name_byte b ≡ true))

-- a name of more bytes than a name may have
pub record PieceLongName (bytes : List ℕ) : Type 0 where
  pub s : List ℕ
  pub rest : List ℕ
  pub is : bytes ≡ s ++ rest
  pub begins : begins_as_name s ≡ true
  pub all : list_all is_name_byte s ≡ true
  pub ends : NotContinued PWord rest
  pub long : most_name_bytes < length s

-- what stands at a place where no token begins
abbrev pub PieceStops : Previous → List ℕ → ℕ → LexFault → Type 0
PieceStops previous rest line (BadByte l) = (l ≡ line) × ByteBeginsNone rest
PieceStops previous rest line (BadNumber l) = (l ≡ line) × PieceBadNumber previous rest
PieceStops previous rest line (LongName l) = (l ≡ line) × PieceLongName rest
PieceStops previous rest line (Memory refused) = ⊥

-- the first place from the left that is no token
pub record PieceRefusal (text : List ℕ) (bad : LexFault) : Type 0 where
  pub prefix : List ℕ
  pub rest : List ℕ
  pub items : List Token
  pub previous : Previous
  pub line : ℕ
  pub tail : Pending
  pub is : text ≡ prefix ++ rest
  pub pieces : Pieces prefix items previous line tail
  pub ends : NotContinued tail rest
  pub stops : PieceStops previous rest line bad

-- ---- lemmas: what the next byte does not continue

-- nothing continues where nothing is open
pub idle_closed : (after : List ℕ) → NotContinued Idle after
idle_closed [] = tt
idle_closed (byte ∷ after) = refl

-- the bytes before more bytes
pub closed_before : (tail : Pending) (bytes more : List ℕ) → NotContinued tail (bytes ++ more) → NotContinued tail bytes
closed_before tail [] more h = tt
closed_before tail (byte ∷ bytes) more h = h

-- at least one byte and more bytes
pub ends_append : (tail : Pending) (s rest : List ℕ) → 0 < length s → NotContinued tail s → NotContinued tail (s ++ rest)
ends_append tail [] rest some h = absurd (omega arith)
ends_append tail (b ∷ s) rest some h = h

-- the first byte of such bytes
pub begins_closed : (tail : Pending) (bytes : List ℕ) (byte : ℕ) (more : List ℕ) → bytes ≡ byte ∷ more → NotContinued tail bytes → continues tail byte ≡ false
begins_closed tail bytes byte more is h = subst (NotContinued tail) is h
