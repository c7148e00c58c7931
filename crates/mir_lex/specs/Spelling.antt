-- How a text is spelled: from the left, tokens, blanks, comments and line feeds, each token as long as it can be. Cited
-- by contracts.
use Rattle.std.specs.Prelude.{ℕ, ◌≡◌, ◌≢◌, ◌<◌, ◌==◌, Bool, true, false, ◌||◌, not, ◌⊎◌, List, [], ◌∷◌, ◌++◌, length, codes, IsTrue, FitsSigned}
use Rattle.std.specs.List.{list_all}
use Rattle.std.specs.Str.{all_ascii_digits}
use Rattle.std.specs.Int.{w64}
use Rattle.std.specs.Str.Parse.{signed_digits_value}
use Rattle.mir_base.specs.Limits.{most_name_bytes}
use Rattle.mir_base.specs.Names.{IsName, is_name_byte, begins_as_name}
use Rattle.mir_base.specs.Words.{word_text}
use Rattle.mir_lex.specs.declared.words.Mark.{Mark}
use Rattle.mir_lex.specs.declared.words.Mark.TheVariants.{Colon, Comma, Semicolon, LeftParen, RightParen, Plus, Minus, Star, Slash, Equal, NotEqual, Less, LessEqual, Greater, GreaterEqual, Bang, Arrow}
use Rattle.mir_lex.specs.declared.words.Kind.{Kind}
use Rattle.mir_lex.specs.declared.words.Kind.TheVariants.{Name as NameKind, Word as WordKind, Number as NumberKind, Mark as MarkKind, LineEnd as LineEndKind}
use Rattle.mir_lex.specs.declared.tokens.Token.{Token}
use Rattle.mir_lex.specs.declared.scan.Previous.{Previous}
use Rattle.mir_lex.specs.declared.scan.Previous.TheVariants.{LineEnd as AfterLineEnd, Operand as AfterOperand, Other as AfterOther}
use Rattle.mir_lex.specs.declared.faults.LexFault.{LexFault}
use Rattle.mir_lex.specs.declared.faults.LexFault.TheVariants.{BadByte, BadNumber, LongName, Memory}
use Rattle.mir_lex.specs.Tokens.{line_after}

-- ---- spellings

-- how a mark is spelled
abbrev pub mark_text : Mark → List ℕ
mark_text Colon = codes ":"
mark_text Comma = codes ","
mark_text Semicolon = codes ";"
mark_text LeftParen = codes "("
mark_text RightParen = codes ")"
mark_text Plus = codes "+"
mark_text Minus = codes "-"
mark_text Star = codes "*"
mark_text Slash = codes "/"
mark_text Equal = codes "="
mark_text NotEqual = codes "!="
mark_text Less = codes "<"
mark_text LessEqual = codes "<="
mark_text Greater = codes ">"
mark_text GreaterEqual = codes ">="
mark_text Bang = codes "!"
mark_text Arrow = codes "<-"

-- the bytes are this mark; the arrow is also the character U+2190
abbrev pub IsMark : Mark → List ℕ → Type 0
IsMark Arrow bytes = (bytes ≡ codes "<-") ⊎ (bytes ≡ 226 ∷ 134 ∷ 144 ∷ [])
IsMark mark bytes = bytes ≡ mark_text mark

-- a letter, and then letters, digits and `_`: a name or a reserved word, of any length
abbrev pub IsWord : List ℕ → Type 0
IsWord bytes = (begins_as_name bytes ≡ true) × (list_all is_name_byte bytes ≡ true)

-- decimal digits, at least one
abbrev pub IsDigits : List ℕ → Type 0
IsDigits bytes = (0 < length bytes) × (all_ascii_digits bytes ≡ true)

-- a `-` before digits belongs to the number, unless the token before it on its line is a name or a number
abbrev pub CanBeSigned : Previous → Type 0
CanBeSigned AfterOperand = ⊥
CanBeSigned previous = Unit {0}

-- a number, of any size
abbrev pub IsNumeral : Previous → List ℕ → Type 0
IsNumeral previous bytes =
    IsDigits bytes
    ⊎ ((digits : List ℕ) × (bytes ≡ 45 ∷ digits) × IsDigits digits × CanBeSigned previous)

-- the number is one of 64 bits with a sign
abbrev pub IsInRange : List ℕ → Type 0
IsInRange bytes = FitsSigned w64 (signed_digits_value 10 bytes)

-- spelled as a token is, but for the length of a word and the size of a number
abbrev pub IsSpelled : Previous → List ℕ → Type 0
IsSpelled previous bytes = IsWord bytes ⊎ IsNumeral previous bytes
    ⊎ ((mark : Mark) × IsMark mark bytes)

-- no more of what follows can belong to the token
abbrev pub IsLongest : Previous → List ℕ → List ℕ → Type 0
IsLongest previous bytes after = (more rest : List ℕ) → after ≡ more ++ rest
    → IsSpelled previous (bytes ++ more)
    → more ≡ []

-- ---- tokens

-- the first byte passes the test
abbrev pub BeginsWith : (ℕ → Bool) → List ℕ → Type 0
BeginsWith test [] = ⊥
BeginsWith test (byte ∷ bytes) = IsTrue (test byte)

-- the bytes are a token of this kind; a number is not directly followed by a letter or `_`
abbrev pub IsToken : Previous → List ℕ → List ℕ → Kind → Type 0
IsToken previous bytes after NameKind = IsName bytes
IsToken previous bytes after (WordKind word) = bytes ≡ word_text word
IsToken previous bytes after (NumberKind value) = IsNumeral previous bytes × IsInRange bytes
    × (value ≡ signed_digits_value 10 bytes) × ¬ BeginsWith is_name_byte after
IsToken previous bytes after (MarkKind mark) = IsMark mark bytes
IsToken previous bytes after LineEndKind = ⊥

-- what the next token has to know of this one
abbrev pub previous_of : Kind → Previous
previous_of NameKind = AfterOperand
previous_of (NumberKind value) = AfterOperand
previous_of LineEndKind = AfterLineEnd
previous_of kind = AfterOther

-- the tokens and one more
abbrev pub with_token : List Token → Kind → ℕ → ℕ → ℕ → List Token
with_token items kind start length line =
    items ++ record { kind = kind; start = start; length = length; line = line } ∷ []

-- a line end is no token at the start of a text and behind another line end
abbrev pub with_line_end : List Token → Previous → ℕ → ℕ → ℕ → List Token
with_line_end items AfterLineEnd line start length = items
with_line_end items previous line start length = with_token items LineEndKind start length line

-- ---- texts

-- a space, a tab or a carriage return
abbrev pub is_blank : ℕ → Bool
is_blank byte = byte == 32 || byte == 9 || byte == 13

-- the bytes lie on one line
abbrev pub HasNoLineFeed : List ℕ → Type 0
HasNoLineFeed bytes = list_all (λ byte. not (byte == 10)) bytes ≡ true

-- `||`, and what follows it on its line
abbrev pub comment_text : List ℕ → List ℕ
comment_text body = codes "||" ++ body

-- the line ends here, or the text does
abbrev pub EndsLine : List ℕ → Type 0
EndsLine [] = Unit {0}
EndsLine (byte ∷ bytes) = byte ≡ 10

-- the prefix of the text is spelled from the left by tokens, blanks, comments and line feeds, with these tokens, the
-- last of them as said
pub data Spelled : List ℕ → List ℕ → List Token → Previous → Type 0 where
  start : {text : List ℕ} → Spelled text [] [] AfterLineEnd
  token : {text prefix : List ℕ} {items : List Token} {previous : Previous}
      (bytes after : List ℕ) (kind : Kind)
      → Spelled text prefix items previous → text
      ≡ prefix ++ bytes ++ after → IsToken previous bytes after kind
      → IsLongest previous bytes after
      → Spelled text (prefix ++ bytes)
      (with_token items kind (length prefix) (length bytes) (line_after prefix))
      (previous_of kind)
  blank : {text prefix : List ℕ} {items : List Token} {previous : Previous}
      (byte : ℕ) (after : List ℕ)
      → Spelled text prefix items previous → text ≡ prefix ++ byte ∷ after → IsTrue (is_blank byte)
      → Spelled text (prefix ++ byte ∷ []) items previous
  comment : {text prefix : List ℕ} {items : List Token} {previous : Previous} (body after : List ℕ)
      → Spelled text prefix items previous → text
      ≡ prefix ++ comment_text body ++ after → HasNoLineFeed body
      → EndsLine after
      → Spelled text (prefix ++ comment_text body) items previous
  line_feed : {text prefix : List ℕ} {items : List Token} {previous : Previous} (after : List ℕ)
      → Spelled text prefix items previous → text ≡ prefix ++ 10 ∷ after
      → Spelled text (prefix ++ 10 ∷ [])
      (with_line_end items previous (line_after prefix) (length prefix) 1) AfterLineEnd

-- these are the tokens of the text: one more line end stands behind a last line that has no line feed
pub record IsTokens (text : List ℕ) (items : List Token) : Type 0 where
  pub before : List Token
  pub previous : Previous
  pub spelled : Spelled text text before previous
  pub items_are : items ≡ with_line_end before previous (line_after text) (length text) 0

-- ---- refusals

-- the byte begins no blank, line feed, comment or token
pub record BeginsNone (previous : Previous) (byte : ℕ) (after : List ℕ) : Type 0 where
  pub no_blank : is_blank byte ≡ false
  pub no_line_feed : byte ≢ 10
  pub no_comment : (rest : List ℕ) → byte ∷ after ≡ comment_text rest → ⊥
  pub no_token : (bytes rest : List ℕ) → byte ∷ after ≡ bytes ++ rest → IsSpelled previous bytes → ⊥

-- a number that is out of range, or is directly followed by a letter or `_`, is here
pub record IsBadNumber (previous : Previous) (text : List ℕ) : Type 0 where
  pub bytes : List ℕ
  pub after : List ℕ
  pub split : text ≡ bytes ++ after
  pub numeral : IsNumeral previous bytes
  pub longest : IsLongest previous bytes after
  pub bad : ¬ IsInRange bytes ⊎ BeginsWith is_name_byte after

-- a name of more bytes than a name may have is here
pub record IsLongName (previous : Previous) (text : List ℕ) : Type 0 where
  pub bytes : List ℕ
  pub after : List ℕ
  pub split : text ≡ bytes ++ after
  pub word : IsWord bytes
  pub longest : IsLongest previous bytes after
  pub long : most_name_bytes < length bytes

-- no token stands here, behind this prefix of the text, for this cause
abbrev pub StopsLexing : List ℕ → Previous → List ℕ → LexFault → Type 0
StopsLexing prefix previous after (BadByte line) = (line ≡ line_after prefix)
    × ((byte : ℕ) × (rest : List ℕ) × (after ≡ byte ∷ rest) × BeginsNone previous byte rest)
StopsLexing prefix previous after (BadNumber line) = (line ≡ line_after prefix)
    × IsBadNumber previous after
StopsLexing prefix previous after (LongName line) = (line ≡ line_after prefix)
    × IsLongName previous after
StopsLexing prefix previous after (Memory refused) = ⊥

-- the first place from the left where no token stands
pub record IsRefusal (text : List ℕ) (fault : LexFault) : Type 0 where
  pub prefix : List ℕ
  pub after : List ℕ
  pub items : List Token
  pub previous : Previous
  pub split : text ≡ prefix ++ after
  pub spelled : Spelled text prefix items previous
  pub stops : StopsLexing prefix previous after fault

-- the call ran out of memory
abbrev pub IsLexMemory : LexFault → Type 0
IsLexMemory (Memory refused) = Unit {0}
IsLexMemory fault = ⊥

-- ---- no two answers

-- the text has at most one list of tokens
abbrev pub TokensAreUnique : List ℕ → Type 0
TokensAreUnique text = (one other : List Token) → IsTokens text one → IsTokens text other
    → one ≡ other

-- the text is refused for at most one cause
abbrev pub RefusalIsUnique : List ℕ → Type 0
RefusalIsUnique text = (one other : LexFault) → IsRefusal text one → IsRefusal text other
    → one ≡ other

-- a text that is refused has no tokens
abbrev pub HasNoTokensIfRefused : List ℕ → Type 0
HasNoTokensIfRefused text = (fault : LexFault) → IsRefusal text fault → (items : List Token)
    → IsTokens text items → ⊥
