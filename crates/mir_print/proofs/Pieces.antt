-- Lines as pieces, which are tokens and blanks: what their tokens are.
use Rattle.std.proofs.Common.{◌≡◌, ◌≢◌, ℕ, ◌+◌, ◌<◌, true, false, List, [], ◌∷◌, ◌++◌, length, map, take, drop, codes, FitsSigned, w64, refl, sym, ap, ◌∙◌, subst, inl, append_assoc, arith}
use Rattle.std.specs.Fmt.{signed_decimal}
use Rattle.std.proofs.lemmas.Bool.Decides.{nat_tests}
use Rattle.std.proofs.lemmas.List.{append-nil, map_push, take_at, drop_at}
use Rattle.mir_base.specs.NameLaws.{name_shape, begins_some}
use Rattle.mir_base.specs.Names.{is_name_byte, IsName}
use Rattle.mir_base.specs.declared.words.Word.{Word}
use Rattle.mir_base.specs.declared.words.Word.TheVariants.{Begin}
use Rattle.mir_lex.specs.declared.words.Mark.{Mark}
use Rattle.mir_lex.specs.declared.words.Mark.TheVariants.{Colon, Comma, Semicolon, LeftParen, Arrow}
use Rattle.mir_lex.specs.declared.words.Kind.{Kind}
use Rattle.mir_lex.specs.declared.words.Kind.TheVariants.{Name as NameKind, Word as WordKind, Number as NumberKind, Mark as MarkKind, LineEnd as LineEndKind}
use Rattle.mir_lex.specs.declared.tokens.Token.{Token}
use Rattle.mir_lex.specs.declared.terminals.Symbol.{Symbol}
use Rattle.mir_lex.specs.declared.terminals.Symbol.TheVariants.{Name as NAME, Word as WORD, Number as NUMBER, Mark as MARK, LineEnd as NL}
use Rattle.mir_lex.specs.declared.terminals.Terminal.{Terminal}
use Rattle.mir_lex.specs.declared.scan.Previous.{Previous}
use Rattle.mir_lex.specs.declared.scan.Previous.TheVariants.{LineEnd as AfterLineEnd, Operand as AfterOperand, Other as AfterOther}
use Rattle.mir_lex.specs.Tokens.{line_after}
use Rattle.mir_lex.specs.Terminals.{symbol_of, terminal_of, terminals}
use Rattle.mir_base.specs.Words.{word_text}
use Rattle.mir_lex.specs.Spelling.{HasNoLineFeed, mark_text, IsMark, CanBeSigned, IsLongest, BeginsWith, IsToken, previous_of, with_line_end, Spelled, start as spelled_start, token as spelled_token, blank as spelled_blank, line_feed as spelled_line_feed}
use Rattle.mir_lex.specs.SpellingLaws.{all_no_feed, line_begins, line_stays, name_feed, numeral_no_feed, numeral_some}
use Rattle.mir_print.proofs.Numerals.{signed_numeral, signed_value}
use Rattle.mir_print.proofs.Ends.{is_separator, longest_before, longest_alone, left_alone, comma_alone, semicolon_alone}

-- a piece of a line: a blank, or a token that is no line end
pub data Piece : Type 0 where
  Blank : Piece
  Shown : (symbol : Symbol) → Piece

-- how a symbol is spelled
abbrev pub symbol_text : Symbol → List ℕ
symbol_text (NAME x) = x
symbol_text (WORD word) = word_text word
symbol_text (NUMBER z) = signed_decimal z
symbol_text (MARK mark) = mark_text mark
symbol_text NL = codes "\n"

-- the text of the pieces
abbrev pub pieces_text : List Piece → List ℕ
pieces_text [] = []
pieces_text (Blank ∷ pieces) = 32 ∷ pieces_text pieces
pieces_text (Shown symbol ∷ pieces) = symbol_text symbol ++ pieces_text pieces

-- their symbols
abbrev pub symbols_of : List Piece → List Symbol
symbols_of [] = []
symbols_of (Blank ∷ pieces) = symbols_of pieces
symbols_of (Shown symbol ∷ pieces) = symbol ∷ symbols_of pieces

-- the kind of token that a symbol is
abbrev pub kind_of : Symbol → Kind
kind_of (NAME x) = NameKind
kind_of (WORD word) = WordKind word
kind_of (NUMBER z) = NumberKind z
kind_of (MARK mark) = MarkKind mark
kind_of NL = LineEndKind

-- what a symbol is to the token behind it
abbrev pub previous_after : Symbol → Previous
previous_after symbol = previous_of (kind_of symbol)

-- the token before what follows these pieces
abbrev pub last_of : Previous → List Piece → Previous
last_of previous [] = previous
last_of previous (Blank ∷ pieces) = last_of previous pieces
last_of previous (Shown symbol ∷ pieces) = last_of (previous_after symbol) pieces

-- the symbol can be read behind such a token
abbrev pub Fits : Previous → Symbol → Type 0
Fits previous (NAME x) = IsName x
Fits previous (WORD word) = Unit {0}
Fits previous (NUMBER z) = FitsSigned w64 z × CanBeSigned previous
Fits previous (MARK mark) = Unit {0}
Fits previous NL = ⊥

-- what follows a symbol cannot make it longer
abbrev pub EndsSymbol : Symbol → List ℕ → Type 0
EndsSymbol (MARK LeftParen) after = Unit {0}
EndsSymbol (MARK Comma) after = Unit {0}
EndsSymbol (MARK Semicolon) after = Unit {0}
EndsSymbol symbol after = BeginsWith is_separator after

-- the pieces are read as they stand, behind such a token and before these bytes
abbrev pub AreSpaced : Previous → List Piece → List ℕ → Type 0
AreSpaced previous [] after = Unit {0}
AreSpaced previous (Blank ∷ pieces) after = AreSpaced previous pieces after
AreSpaced previous (Shown symbol ∷ pieces) after = Fits previous symbol × EndsSymbol symbol (pieces_text pieces ++ after) × AreSpaced (previous_after symbol) pieces after

-- these symbols as tokens of one line
abbrev pub on_line : ℕ → List Symbol → List Terminal
on_line line symbols = map (λ symbol. record { symbol = symbol; line = line }) symbols

-- ---- tokens

-- the text of a mark is read as that mark
mark_is : (mark : Mark) → IsMark mark (mark_text mark)
mark_is Arrow = inl refl
mark_is mark = refl

-- no separator is a byte of a name
separator_no_name : (after : List ℕ) → BeginsWith is_separator after → BeginsWith is_name_byte after → ⊥
separator_no_name [] begins name = begins
separator_no_name (b ∷ after) begins name = let no_name : is_name_byte b ≡ false = plain b begins in absurd (cc)
  where
    plain : (b : ℕ) → is_separator b ≡ true → is_name_byte b ≡ false
    plain b h = grind (arith, nat_tests)

-- the text of each symbol is a token of its kind, behind a token that it fits
token_is : (previous : Previous) (symbol : Symbol) (after : List ℕ) → Fits previous symbol → EndsSymbol symbol after → IsToken previous (symbol_text symbol) after (kind_of symbol)
token_is previous (NAME x) after fits ends = fits
token_is previous (WORD word) after fits ends = refl
token_is previous (NUMBER z) after fits ends = (signed_numeral previous z fits.0 fits.1, subst (FitsSigned w64) (sym (signed_value z fits.0)) fits.0, sym (signed_value z fits.0), separator_no_name after ends)
token_is previous (MARK mark) after fits ends = mark_is mark
token_is previous NL after fits ends = absurd fits

-- no mark is longer with a byte that may follow it
printed_mark_longest : (previous : Previous) (mark : Mark) (after : List ℕ) → EndsSymbol (MARK mark) after → IsLongest previous (mark_text mark) after
printed_mark_longest previous Comma after ends = longest_alone previous 44 after comma_alone
printed_mark_longest previous Semicolon after ends = longest_alone previous 59 after semicolon_alone
printed_mark_longest previous LeftParen after ends = longest_alone previous 40 after left_alone
printed_mark_longest previous mark after ends = longest_before previous (mark_text mark) after (omega arith) ends

-- a reserved word has at least one byte
word_some : (word : Word) → 0 < length (word_text word)
word_some Begin = omega arith
word_some word = omega arith

-- no symbol is longer with the bytes that may follow it
is_longest : (previous : Previous) (symbol : Symbol) (after : List ℕ) → Fits previous symbol → EndsSymbol symbol after → IsLongest previous (symbol_text symbol) after
is_longest previous (NAME x) after fits ends = longest_before previous x after (begins_some x (name_shape x fits).0) ends
is_longest previous (WORD word) after fits ends = longest_before previous (word_text word) after (word_some word) ends
is_longest previous (NUMBER z) after fits ends = longest_before previous (signed_decimal z) after (numeral_some previous (signed_decimal z) (signed_numeral previous z fits.0 fits.1)) ends
is_longest previous (MARK mark) after fits ends = printed_mark_longest previous mark after ends
is_longest previous NL after fits ends = absurd fits

-- ---- no token has a line feed

-- no reserved word has a line feed
word_no_feed : (word : Word) → HasNoLineFeed (word_text word)
word_no_feed Begin = refl
word_no_feed word = refl

-- no mark has one
mark_no_feed : (mark : Mark) → HasNoLineFeed (mark_text mark)
mark_no_feed Colon = refl
mark_no_feed mark = refl

-- and so no symbol has one
no_feed : (previous : Previous) (symbol : Symbol) → Fits previous symbol → HasNoLineFeed (symbol_text symbol)
no_feed previous (NAME x) fits = all_no_feed is_name_byte name_feed x (name_shape x fits).1
no_feed previous (WORD word) fits = word_no_feed word
no_feed previous (NUMBER z) fits = numeral_no_feed previous (signed_decimal z) (signed_numeral previous z fits.0 fits.1)
no_feed previous (MARK mark) fits = mark_no_feed mark
no_feed previous NL fits = absurd fits

-- ---- what is read

-- the front of the text is spelled by these terminals; the line and the token before what follows
pub record Read (text front : List ℕ) (line : ℕ) (previous : Previous) (ts : List Terminal) : Type 0 where
  pub items : List Token
  pub spelled : Spelled text front items previous
  pub tokens : terminals text items ≡ ts
  pub on : line_after front ≡ line

-- nothing is read of nothing
pub read_start : (text : List ℕ) → Read text [] 1 AfterLineEnd []
read_start text = record { items = []; spelled = spelled_start; tokens = refl; on = refl }

-- a token at these bytes is read as the symbol that they spell
bytes_are : (text front bytes after : List ℕ) (kind : Kind) → text ≡ (front ++ bytes) ++ after → (line : ℕ)
    → terminal_of text (record { kind = kind; start = length front; length = length bytes; line = line }) ≡ record { symbol = symbol_of kind bytes; line = line }
bytes_are text front bytes after kind is line =
    let cut : take (length bytes) (drop (length front) text) ≡ bytes =
    ap (λ (t : List ℕ). take (length bytes) (drop (length front) t)) (is ∙ append_assoc front bytes after) ∙ ap (take (length bytes)) (drop_at front (bytes ++ after) (length front) refl) ∙ take_at bytes after (length bytes) refl in
    ap (λ (b : List ℕ). record { symbol = symbol_of kind b; line = line }) cut

-- the text of a symbol, of the symbol's own kind, gives the symbol back
symbol_is : (symbol : Symbol) → symbol_of (kind_of symbol) (symbol_text symbol) ≡ symbol
symbol_is (NAME x) = refl
symbol_is (WORD word) = refl
symbol_is (NUMBER z) = refl
symbol_is (MARK mark) = refl
symbol_is NL = refl

-- one more symbol is read as one more terminal, on the same line
read_token : (text front : List ℕ) (line : ℕ) (previous : Previous) (ts : List Terminal) (symbol : Symbol) (after : List ℕ) → Read text front line previous ts → text ≡ front ++ (symbol_text symbol ++ after)
    → Fits previous symbol → EndsSymbol symbol after → Read text (front ++ symbol_text symbol) line (previous_after symbol) (ts ++ record { symbol = symbol; line = line } ∷ [])
read_token text front line previous ts symbol after was split fits ends =
    let bytes = symbol_text symbol in
    let cut : text ≡ (front ++ bytes) ++ after = split ∙ sym (append_assoc front bytes after) in
    let token : Token = record { kind = kind_of symbol; start = length front; length = length bytes; line = line_after front } in
    record {
      items = was.items ++ token ∷ [];
      spelled = spelled_token bytes after (kind_of symbol) was.spelled cut (token_is previous symbol after fits ends) (is_longest previous symbol after fits ends);
      tokens =
          map_push (terminal_of text) was.items token
          ∙ ap (λ (us : List Terminal). us ++ terminal_of text token ∷ []) was.tokens
          ∙ ap (λ (u : Terminal). ts ++ u ∷ []) (bytes_are text front bytes after (kind_of symbol) cut (line_after front) ∙ ap (λ (s : Symbol). record { symbol = s; line = line_after front }) (symbol_is symbol) ∙ ap (λ (n : ℕ). record { symbol = symbol; line = n }) was.on);
      on = line_stays front bytes (no_feed previous symbol fits) ∙ was.on;
    }

-- a blank is passed over and adds no terminal
read_blank : (text front : List ℕ) (line : ℕ) (previous : Previous) (ts : List Terminal) (after : List ℕ) → Read text front line previous ts → text ≡ front ++ 32 ∷ after → Read text (front ++ 32 ∷ []) line previous ts
read_blank text front line previous ts after was split = record {
  items = was.items;
  spelled = spelled_blank 32 after was.spelled split refl;
  tokens = was.tokens;
  on = line_stays front (32 ∷ []) refl ∙ was.on;
}

-- the same, with its front and its terminals written in another way
pub read_as : (text : List ℕ) (line : ℕ) (previous : Previous) (front other : List ℕ) (ts us : List Terminal) → front ≡ other → ts ≡ us → Read text front line previous ts → Read text other line previous us
read_as text line previous front other ts us same_front same_ts was =
    subst (λ (us : List Terminal). Read text other line previous us) same_ts (subst (λ (front : List ℕ). Read text front line previous ts) same_front was)

-- pieces of a line are read as their symbols
read_pieces : (text front : List ℕ) (line : ℕ) (previous : Previous) (ts : List Terminal) (pieces : List Piece) (after : List ℕ) → Read text front line previous ts → text ≡ front ++ (pieces_text pieces ++ after)
    → AreSpaced previous pieces after → Read text (front ++ pieces_text pieces) line (last_of previous pieces) (ts ++ on_line line (symbols_of pieces))
read_pieces text front line previous ts [] after was split spaced = read_as text line previous front (front ++ []) ts (ts ++ []) (sym (append-nil front)) (sym (append-nil ts)) was
read_pieces text front line previous ts (Blank ∷ pieces) after was split spaced =
    let more = pieces_text pieces in
    let ts' = ts ++ on_line line (symbols_of pieces) in
    read_as text line (last_of previous pieces) ((front ++ 32 ∷ []) ++ more) (front ++ 32 ∷ more) ts' ts' (append_assoc front (32 ∷ []) more) refl
    (read_pieces text (front ++ 32 ∷ []) line previous ts pieces after (read_blank text front line previous ts (more ++ after) was split) (split ∙ sym (append_assoc front (32 ∷ []) (more ++ after))) spaced)
read_pieces text front line previous ts (Shown symbol ∷ pieces) after was split spaced =
    let bytes = symbol_text symbol in
    let more = pieces_text pieces in
    let one : Terminal = record { symbol = symbol; line = line } in
    let cut : text ≡ front ++ (bytes ++ (more ++ after)) = split ∙ ap (λ (t : List ℕ). front ++ t) (append_assoc bytes more after) in
    read_as text line (last_of (previous_after symbol) pieces) ((front ++ bytes) ++ more) (front ++ (bytes ++ more)) ((ts ++ one ∷ []) ++ on_line line (symbols_of pieces)) (ts ++ one ∷ on_line line (symbols_of pieces))
    (append_assoc front bytes more) (append_assoc ts (one ∷ []) (on_line line (symbols_of pieces)))
    (read_pieces text (front ++ bytes) line (previous_after symbol) (ts ++ one ∷ []) pieces after (read_token text front line previous ts symbol (more ++ after) was cut spaced.0 spaced.1)
    (cut ∙ sym (append_assoc front bytes (more ++ after))) spaced.2)

-- ---- lines

-- a symbol that fits does not end the line
other_than_end : (previous : Previous) (symbol : Symbol) → Fits previous symbol → previous_after symbol ≢ AfterLineEnd
other_than_end previous (NAME x) fits is = cc
other_than_end previous (WORD word) fits is = cc
other_than_end previous (NUMBER z) fits is = cc
other_than_end previous (MARK mark) fits is = cc
other_than_end previous NL fits is = absurd fits

-- so behind pieces of a line the line is not ended yet
stays_other : (previous : Previous) (pieces : List Piece) (after : List ℕ) → previous ≢ AfterLineEnd → AreSpaced previous pieces after → last_of previous pieces ≢ AfterLineEnd
stays_other previous [] after other spaced = other
stays_other previous (Blank ∷ pieces) after other spaced = stays_other previous pieces after other spaced
stays_other previous (Shown symbol ∷ pieces) after other spaced = stays_other (previous_after symbol) pieces after (other_than_end previous symbol spaced.0) spaced.2

-- a line that is not ended is ended by a token of its own
line_end_added : (items : List Token) (previous : Previous) (line start length : ℕ) → previous ≢ AfterLineEnd → with_line_end items previous line start length ≡ items ++ record { kind = LineEndKind; start = start; length = length; line = line } ∷ []
line_end_added items AfterLineEnd line start length other = absurd (other refl)
line_end_added items AfterOperand line start length other = refl
line_end_added items AfterOther line start length other = refl

-- a line feed behind a line that is not ended ends it, and the next line begins
read_feed : (text front : List ℕ) (line : ℕ) (previous : Previous) (ts : List Terminal) (after : List ℕ) → previous ≢ AfterLineEnd → Read text front line previous ts → text ≡ front ++ 10 ∷ after
    → Read text (front ++ 10 ∷ []) (line + 1) AfterLineEnd (ts ++ record { symbol = NL; line = line } ∷ [])
read_feed text front line previous ts after other was split =
    let token : Token = record { kind = LineEndKind; start = length front; length = 1; line = line_after front } in
    record {
      items = with_line_end was.items previous (line_after front) (length front) 1;
      spelled = spelled_line_feed after was.spelled split;
      tokens =
          ap (terminals text) (line_end_added was.items previous (line_after front) (length front) 1 other)
          ∙ map_push (terminal_of text) was.items token
          ∙ ap (λ (us : List Terminal). us ++ record { symbol = NL; line = line_after front } ∷ []) was.tokens
          ∙ ap (λ (n : ℕ). ts ++ record { symbol = NL; line = n } ∷ []) was.on;
      on = line_begins front ∙ ap (λ (n : ℕ). n + 1) was.on;
    }

-- a whole line is read as its symbols and a line end
pub read_line : (text front : List ℕ) (line : ℕ) (ts : List Terminal) (symbol : Symbol) (pieces : List Piece) (after : List ℕ) → Read text front line AfterLineEnd ts
    → text ≡ front ++ ((pieces_text (Shown symbol ∷ pieces) ++ codes "\n") ++ after) → AreSpaced AfterLineEnd (Shown symbol ∷ pieces) (10 ∷ after)
    → Read text (front ++ (pieces_text (Shown symbol ∷ pieces) ++ codes "\n")) (line + 1) AfterLineEnd (ts ++ on_line line (symbols_of (Shown symbol ∷ pieces) ++ NL ∷ []))
read_line text front line ts symbol pieces after was split spaced =
    let all : List Piece = Shown symbol ∷ pieces in
    let shown = pieces_text all in
    let cut : text ≡ front ++ (shown ++ 10 ∷ after) = split ∙ ap (λ (t : List ℕ). front ++ t) (append_assoc shown (10 ∷ []) after) in
    let us = ts ++ on_line line (symbols_of all) in
    let last : Terminal = record { symbol = NL; line = line } in
    let other = stays_other (previous_after symbol) pieces (10 ∷ after) (other_than_end AfterLineEnd symbol spaced.0) spaced.2 in
    read_as text (line + 1) AfterLineEnd ((front ++ shown) ++ 10 ∷ []) (front ++ (shown ++ 10 ∷ [])) (us ++ last ∷ []) (ts ++ on_line line (symbols_of all ++ NL ∷ []))
    (append_assoc front shown (10 ∷ []))
    (append_assoc ts (on_line line (symbols_of all)) (last ∷ []) ∙ ap (λ (vs : List Terminal). ts ++ vs) (sym (map_push (λ (s : Symbol). record { symbol = s; line = line }) (symbols_of all) NL)))
    (read_feed text (front ++ shown) line (last_of AfterLineEnd all) us after other (read_pieces text front line AfterLineEnd ts all (10 ∷ after) was cut spaced) (cut ∙ sym (append_assoc front shown (10 ∷ after))))
