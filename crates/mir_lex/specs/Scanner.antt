-- The scanner: what each byte makes of what was scanned before it. Cited by contracts of this crate's own functions.
use Rattle.std.specs.Prelude.{◌≡◌, ℕ, ℤ, ◌+◌, ◌≤◌, ◌<◌, ◌^◌, ◌==◌, Bool, false, ◌&&◌, not, nat_lt, List, [], ◌∷◌, length, take, drop, slice_index, fold, Option, None, Some, if◌then◌else◌}
use Rattle.std.specs.Option.{option_map}
use Rattle.std.specs.Char.{is_ascii_digit}
use Rattle.std.specs.Str.{all_ascii_digits}
use Rattle.std.specs.Str.Parse.{without_leading_sign, signed_digits_value}
use Rattle.std.specs.Int.Signed.{mag}
use Rattle.mir_base.specs.Names.{is_name, is_name_byte, is_letter}
use Rattle.mir_base.specs.Words.{reserved_word}
use Rattle.mir_lex.specs.declared.words.Mark.{Mark}
use Rattle.mir_lex.specs.declared.words.Mark.TheVariants.{Colon, Comma, Semicolon, LeftParen, RightParen, Plus, Minus, Star, Slash, Equal, NotEqual, Less, LessEqual, Greater, GreaterEqual, Bang, Arrow}
use Rattle.mir_lex.specs.declared.words.Kind.{Kind}
use Rattle.mir_lex.specs.declared.words.Kind.TheVariants.{Name as NameKind, Word as WordKind, Number as NumberKind, Mark as MarkKind, LineEnd as LineEndKind}
use Rattle.mir_lex.specs.declared.scan.Pending.{Pending}
use Rattle.mir_lex.specs.declared.scan.Pending.TheVariants.{Idle, Word as PWord, Number as PNumber, Minus as PMinus, Less as PLess, Greater as PGreater, Bang as PBang, Bar, Comment, ArrowFirst, ArrowSecond}
use Rattle.mir_lex.specs.declared.scan.Previous.{Previous}
use Rattle.mir_lex.specs.declared.scan.Previous.TheVariants.{LineEnd as AfterLineEnd, Operand as AfterOperand}
use Rattle.mir_lex.specs.declared.scan.Scan.{Scan}
use Rattle.mir_lex.specs.declared.scan.Scanned.{Scanned}
use Rattle.mir_lex.specs.declared.scan.Scanned.TheVariants.{Going, Stopped}
use Rattle.mir_lex.specs.declared.faults.LexFault.{LexFault}
use Rattle.mir_lex.specs.declared.faults.LexFault.TheVariants.{BadByte, BadNumber, LongName}
use Rattle.mir_lex.specs.Spelling.{with_token, is_blank, previous_of}

-- ---- words, numbers and marks

-- an optional minus and decimal digits, of a signed number of 64 bits
abbrev pub is_number : List ℕ → Bool
is_number bytes =
    not (slice_index bytes 0 == 43) && nat_lt 0 (length (without_leading_sign bytes))
    && all_ascii_digits (without_leading_sign bytes)
    && nat_lt (mag (signed_digits_value 10 bytes)) (2 ^ 63)

-- the number that these bytes spell, if they spell one
unfoldable pub number_of : List ℕ → Option ℤ
number_of bytes = if is_number bytes then Some (signed_digits_value 10 bytes) else None

-- the bytes are one letter
abbrev pub is_lone_letter : List ℕ → Bool
is_lone_letter [] = false
is_lone_letter (byte ∷ []) = is_letter byte
is_lone_letter (byte ∷ next ∷ bytes) = false

-- the kind of a word: a name, or the reserved word that it is; none where it is too long for a name
unfoldable pub word_kind : List ℕ → Option Kind
word_kind bytes = if is_name bytes then Some NameKind else option_map (λ word. WordKind word) (reserved_word bytes)

-- the mark that this byte alone is, whatever follows
abbrev pub single_mark : ℕ → Option Mark
single_mark byte =
    if byte == 58 then Some Colon else
    if byte == 44 then Some Comma else
    if byte == 59 then Some Semicolon else
    if byte == 40 then Some LeftParen else
    if byte == 41 then Some RightParen else
    if byte == 43 then Some Plus else
    if byte == 42 then Some Star else
    if byte == 47 then Some Slash else
    if byte == 61 then Some Equal else None

-- ---- the range of places and lines

-- the text is so short that each of its places and lines fits 64 bits
abbrev pub IsShort : List ℕ → Type 0
IsShort text = length text < 2 ^ 60

-- the place so many bytes behind the pending ones fits 64 bits
abbrev pub HasRoom : ℕ → Scan → Type 0
HasRoom count state = state.start + state.length + count < 2 ^ 62

-- the line's number is below 2^62, so that it and the next fit 64 bits
abbrev pub HasLine : Scan → Type 0
HasLine state = state.line < 2 ^ 62

-- the pending bytes lie in a short text, and the line is at most one behind its last
pub record IsInText (text : List ℕ) (state : Scan) : Type 0 where
  pub within : state.start + state.length ≤ length text
  pub short : IsShort text
  pub lines : state.line ≤ length text + 1

-- ---- what is done with the pending bytes

-- what a step makes: the scan, or why it stops
abbrev pub outcome : Option LexFault → Scan → Scanned
outcome None state = Going state
outcome (Some fault) state = Stopped fault

-- one more byte is pending
abbrev pub extend : Scan → Pending → Scan
extend state pending = record state { length = state.length + 1; pending = pending }

-- the bytes since the start are a token
abbrev pub push : Scan → Kind → Scan
push state kind = record {
  items = with_token state.items kind state.start state.length state.line;
  previous = previous_of kind;
  line = state.line;
  start = state.start + state.length;
  length = 0;
  pending = Idle;
}

-- the bytes since the start are no token
abbrev pub skip : Scan → Scan
skip state = record state { start = state.start + state.length; length = 0; pending = Idle }

-- the bytes since the start are of this kind; where they are of none, the scan stops with this fault
abbrev pub push_found : Scan → Option Kind → LexFault → Scanned
push_found state None fault = Stopped fault
push_found state (Some kind) fault = Going (push state kind)

-- the bytes since the start are a word of this kind, or too long
abbrev pub push_word : Scan → Option Kind → Scanned
push_word state found = push_found state found (LongName state.line)

-- the bytes since the start are this number, or no number
abbrev pub push_number : Scan → Option ℤ → Scanned
push_number state found =
    push_found state (option_map (λ value. NumberKind value) found) (BadNumber state.line)

-- the bytes since the start
abbrev pub pending_bytes : List ℕ → Scan → List ℕ
pending_bytes text state = take state.length (drop state.start text)

-- nothing more belongs to the bytes since the start: by what is pending they become a token, are passed over as a blank
-- or a comment is, or stop the scan
abbrev pub emit_as : List ℕ → Scan → Pending → Scanned
emit_as text state Idle = Going (skip state)
emit_as text state Comment = Going (skip state)
emit_as text state PWord = push_word state (word_kind (pending_bytes text state))
emit_as text state PNumber = push_number state (number_of (pending_bytes text state))
emit_as text state PMinus = Going (push state (MarkKind Minus))
emit_as text state PLess = Going (push state (MarkKind Less))
emit_as text state PGreater = Going (push state (MarkKind Greater))
emit_as text state PBang = Going (push state (MarkKind Bang))
emit_as text state pending = Stopped (BadByte state.line)

-- the same by what is pending in this scan
unfoldable pub emit : List ℕ → Scan → Scanned
emit text state = emit_as text state state.pending

-- ---- the first byte of a piece

-- a line end, unless the token before is one or there is none
abbrev pub end_line : Scan → Previous → Scan
end_line state AfterLineEnd = state
end_line state previous = push state LineEndKind

-- what follows stands on the next line
abbrev pub next_line : Scan → Scan
next_line state = record state { line = state.line + 1 }

-- the token of a line feed
abbrev pub line_feed : Scan → Scan
line_feed state = next_line (skip (end_line (extend state Idle) state.previous))

-- one more byte is pending, and the scan goes on
abbrev pub extend_going : Scan → Pending → Scanned
extend_going state pending = Going (extend state pending)

-- a minus behind a name or a number is an operator; else it may begin a number
abbrev pub minus_after : Scan → Previous → Scan
minus_after state AfterOperand = push (extend state Idle) (MarkKind Minus)
minus_after state previous = extend state PMinus

-- the first byte `-`, by the token before it
abbrev pub begin_minus : Scan → Scanned
begin_minus state = Going (minus_after state state.previous)

-- one more byte is this mark, or begins nothing
abbrev pub push_mark : Scan → Option Mark → Scanned
push_mark state None = Stopped (BadByte state.line)
push_mark state (Some mark) = Going (push (extend state Idle) (MarkKind mark))

-- the first byte of a token, a blank, a comment or a line end
unfoldable pub begin : Scan → ℕ → Scanned
begin state byte =
    if byte == 10 then Going (line_feed state) else
    if is_blank byte then Going (skip (extend state Idle)) else
    if is_letter byte then Going (extend state PWord) else
    if is_ascii_digit byte then Going (extend state PNumber) else
    if byte == 45 then begin_minus state else
    if byte == 60 then Going (extend state PLess) else
    if byte == 62 then Going (extend state PGreater) else
    if byte == 33 then Going (extend state PBang) else
    if byte == 124 then Going (extend state Bar) else
    if byte == 226 then Going (extend state ArrowFirst) else push_mark state (single_mark byte)

-- the first byte of what follows, where the scan goes on
abbrev pub begin_after : Scanned → ℕ → Scanned
begin_after (Going state) byte = begin state byte
begin_after (Stopped bad) byte = Stopped bad

-- nothing more belongs to the bytes since the start, and something new begins with this byte
abbrev pub restart : List ℕ → Scan → ℕ → Scanned
restart text state byte = begin_after (emit text state) byte

-- the bytes since the start and one more are this mark
abbrev pub complete : Scan → Mark → Scanned
complete state mark = Going (push (extend state Idle) (MarkKind mark))

-- ---- one more byte

-- `=` makes the mark longer
abbrev pub step_equal : List ℕ → Scan → ℕ → Mark → Scanned
step_equal text state byte mark =
    if byte == 61 then complete state mark else restart text state byte

-- only this byte can follow
abbrev pub step_only : Scan → ℕ → ℕ → Pending → Scanned
step_only state byte wanted pending =
    if byte == wanted then Going (extend state pending) else Stopped (BadByte state.line)

-- a byte behind a number that is no digit
abbrev pub leave_number : List ℕ → Scan → ℕ → Scanned
leave_number text state byte =
    if is_name_byte byte then Stopped (BadNumber state.line) else restart text state byte

-- a byte behind a `-` that may begin a number
abbrev pub leave_minus : List ℕ → Scan → ℕ → Scanned
leave_minus text state byte =
    if is_ascii_digit byte then Going (extend state PNumber) else restart text state byte

-- one more byte that does not stay in what is pending, where this is pending
abbrev pub leave_as : List ℕ → Scan → ℕ → Pending → Scanned
leave_as text state byte Idle = begin (skip state) byte
leave_as text state byte PWord = restart text state byte
leave_as text state byte PNumber = leave_number text state byte
leave_as text state byte PMinus = leave_minus text state byte
leave_as text state byte PLess =
    if byte == 45 then complete state Arrow else step_equal text state byte LessEqual
leave_as text state byte PGreater = step_equal text state byte GreaterEqual
leave_as text state byte PBang = step_equal text state byte NotEqual
leave_as text state byte Bar = step_only state byte 124 Comment
leave_as text state byte Comment = restart text state byte
leave_as text state byte ArrowFirst = step_only state byte 134 ArrowSecond
leave_as text state byte ArrowSecond =
    if byte == 144 then complete state Arrow else Stopped (BadByte state.line)

-- one more byte that does not stay in what is pending
abbrev pub leave : List ℕ → Scan → ℕ → Scanned
leave text state byte = leave_as text state byte state.pending

-- whether a word, a number or a comment is pending that goes on with this byte
abbrev pub stays : Pending → ℕ → Bool
stays PWord byte = is_name_byte byte
stays PNumber byte = is_ascii_digit byte
stays Comment byte = not (byte == 10)
stays pending byte = false

-- one more byte, where this is pending
abbrev pub step_as : List ℕ → Scan → ℕ → Pending → Scanned
step_as text state byte pending =
    if stays pending byte then Going (extend state pending) else leave_as text state byte pending

-- one more byte
abbrev pub byte_step : List ℕ → Scan → ℕ → Scanned
byte_step text state byte = step_as text state byte state.pending

-- ---- a whole text

-- one more byte, where the scan goes on
abbrev pub scan_step : List ℕ → Scanned → ℕ → Scanned
scan_step text (Going state) byte = byte_step text state byte
scan_step text (Stopped bad) byte = Stopped bad

-- the scan of no byte
abbrev pub start : Scan
start = record {
  items = [];
  previous = AfterLineEnd;
  line = 1;
  start = 0;
  length = 0;
  pending = Idle;
}

-- the scan of the bytes of a prefix of the text
abbrev pub scan : List ℕ → List ℕ → Scanned
scan text prefix = fold (scan_step text) (Going start) prefix

-- one more line end at the end, unless the token before is one or there is none
abbrev pub finish_with : Scanned → Scanned
finish_with (Going state) = Going (end_line state state.previous)
finish_with (Stopped bad) = Stopped bad

-- the end of the text: nothing more belongs to what is pending
abbrev pub finish : List ℕ → Scanned → Scanned
finish text (Going state) = finish_with (emit text state)
finish text (Stopped bad) = Stopped bad

-- the scan of a whole text
abbrev pub scanned : List ℕ → Scanned
scanned text = finish text (scan text text)

-- ---- where the scan stands

-- the scan has come to this place, and its line is not beyond this one
abbrev pub HasPlace : ℕ → ℕ → Scanned → Type 0
HasPlace n line (Going state) = (state.start + state.length ≡ n) × (state.line ≤ line)
HasPlace n line (Stopped bad) = Unit {0}

-- the scan stands where this one stood, and its line is not beyond
abbrev pub IsSamePlace : Scan → Scanned → Type 0
IsSamePlace before state = HasPlace (before.start + before.length) before.line state

-- the scan stands one byte behind where this one stood, and its line is not beyond the next
abbrev pub IsNextPlace : Scan → Scanned → Type 0
IsNextPlace before state = HasPlace (before.start + before.length + 1) (before.line + 1) state

-- the scan has come to the end of the text, and its line is at most one behind the last
abbrev pub IsAtEnd : List ℕ → Scanned → Type 0
IsAtEnd text state = HasPlace (length text) (length text + 1) state
