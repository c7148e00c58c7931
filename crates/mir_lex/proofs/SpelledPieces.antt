-- What spells a text by the definition and its pieces as the scanner sees them are the same.
use Rattle.std.specs.Char.{is_ascii_digit}
use Rattle.mir_base.specs.Names.{is_name_byte, is_letter}
use Rattle.mir_lex.specs.declared.words.Mark.{Mark}
use Rattle.mir_lex.specs.declared.words.Mark.TheVariants.{Minus, Less, Greater, Bang, Arrow}
use Rattle.mir_lex.specs.declared.words.Kind.{Kind}
use Rattle.mir_lex.specs.declared.words.Kind.TheVariants.{Name as NameKind, Word as WordKind, Number as NumberKind, Mark as MarkKind, LineEnd as LineEndKind}
use Rattle.mir_lex.specs.declared.tokens.Token.{Token}
use Rattle.mir_lex.specs.declared.scan.Pending.{Pending}
use Rattle.mir_lex.specs.declared.scan.Pending.TheVariants.{Idle, Number as PNumber, Bar, Comment, ArrowFirst, ArrowSecond}
use Rattle.mir_lex.specs.declared.scan.Previous.{Previous}
use Rattle.mir_lex.specs.declared.scan.Previous.TheVariants.{LineEnd as AfterLineEnd}
use Rattle.mir_lex.specs.declared.faults.LexFault.{LexFault}
use Rattle.mir_lex.specs.declared.faults.LexFault.TheVariants.{BadByte, BadNumber, LongName, Memory}
use Rattle.std.proofs.Common.{◌≡◌, ℕ, ◌+◌, ◌<◌, ◌==◌, true, false, not, List, [], ◌∷◌, ◌++◌, length, Option, None, Some, refl, sym, ◌∙◌, ap, subst, append_assoc, inl, inr, ◌⊎◌, arith}
use Rattle.std.proofs.lemmas.Bool.{cases_Bool, eqb-true, and_from, false_from_ne_true, not-false}
use Rattle.std.proofs.lemmas.List.{append-nil, append_cancel_left}
use Rattle.mir_base.specs.Words.{word_text}
use Rattle.mir_lex.specs.Spelling.{with_token, IsMark, IsInRange, with_line_end, is_blank, previous_of, HasNoLineFeed, IsSpelled, BeginsWith, IsToken, comment_text, EndsLine, Spelled, start as spelled_start, token as spelled_token, blank as spelled_blank, comment as spelled_comment, line_feed as spelled_line_feed, IsTokens, BeginsNone, IsBadNumber, StopsLexing, IsRefusal}
use Rattle.mir_lex.specs.Scanner.{single_mark}
use Rattle.mir_lex.specs.Tokens.{line_after}
use Rattle.mir_lex.proofs.Pieces.{ByteBeginsNone, IsPieceToken, NotContinued, PieceBadNumber, PieceRefusal, PieceStops, Pieces, PiecesTokens, blank_piece, closed_before, comment_piece, ends_append, feed_piece, idle_closed, no_piece, token_piece}
use Rattle.mir_lex.proofs.Sound.{MarkIs, single_is}
use Rattle.mir_lex.proofs.Classes.{blank_feed, letter_name, name_digit}
use Rattle.mir_lex.proofs.Marks.{at_mark, every, mark_arrow, mark_no_bar, mark_some, no_mark_here, spelled_first, spelled_some}
use Rattle.mir_lex.specs.SpellingLaws.{all_no_feed, line_begins, line_stays, name_feed, numeral_no_feed, numeral_some}
use Rattle.mir_lex.proofs.KindLemmas.{word_facts}
use Rattle.mir_base.specs.NameLaws.{name_shape, begins_some}
use Rattle.mir_lex.proofs.Longest.{number_closed, number_longest, piece_token, token_piece_is, word_closed, word_longest}

-- ---- lines

-- a mark lies on one line
mark_no_feed : (mark : Mark) (bytes : List ℕ) → IsMark mark bytes → HasNoLineFeed bytes
mark_no_feed mark [] h = absurd (mark_some mark h)
mark_no_feed mark (byte ∷ bytes) h =
    at_mark (λ byte bytes. HasNoLineFeed (byte ∷ bytes)) (every (λ byte bytes. HasNoLineFeed (byte ∷ bytes)) refl refl refl refl refl refl refl refl refl refl refl refl refl refl refl refl refl refl) mark byte bytes h

-- a token lies on one line
token_no_feed : (previous : Previous) (bytes after : List ℕ) (kind : Kind) → IsToken previous bytes after kind → HasNoLineFeed bytes
token_no_feed previous bytes after NameKind is = all_no_feed is_name_byte name_feed bytes (name_shape bytes is).1
token_no_feed previous bytes after (WordKind word) is = subst HasNoLineFeed (sym is) (all_no_feed is_name_byte name_feed (word_text word) (word_facts word).all)
token_no_feed previous bytes after (NumberKind value) is = numeral_no_feed previous bytes is.0
token_no_feed previous bytes after (MarkKind mark) is = mark_no_feed mark bytes is
token_no_feed previous bytes after LineEndKind is = absurd is

-- ---- from the definition to the scanner

-- the same tokens, as the scanner sees them, where this is what is left of the text
record Reached (prefix : List ℕ) (items : List Token) (previous : Previous) (rest : List ℕ) : Type 0 where
  tail : Pending
  pieces : Pieces prefix items previous (line_after prefix) tail
  closed : NotContinued tail rest

-- a comment that ends with its line is not continued
comment_closed : (rest : List ℕ) → EndsLine rest → NotContinued Comment rest
comment_closed [] h = tt
comment_closed (byte ∷ rest) h = ap (λ b. not (b == 10)) h

-- the same line, written in another way
on_line : (prefix items-prefix : List ℕ) (items : List Token) (previous : Previous) (tail : Pending) (line other : ℕ) → line ≡ other → Pieces prefix items previous line tail → Pieces prefix items previous other tail
on_line prefix items-prefix items previous tail line other same pieces = subst (λ (n : ℕ). Pieces prefix items previous n tail) same pieces

-- what spells a prefix is seen as pieces, one by one
spelled_pieces : (text prefix rest : List ℕ) (items : List Token) (previous : Previous) → Spelled text prefix items previous → text ≡ prefix ++ rest → Reached prefix items previous rest
spelled_pieces _ _ rest _ _ spelled_start is = record { tail = Idle; pieces = no_piece; closed = idle_closed rest }
spelled_pieces _ _ rest _ _ (spelled_token {text} {prefix} {items} {previous} bytes after kind spelled split token longest) is =
    let behind : after ≡ rest = append_cancel_left (prefix ++ bytes) after rest (sym split ∙ is) in
    let before = spelled_pieces text prefix (bytes ++ rest) items previous spelled (is ∙ append_assoc prefix bytes rest) in
    let piece = token_piece_is previous bytes after kind token longest in
    record {
      tail = piece.tail;
      pieces = subst (λ (n : ℕ). Pieces (prefix ++ bytes) (with_token items kind (length prefix) (length bytes) (line_after prefix)) (previous_of kind) n piece.tail)
          (sym (line_stays prefix bytes (token_no_feed previous bytes after kind token)))
          (token_piece bytes kind piece.tail before.pieces (closed_before before.tail bytes rest before.closed) piece.token);
      closed = subst (NotContinued piece.tail) behind piece.closed;
    }
spelled_pieces _ _ rest _ _ (spelled_blank {text} {prefix} {items} {previous} byte after spelled split blank) is =
    let before = spelled_pieces text prefix (byte ∷ rest) items previous spelled (is ∙ append_assoc prefix (byte ∷ []) rest) in
    record {
      tail = Idle;
      pieces = subst (λ (n : ℕ). Pieces (prefix ++ byte ∷ []) items previous n Idle) (sym (line_stays prefix (byte ∷ []) (and_from _ _ (ap not (blank_feed byte blank)) refl))) (blank_piece byte before.pieces before.closed blank);
      closed = idle_closed rest;
    }
spelled_pieces _ _ rest _ _ (spelled_comment {text} {prefix} {items} {previous} body after spelled split no_feed ends) is =
    let behind : after ≡ rest = append_cancel_left (prefix ++ comment_text body) after rest (sym split ∙ is) in
    let before = spelled_pieces text prefix (comment_text body ++ rest) items previous spelled (is ∙ append_assoc prefix (comment_text body) rest) in
    record {
      tail = Comment;
      pieces = subst (λ (n : ℕ). Pieces (prefix ++ comment_text body) items previous n Comment) (sym (line_stays prefix (comment_text body) no_feed)) (comment_piece body before.pieces before.closed no_feed);
      closed = comment_closed rest (subst EndsLine behind ends);
    }
spelled_pieces _ _ rest _ _ (spelled_line_feed {text} {prefix} {items} {previous} after spelled split) is =
    let before = spelled_pieces text prefix (10 ∷ rest) items previous spelled (is ∙ append_assoc prefix (10 ∷ []) rest) in
    record {
      tail = Idle;
      pieces = subst (λ (n : ℕ). Pieces (prefix ++ 10 ∷ []) (with_line_end items previous (line_after prefix) (length prefix) 1) AfterLineEnd n Idle) (sym (line_begins prefix)) (feed_piece before.pieces before.closed);
      closed = idle_closed rest;
    }

-- the tokens of a text are those of its pieces
pub tokens_pieces : (text : List ℕ) (items : List Token) → IsTokens text items → PiecesTokens text items
tokens_pieces text items h =
    let reached = spelled_pieces text text [] h.before h.previous h.spelled (sym (append-nil text)) in
    record { before = h.before; previous = h.previous; line = line_after text; tail = reached.tail; pieces = reached.pieces; items_are = h.items_are }

-- ---- and back

-- the prefix is spelled so, and the next byte is on this line
record Came (text prefix : List ℕ) (items : List Token) (previous : Previous) (line : ℕ) : Type 0 where
  spelled : Spelled text prefix items previous
  at : line ≡ line_after prefix

-- no token is empty
token_some : (previous : Previous) (bytes : List ℕ) (kind : Kind) (tail : Pending) (after : List ℕ) → IsToken previous bytes after kind → 0 < length bytes
token_some previous [] NameKind tail after is = let begins = (name_shape [] is).0 in absurd (cc)
token_some previous [] (WordKind word) tail after is = omega (arith, begins_some (word_text word) (word_facts word).begins, ap length is)
token_some previous [] (NumberKind value) tail after is = numeral_some previous [] is.0
token_some previous [] (MarkKind mark) tail after is = absurd (mark_some mark is)
token_some previous [] LineEndKind tail after is = absurd is
token_some previous (byte ∷ bytes) kind tail after is = omega arith

-- a comment that is not continued ends with its line
comment_ends : (rest : List ℕ) → NotContinued Comment rest → EndsLine rest
comment_ends [] h = tt
comment_ends (byte ∷ rest) h = eqb-true byte 10 (not-false (byte == 10) h)

-- no token of the scanner is empty
piece_some : (previous : Previous) (bytes : List ℕ) (kind : Kind) (tail : Pending) → IsPieceToken previous bytes kind tail → 0 < length bytes
piece_some previous bytes kind tail is = token_some previous bytes kind tail [] (piece_token previous bytes [] kind tail is tt).0

-- pieces spell the prefix, one by one
pieces_spelled : (text prefix rest : List ℕ) (items : List Token) (previous : Previous) (line : ℕ) (tail : Pending) → Pieces prefix items previous line tail → text ≡ prefix ++ rest → NotContinued tail rest → Came text prefix items previous line
pieces_spelled text _ rest _ _ _ _ no_piece is closed = record { spelled = spelled_start; at = refl }
pieces_spelled text _ rest _ _ _ _ (token_piece {prefix} {items} {previous} {line} {tail} bytes kind next pieces ends token) is closed =
    let before = pieces_spelled text prefix (bytes ++ rest) items previous line tail pieces (is ∙ append_assoc prefix bytes rest) (ends_append tail bytes rest (piece_some previous bytes kind next token) ends) in
    let found = piece_token previous bytes rest kind next token closed in
    record {
      spelled = subst (λ (n : ℕ). Spelled text (prefix ++ bytes) (with_token items kind (length prefix) (length bytes) n) (previous_of kind)) (sym before.at)
          (spelled_token bytes rest kind before.spelled is found.0 found.1);
      at = before.at ∙ sym (line_stays prefix bytes (token_no_feed previous bytes rest kind found.0));
    }
pieces_spelled text _ rest _ _ _ _ (blank_piece {prefix} {items} {previous} {line} {tail} byte pieces ends blank) is closed =
    let split : text ≡ prefix ++ byte ∷ rest = is ∙ append_assoc prefix (byte ∷ []) rest in
    let before = pieces_spelled text prefix (byte ∷ rest) items previous line tail pieces split ends in
    record { spelled = spelled_blank byte rest before.spelled split blank; at = before.at ∙ sym (line_stays prefix (byte ∷ []) (and_from _ _ (ap not (blank_feed byte blank)) refl)) }
pieces_spelled text _ rest _ _ _ _ (comment_piece {prefix} {items} {previous} {line} {tail} body pieces ends no_feed) is closed =
    let before = pieces_spelled text prefix (comment_text body ++ rest) items previous line tail pieces (is ∙ append_assoc prefix (comment_text body) rest) ends in
    record { spelled = spelled_comment body rest before.spelled is no_feed (comment_ends rest closed); at = before.at ∙ sym (line_stays prefix (comment_text body) no_feed) }
pieces_spelled text _ rest _ _ _ _ (feed_piece {prefix} {items} {previous} {line} {tail} pieces ends) is closed =
    let split : text ≡ prefix ++ 10 ∷ rest = is ∙ append_assoc prefix (10 ∷ []) rest in
    let before = pieces_spelled text prefix (10 ∷ rest) items previous line tail pieces split ends in
    record {
      spelled = subst (λ (n : ℕ). Spelled text (prefix ++ 10 ∷ []) (with_line_end items previous n (length prefix) 1) AfterLineEnd) (sym before.at) (spelled_line_feed rest before.spelled split);
      at = ap (λ (n : ℕ). n + 1) before.at ∙ sym (line_begins prefix);
    }

-- the tokens of the pieces are those of the text
pub pieces_tokens : (text : List ℕ) (items : List Token) → PiecesTokens text items → IsTokens text items
pieces_tokens text items h =
    let came = pieces_spelled text text [] h.before h.previous h.line h.tail h.pieces (sym (append-nil text)) tt in
    record { before = h.before; previous = h.previous; spelled = came.spelled; items_are = h.items_are ∙ ap (λ (n : ℕ). with_line_end h.before h.previous n (length text) 0) came.at }

-- ---- refusals

-- a byte is no line feed by its test
differs : (byte : ℕ) → (byte == 10) ≡ false → byte ≡ 10 → ⊥
differs byte h is = let same : (byte == 10) ≡ true = ap (λ b. b == 10) is in absurd (cc)

-- no comment begins with another byte than a bar
no_bar_here : (byte : ℕ) (rest more : List ℕ) → (byte == 124) ≡ false → byte ∷ rest ≡ comment_text more → ⊥
no_bar_here byte rest more h is = let first : byte ≡ 124 = cc in let same : (byte == 124) ≡ true = ap (λ b. b == 124) first in absurd (cc)

-- what begins no blank, line feed, comment, word or number, and no mark
begins_none : (previous : Previous) (byte : ℕ) (rest : List ℕ) → is_blank byte ≡ false → (byte == 10) ≡ false → ((more : List ℕ) → byte ∷ rest ≡ comment_text more → ⊥) → is_letter byte ≡ false → is_ascii_digit byte ≡ false → (byte == 45) ≡ false
    → ((mark : Mark) (bytes more : List ℕ) → rest ≡ bytes ++ more → IsMark mark (byte ∷ bytes) → ⊥) → BeginsNone previous byte rest
begins_none previous byte rest blank feed no_comment letter digit minus no_mark = record { no_blank = blank; no_line_feed = differs byte feed; no_comment = no_comment; no_token = no_token }
  where
    first : (other : ℕ) (bytes more : List ℕ) → byte ∷ rest ≡ other ∷ (bytes ++ more) → byte ≡ other
    first other bytes more is = cc

    behind : (other : ℕ) (bytes more : List ℕ) → byte ∷ rest ≡ other ∷ (bytes ++ more) → rest ≡ bytes ++ more
    behind other bytes more is = cc

    no_token : (bytes more : List ℕ) → byte ∷ rest ≡ bytes ++ more → IsSpelled previous bytes → ⊥
    no_token [] more is spelled = spelled_some previous spelled
    no_token (other ∷ bytes) more is spelled =
        spelled_first previous byte bytes letter digit minus (λ mark at. no_mark mark bytes more (behind other bytes more is) at) (subst (λ (b : ℕ). IsSpelled previous (b ∷ bytes)) (sym (first other bytes more is)) spelled)

-- a bar that no second one follows
at_bar : (previous : Previous) (byte : ℕ) (rest : List ℕ) → byte ≡ 124 → NotContinued Bar rest → BeginsNone previous byte rest
at_bar previous byte rest is ends =
    begins_none previous byte rest (ap is_blank is) (ap (λ b. b == 10) is) (λ more at. second more at) (ap is_letter is) (ap is_ascii_digit is) (ap (λ b. b == 45) is)
    (λ mark bytes more split at. let no = mark_no_bar mark byte bytes at in let same : (byte == 124) ≡ true = ap (λ b. b == 124) is in absurd (cc))
  where
    second : (more : List ℕ) → byte ∷ rest ≡ comment_text more → ⊥
    second more at = let behind : rest ≡ 124 ∷ more = cc in let goes : true ≡ false = subst (NotContinued Bar) behind ends in absurd (cc)

-- the first byte of U+2190, where the others do not follow
at_arrow : (previous : Previous) (byte : ℕ) (rest : List ℕ) → byte ≡ 226 → ((more : List ℕ) → rest ≡ 134 ∷ 144 ∷ more → ⊥) → BeginsNone previous byte rest
at_arrow previous byte rest is ends =
    begins_none previous byte rest (ap is_blank is) (ap (λ b. b == 10) is) (λ more at. no_bar_here byte rest more (ap (λ b. b == 124) is) at) (ap is_letter is) (ap is_ascii_digit is) (ap (λ b. b == 45) is)
    (λ mark bytes more split at. ends more (split ∙ ap (λ (l : List ℕ). l ++ more) (mark_arrow mark bytes (subst (λ (b : ℕ). IsMark mark (b ∷ bytes)) is at))))

-- the second byte of U+2190 does not follow
no_second : (rest : List ℕ) → NotContinued ArrowFirst rest → (more : List ℕ) → rest ≡ 134 ∷ 144 ∷ more → ⊥
no_second rest ends more is = let goes : true ≡ false = subst (NotContinued ArrowFirst) is ends in absurd (cc)

-- the third byte does not follow
no_third : (rest behind : List ℕ) → rest ≡ 134 ∷ behind → NotContinued ArrowSecond behind → (more : List ℕ) → rest ≡ 134 ∷ 144 ∷ more → ⊥
no_third rest behind first ends more is =
    let second : behind ≡ 144 ∷ more = cc in let goes : true ≡ false = subst (NotContinued ArrowSecond) second ends in absurd (cc)

-- a byte where the scanner stops begins nothing
byte_none : (previous : Previous) (byte : ℕ) (rest : List ℕ) → ByteBeginsNone (byte ∷ rest) → BeginsNone previous byte rest
byte_none previous byte rest (inl bar) = at_bar previous byte rest bar.0 bar.1
byte_none previous byte rest (inr (inl (is, inl ends))) = at_arrow previous byte rest is (no_second rest ends)
byte_none previous byte rest (inr (inl (is, inr ends))) = at_arrow previous byte rest is (no_third rest ends.0 ends.1 ends.2)
byte_none previous byte rest (inr (inr h)) =
    begins_none previous byte rest h.1 h.0 (λ more at. no_bar_here byte rest more h.8 at) h.2 h.3 h.4
    (λ mark bytes more split at. no_mark_here mark byte bytes at (record { no_minus = h.4; no_less = h.5; no_greater = h.6; no_bang = h.7; no_arrow = h.9; no_single = h.10 }))

-- the byte is no mark
no_lone : (previous : Previous) (byte : ℕ) (rest : List ℕ) → BeginsNone previous byte rest → (mark : Mark) (code : ℕ) → IsMark mark (code ∷ []) → (byte == code) ≡ false
no_lone previous byte rest h mark code at = false_from_ne_true (byte == code)
    (λ is. h.no_token (byte ∷ []) rest refl (inr (inr (mark, subst (λ (b : ℕ). IsMark mark (b ∷ [])) (sym (eqb-true byte code is)) at))))

-- a byte that begins nothing is no mark of one byte
no_single_here : (previous : Previous) (byte : ℕ) (rest : List ℕ) → BeginsNone previous byte rest → (found : Option Mark) → MarkIs previous byte found → found ≡ None
no_single_here previous byte rest h None is = refl
no_single_here previous byte rest h (Some mark) is = absurd (h.no_token (byte ∷ []) rest refl (inr (inr (mark, (piece_token previous (byte ∷ []) [] (MarkKind mark) Idle is tt).0))))

-- a bar that begins nothing is followed by no second one
bar_closed : (previous : Previous) (byte : ℕ) (rest : List ℕ) → BeginsNone previous byte rest → byte ≡ 124 → NotContinued Bar rest
bar_closed previous byte [] h is = tt
bar_closed previous byte (next ∷ rest) h is = false_from_ne_true (next == 124) (λ bar. h.no_comment rest (ap (λ (b : ℕ). b ∷ next ∷ rest) is ∙ ap (λ (b : ℕ). 124 ∷ b ∷ rest) (eqb-true next 124 bar)))

-- nor is the first byte of U+2190 by the others
arrow_closed : (previous : Previous) (byte : ℕ) (rest : List ℕ) → BeginsNone previous byte rest → byte ≡ 226 → NotContinued ArrowFirst rest ⊎ ((more : List ℕ) × (rest ≡ 134 ∷ more) × NotContinued ArrowSecond more)
arrow_closed previous byte [] h is = inl tt
arrow_closed previous byte (second ∷ rest) h is = elim (cases_Bool (second == 134)) [
  | inl first ↦ inr (rest, ap (λ (b : ℕ). b ∷ rest) (eqb-true second 134 first), last rest h (eqb-true second 134 first))
  | inr ends ↦ inl ends
]
  where
    last : (rest : List ℕ) → BeginsNone previous byte (second ∷ rest) → second ≡ 134 → NotContinued ArrowSecond rest
    last [] h first = tt
    last (third ∷ rest) h first = false_from_ne_true (third == 144) (λ is_third. h.no_token (226 ∷ 134 ∷ 144 ∷ []) rest
        (ap (λ (b : ℕ). b ∷ second ∷ third ∷ rest) is ∙ ap (λ (b : ℕ). 226 ∷ b ∷ third ∷ rest) first ∙ ap (λ (b : ℕ). 226 ∷ 134 ∷ b ∷ rest) (eqb-true third 144 is_third)) (inr (inr (Arrow, inr refl))))

-- the scanner stops at a byte that begins nothing
none_byte : (previous : Previous) (byte : ℕ) (rest : List ℕ) → BeginsNone previous byte rest → ByteBeginsNone (byte ∷ rest)
none_byte previous byte rest h = elim (cases_Bool (byte == 124)) [
  | inl bar ↦ inl (eqb-true byte 124 bar, bar_closed previous byte rest h (eqb-true byte 124 bar))
  | inr no_bar ↦ elim (cases_Bool (byte == 226)) [
    | inl arrow ↦ inr (inl (eqb-true byte 226 arrow, arrow_closed previous byte rest h (eqb-true byte 226 arrow)))
    | inr no_arrow ↦ inr (inr (
      false_from_ne_true (byte == 10) (λ is. h.no_line_feed (eqb-true byte 10 is)),
      h.no_blank,
      false_from_ne_true (is_letter byte) (λ is. h.no_token (byte ∷ []) rest refl (inl (is, letter_name byte is))),
      false_from_ne_true (is_ascii_digit byte) (λ is. h.no_token (byte ∷ []) rest refl (inr (inl (inl (omega arith, and_from _ _ is refl))))),
      no_lone previous byte rest h Minus 45 refl,
      no_lone previous byte rest h Less 60 refl,
      no_lone previous byte rest h Greater 62 refl,
      no_lone previous byte rest h Bang 33 refl,
      no_bar,
      no_arrow,
      no_single_here previous byte rest h (single_mark byte) (single_is previous byte),
    ))
  ]
]

-- a bad number of the text is one of the scanner
number_pieces : (previous : Previous) (after : List ℕ) → IsBadNumber previous after → PieceBadNumber previous after
number_pieces previous after h = record { s = h.bytes; rest = h.after; is = h.split; numeral = h.numeral; why = why h.bad h.after refl }
  where
    name_behind : (byte : ℕ) (rest : List ℕ) → h.after ≡ byte ∷ rest → is_name_byte byte ≡ true → (b : ℕ) × (more : List ℕ) × (h.after ≡ b ∷ more) × (is_ascii_digit b ≡ false) × (is_name_byte b ≡ true)
    name_behind byte rest is name = (byte, rest, is, number_closed previous h.bytes h.after h.numeral h.longest byte rest is, name)

    why : ((IsInRange h.bytes → ⊥) ⊎ BeginsWith is_name_byte h.after) → (behind : List ℕ) → h.after ≡ behind → ((IsInRange h.bytes → ⊥) × NotContinued PNumber h.after) ⊎ ((b : ℕ) × (more : List ℕ) × (h.after ≡ b ∷ more) × (is_ascii_digit b ≡ false) × (is_name_byte b ≡ true))
    why (inl large) [] is = inl (large, subst (NotContinued PNumber) (sym is) tt)
    why (inl large) (byte ∷ rest) is = elim (cases_Bool (is_name_byte byte)) [
      | inl name ↦ inr (name_behind byte rest is name)
      | inr ends ↦ inl (large, subst (NotContinued PNumber) (sym is) ends)
    ]
    why (inr begins) [] is = absurd (subst (BeginsWith is_name_byte) is begins)
    why (inr begins) (byte ∷ rest) is = inr (name_behind byte rest is (subst (BeginsWith is_name_byte) is begins))

-- and the other way round
pieces_number : (previous : Previous) (after : List ℕ) → PieceBadNumber previous after → IsBadNumber previous after
pieces_number previous after h = record {
  bytes = h.s;
  after = h.rest;
  split = h.is;
  numeral = h.numeral;
  longest = number_longest previous h.s h.rest h.numeral (behind h.why);
  bad = bad h.why;
}
  where
    behind : (((IsInRange h.s → ⊥) × NotContinued PNumber h.rest) ⊎ ((b : ℕ) × (more : List ℕ) × (h.rest ≡ b ∷ more) × (is_ascii_digit b ≡ false) × (is_name_byte b ≡ true))) → (byte : ℕ) (rest : List ℕ) → h.rest ≡ byte ∷ rest → is_ascii_digit byte ≡ false
    behind (inl large) byte rest is = name_digit byte (subst (NotContinued PNumber) is large.1)
    behind (inr name) byte rest is = ap is_ascii_digit (first name.0 byte name.1 rest (sym is ∙ name.2)) ∙ name.3
      where
        first : (a b : ℕ) (more rest : List ℕ) → b ∷ rest ≡ a ∷ more → b ≡ a
        first a b more rest is = cc

    bad : (((IsInRange h.s → ⊥) × NotContinued PNumber h.rest) ⊎ ((b : ℕ) × (more : List ℕ) × (h.rest ≡ b ∷ more) × (is_ascii_digit b ≡ false) × (is_name_byte b ≡ true))) → (IsInRange h.s → ⊥) ⊎ BeginsWith is_name_byte h.rest
    bad (inl large) = inl large.0
    bad (inr name) = inr (subst (BeginsWith is_name_byte) (sym name.2) name.4)

-- a cause of the text is one of the scanner
stops_pieces : (prefix : List ℕ) (previous : Previous) (after : List ℕ) (fault : LexFault) → StopsLexing prefix previous after fault → PieceStops previous after (line_after prefix) fault
stops_pieces prefix previous after (BadByte line) h = (h.0, subst ByteBeginsNone (sym h.1.2) (none_byte previous h.1.0 h.1.1 h.1.3))
stops_pieces prefix previous after (BadNumber line) h = (h.0, number_pieces previous after h.1)
stops_pieces prefix previous after (LongName line) h =
    let long = h.1 in (
      h.0,
      record { s = long.bytes; rest = long.after; is = long.split; begins = long.word.0; all = long.word.1; ends = word_closed previous long.bytes long.after long.word long.longest; long = long.long },
    )
stops_pieces prefix previous after (Memory refused) h = absurd h

-- and the other way round
pieces_stops : (prefix : List ℕ) (previous : Previous) (after : List ℕ) (line : ℕ) (fault : LexFault) → line ≡ line_after prefix → PieceStops previous after line fault → StopsLexing prefix previous after fault
pieces_stops prefix previous [] line (BadByte l) at h = absurd h.1
pieces_stops prefix previous (byte ∷ rest) line (BadByte l) at h = (h.0 ∙ at, (byte, rest, refl, byte_none previous byte rest h.1))
pieces_stops prefix previous after line (BadNumber l) at h = (h.0 ∙ at, pieces_number previous after h.1)
pieces_stops prefix previous after line (LongName l) at h =
    let long = h.1 in (
      h.0 ∙ at,
      record { bytes = long.s; after = long.rest; split = long.is; word = (long.begins, long.all); longest = word_longest previous long.s long.rest (long.begins, long.all) long.ends; long = long.long },
    )
pieces_stops prefix previous after line (Memory refused) at h = absurd h

-- a refusal of the text is one of the scanner
pub refusal_pieces : (text : List ℕ) (fault : LexFault) → IsRefusal text fault → PieceRefusal text fault
refusal_pieces text fault h =
    let reached = spelled_pieces text h.prefix h.after h.items h.previous h.spelled h.split in
    record {
      prefix = h.prefix;
      rest = h.after;
      items = h.items;
      previous = h.previous;
      line = line_after h.prefix;
      tail = reached.tail;
      is = h.split;
      pieces = reached.pieces;
      ends = reached.closed;
      stops = stops_pieces h.prefix h.previous h.after fault h.stops;
    }

-- and the other way round
pub pieces_refusal : (text : List ℕ) (fault : LexFault) → PieceRefusal text fault → IsRefusal text fault
pieces_refusal text fault h =
    let came = pieces_spelled text h.prefix h.rest h.items h.previous h.line h.tail h.pieces h.is h.ends in
    record {
      prefix = h.prefix;
      after = h.rest;
      items = h.items;
      previous = h.previous;
      split = h.is;
      spelled = came.spelled;
      stops = pieces_stops h.prefix h.previous h.rest h.line fault came.at h.stops;
    }
