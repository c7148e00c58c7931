-- What the scanner has read are pieces, or has a place where no token stands.
use Rattle.std.specs.List.{list_all, fold}
use Rattle.std.specs.Char.{is_ascii_digit}
use Rattle.mir_base.specs.Names.{is_name_byte, is_letter, begins_as_name}
use Rattle.mir_lex.specs.declared.words.Mark.{Mark}
use Rattle.mir_lex.specs.declared.words.Mark.TheVariants.{Colon, Comma, Semicolon, LeftParen, RightParen, Plus, Minus, Star, Slash, Equal, NotEqual, Less, LessEqual, Greater, GreaterEqual, Bang, Arrow}
use Rattle.mir_lex.specs.declared.words.Kind.{Kind}
use Rattle.mir_lex.specs.declared.words.Kind.TheVariants.{Number as NumberKind, Mark as MarkKind, LineEnd as LineEndKind}
use Rattle.mir_lex.specs.declared.tokens.Token.{Token}
use Rattle.mir_lex.specs.declared.scan.Pending.{Pending}
use Rattle.mir_lex.specs.declared.scan.Pending.TheVariants.{Idle, Word as PWord, Number as PNumber, Minus as PMinus, Less as PLess, Greater as PGreater, Bang as PBang, Bar, Comment, ArrowFirst, ArrowSecond}
use Rattle.mir_lex.specs.declared.scan.Previous.{Previous}
use Rattle.mir_lex.specs.declared.scan.Previous.TheVariants.{LineEnd as AfterLineEnd, Operand as AfterOperand, Other as AfterOther}
use Rattle.mir_lex.specs.declared.scan.Scan.{Scan}
use Rattle.mir_lex.specs.declared.scan.Scanned.{Scanned}
use Rattle.mir_lex.specs.declared.scan.Scanned.TheVariants.{Going, Stopped}
use Rattle.mir_lex.specs.declared.faults.LexFault.{LexFault}
use Rattle.mir_lex.specs.declared.faults.LexFault.TheVariants.{BadByte, BadNumber, LongName}
use Rattle.std.proofs.Common.{◌≡◌, ℕ, ℤ, ◌+◌, ◌<◌, ◌==◌, true, false, not, List, [], ◌∷◌, ◌++◌, length, Option, None, Some, refl, sym, ◌∙◌, ap, subst, append_assoc, inl, inr, arith}
use Rattle.std.proofs.lemmas.Bool.{eqb-true, and_from, cond_both, or_from}
use Rattle.std.proofs.lemmas.List.{append-nil, length-append}
use Rattle.mir_lex.specs.Spelling.{with_token, IsDigits, CanBeSigned, IsNumeral, with_line_end, is_blank, previous_of, HasNoLineFeed}
use Rattle.mir_lex.specs.Scanner.{number_of, word_kind, single_mark, extend, push, skip, push_word, push_number, pending_bytes, emit_as, emit, end_line, next_line, line_feed, minus_after, push_mark, begin, begin_after, complete, step_as, scan_step, start, scan, finish_with, finish, scanned}
use Rattle.mir_lex.proofs.Pieces.{ByteBeginsNone, IsPieceToken, NotContinued, PieceRefusal, PieceStops, Pieces, PiecesTokens, begins_closed, blank_piece, comment_piece, continues, ends_append, feed_piece, minus_open, no_piece, token_piece}
use Rattle.mir_lex.specs.SpellingLaws.{numeral_some}
use Rattle.mir_lex.proofs.KindLemmas.{KindIs, NumberIs, kind_is, number_spelled, numeral_shape}
use Rattle.mir_base.specs.DecimalLaws.{digits_all}
use Rattle.mir_lex.proofs.Classes.{all_push, letter_name}
use Rattle.mir_lex.proofs.Runs.{last_line, since}
use Rattle.mir_base.specs.NameLaws.{begins_some}

-- ---- what was read

-- what the bytes since the start of a token are
abbrev pub ReadsBytes : Previous → Pending → Pending → List ℕ → Type 0
ReadsBytes previous tail Idle s = (s ≡ []) × (tail ≡ Idle)
ReadsBytes previous tail PWord s = (begins_as_name s ≡ true) × (list_all is_name_byte s ≡ true)
ReadsBytes previous tail PNumber s = IsNumeral previous s
ReadsBytes previous tail PMinus s = (s ≡ 45 ∷ []) × CanBeSigned previous
ReadsBytes previous tail PLess s = s ≡ 60 ∷ []
ReadsBytes previous tail PGreater s = s ≡ 62 ∷ []
ReadsBytes previous tail PBang s = s ≡ 33 ∷ []
ReadsBytes previous tail Bar s = s ≡ 124 ∷ []
ReadsBytes previous tail Comment s = (body : List ℕ) × (s ≡ 124 ∷ 124 ∷ body) × HasNoLineFeed body
ReadsBytes previous tail ArrowFirst s = s ≡ 226 ∷ []
ReadsBytes previous tail ArrowSecond s = s ≡ 226 ∷ 134 ∷ []

-- what was read are pieces and the bytes of what is pending
pub record StandsAs (prefix : List ℕ) (st : Scan) (p : Pending) : Type 0 where
  pub base : List ℕ
  pub own : List ℕ
  pub tail : Pending
  pub is : prefix ≡ base ++ own
  pub pieces : Pieces base st.items st.previous st.line tail
  pub ends : NotContinued tail own
  pub starts : st.start ≡ length base
  pub size : st.length ≡ length own
  pub reads : ReadsBytes st.previous tail p own

-- the scan is at the end of a piece
pub record Fresh (prefix : List ℕ) (st : Scan) (tail : Pending) : Type 0 where
  pub pieces : Pieces prefix st.items st.previous st.line tail
  pub starts : st.start ≡ length prefix
  pub size : st.length ≡ 0

-- what was read is so, or has a place where no token stands
abbrev pub KeepsBytes : List ℕ → List ℕ → Scanned → Type 0
KeepsBytes text prefix (Going st) = StandsAs prefix st st.pending
KeepsBytes text prefix (Stopped bad) = PieceRefusal text bad

-- after what is pending was handed over
abbrev pub Emits : List ℕ → List ℕ → Pending → Scanned → Type 0
Emits text prefix tail (Going st) = Fresh prefix st tail
Emits text prefix tail (Stopped bad) = PieceRefusal text bad

-- ---- what is pending is handed over

-- the token of the bytes since the start
pieces_put : (base own : List ℕ) (st : Scan) (tail next : Pending) (k : Kind) → Pieces base st.items st.previous st.line tail → NotContinued tail own → st.start ≡ length base → st.length ≡ length own → IsPieceToken st.previous own k next
    → Pieces (base ++ own) (with_token st.items k st.start st.length st.line) (previous_of k) st.line next
pieces_put base own st tail next k pieces ends starts size is =
    subst (λ (n : ℕ). Pieces (base ++ own) (with_token st.items k n st.length st.line) (previous_of k) st.line next) (sym starts)
    (subst (λ (n : ℕ). Pieces (base ++ own) (with_token st.items k (length base) n st.line) (previous_of k) st.line next) (sym size)
    (token_piece own k next pieces ends is))

-- the place after the bytes since the start
place : (prefix base own : List ℕ) (st : Scan) → prefix ≡ base ++ own → st.start ≡ length base → st.length ≡ length own → st.start + st.length ≡ length prefix
place prefix base own st is starts size = let e : length prefix ≡ length base + length own = ap length is ∙ length-append base own in omega (arith, e, starts, size)

-- what is pending is a token
put_fresh : (prefix : List ℕ) (st : Scan) (p next : Pending) (k : Kind) (h : StandsAs prefix st p) → IsPieceToken st.previous h.own k next → Fresh prefix (push st k) next
put_fresh prefix st p next k h is = record {
  pieces = subst (λ (l : List ℕ). Pieces l (push st k).items (previous_of k) st.line next) (sym h.is) (pieces_put h.base h.own st h.tail next k h.pieces h.ends h.starts h.size is);
  starts = place prefix h.base h.own st h.is h.starts h.size;
  size = refl;
}

-- the bytes since the start, in the text
own_bytes : (text prefix rest : List ℕ) (st : Scan) (p : Pending) → text ≡ prefix ++ rest → (h : StandsAs prefix st p) → pending_bytes text st ≡ h.own
own_bytes text prefix rest st p is h = since text h.base h.own rest (is ∙ ap (λ (l : List ℕ). l ++ rest) h.is) st h.starts h.size

-- a place that is no token, from the start of what was read
bad_at : (text prefix rest : List ℕ) (st : Scan) (p : Pending) (bad : LexFault) → text ≡ prefix ++ rest → (h : StandsAs prefix st p) → 0 < length h.own → PieceStops st.previous (h.own ++ rest) st.line bad → PieceRefusal text bad
bad_at text prefix rest st p bad is h some stops = record {
  prefix = h.base;
  rest = h.own ++ rest;
  items = st.items;
  previous = st.previous;
  line = st.line;
  tail = h.tail;
  is = is ∙ ap (λ (l : List ℕ). l ++ rest) h.is ∙ append_assoc h.base h.own rest;
  pieces = h.pieces;
  ends = ends_append h.tail h.own rest some h.ends;
  stops = stops;
}

-- one byte is not none
one : (s : List ℕ) (b : ℕ) → s ≡ b ∷ [] → 0 < length s
one s b h = omega (arith, ap length h)

-- a word is handed over, or is too long
word_emits : (text prefix rest : List ℕ) (st : Scan) (o : Option Kind) → text ≡ prefix ++ rest → (h : StandsAs prefix st PWord) → KindIs st.previous h.own o → NotContinued PWord rest → Emits text prefix PWord (push_word st o)
word_emits text prefix rest st None is h kind ends = bad_at text prefix rest st PWord (LongName st.line) is h (begins_some h.own h.reads.0) (refl, record { s = h.own; rest = rest; is = refl; begins = h.reads.0; all = h.reads.1; ends = ends; long = kind })
word_emits text prefix rest st (Some k) is h kind ends = put_fresh prefix st PWord PWord k h kind

-- a number is handed over, or is out of range
number_emits : (text prefix rest : List ℕ) (st : Scan) (o : Option ℤ) → text ≡ prefix ++ rest → (h : StandsAs prefix st PNumber) → NumberIs h.own o → NotContinued PNumber rest → Emits text prefix PNumber (push_number st o)
number_emits text prefix rest st None is h number ends = bad_at text prefix rest st PNumber (BadNumber st.line) is h (numeral_some st.previous h.own h.reads) (refl, record { s = h.own; rest = rest; is = refl; numeral = h.reads; why = inl (number, ends) })
number_emits text prefix rest st (Some z) is h number ends = put_fresh prefix st PNumber PNumber (NumberKind z) h (h.reads, number.0, number.1, refl)

-- a minus that can be a sign is open behind the token
minus_open_is : (previous : Previous) → CanBeSigned previous → PMinus ≡ minus_open previous
minus_open_is AfterOperand h = absurd h
minus_open_is AfterLineEnd h = refl
minus_open_is AfterOther h = refl

-- where nothing is pending, nothing is handed over
drop_idle : (prefix : List ℕ) (st : Scan) → StandsAs prefix st Idle → Fresh prefix (skip st) Idle
drop_idle prefix st h = record {
  pieces = subst (λ (l : List ℕ). Pieces l st.items st.previous st.line Idle) (sym (h.is ∙ ap (λ (l : List ℕ). h.base ++ l) h.reads.0 ∙ append-nil h.base))
      (subst (λ (t : Pending). Pieces h.base st.items st.previous st.line t) h.reads.1 h.pieces);
  starts = place prefix h.base h.own st h.is h.starts h.size;
  size = refl;
}

-- a comment is handed over as nothing
drop_comment : (prefix : List ℕ) (st : Scan) → StandsAs prefix st Comment → Fresh prefix (skip st) Comment
drop_comment prefix st h = record {
  pieces = subst (λ (l : List ℕ). Pieces l st.items st.previous st.line Comment) (sym (h.is ∙ ap (λ (l : List ℕ). h.base ++ l) h.reads.1))
      (comment_piece h.reads.0 h.pieces (begins_closed h.tail h.own 124 (124 ∷ h.reads.0) h.reads.1 h.ends) h.reads.2);
  starts = place prefix h.base h.own st h.is h.starts h.size;
  size = refl;
}

-- bytes that begin nothing are refused
byte_emits : (text prefix rest : List ℕ) (st : Scan) (p : Pending) (s : List ℕ) (b : ℕ) (more : List ℕ) → text ≡ prefix ++ rest → (h : StandsAs prefix st p) → h.own ≡ s → s ≡ b ∷ more → ByteBeginsNone (s ++ rest) → PieceRefusal text (BadByte st.line)
byte_emits text prefix rest st p s b more is h own some nothing = bad_at text prefix rest st p (BadByte st.line) is h (omega (arith, ap length own, ap length some)) (refl, subst (λ (l : List ℕ). ByteBeginsNone (l ++ rest)) (sym own) nothing)

-- by what is pending
emit_as_keeps : (text prefix rest : List ℕ) (st : Scan) (p : Pending) → text ≡ prefix ++ rest → StandsAs prefix st p → NotContinued p rest → Emits text prefix p (emit_as text st p)
emit_as_keeps text prefix rest st Idle is h ends = drop_idle prefix st h
emit_as_keeps text prefix rest st Comment is h ends = drop_comment prefix st h
emit_as_keeps text prefix rest st PWord is h ends = word_emits text prefix rest st (word_kind (pending_bytes text st)) is h
    (subst (λ (l : List ℕ). KindIs st.previous h.own (word_kind l)) (sym (own_bytes text prefix rest st PWord is h)) (kind_is st.previous h.own h.reads.0 h.reads.1)) ends
emit_as_keeps text prefix rest st PNumber is h ends = number_emits text prefix rest st (number_of (pending_bytes text st)) is h
    (subst (λ (l : List ℕ). NumberIs h.own (number_of l)) (sym (own_bytes text prefix rest st PNumber is h)) (number_spelled h.own (numeral_shape st.previous h.own h.reads))) ends
emit_as_keeps text prefix rest st PMinus is h ends = put_fresh prefix st PMinus PMinus (MarkKind Minus) h (h.reads.0, minus_open_is st.previous h.reads.1)
emit_as_keeps text prefix rest st PLess is h ends = put_fresh prefix st PLess PLess (MarkKind Less) h (h.reads, refl)
emit_as_keeps text prefix rest st PGreater is h ends = put_fresh prefix st PGreater PGreater (MarkKind Greater) h (h.reads, refl)
emit_as_keeps text prefix rest st PBang is h ends = put_fresh prefix st PBang PBang (MarkKind Bang) h (h.reads, refl)
emit_as_keeps text prefix rest st Bar is h ends = byte_emits text prefix rest st Bar (124 ∷ []) 124 [] is h h.reads refl (inl (refl, ends))
emit_as_keeps text prefix rest st ArrowFirst is h ends = byte_emits text prefix rest st ArrowFirst (226 ∷ []) 226 [] is h h.reads refl (inr (inl (refl, inl ends)))
emit_as_keeps text prefix rest st ArrowSecond is h ends = byte_emits text prefix rest st ArrowSecond (226 ∷ 134 ∷ []) 226 (134 ∷ []) is h h.reads refl (inr (inl (refl, inr (rest, refl, ends))))

-- what is pending is handed over, where the next byte does not continue it
pub emit_keeps : (text prefix rest : List ℕ) (st : Scan) → text ≡ prefix ++ rest → StandsAs prefix st st.pending → NotContinued st.pending rest → Emits text prefix st.pending (emit text st)
unfolding emit
emit_keeps text prefix rest st is h ends = emit_as_keeps text prefix rest st st.pending is h ends

-- ---- the first byte of a piece

-- the byte is pending
opened : (prefix : List ℕ) (st : Scan) (tail p : Pending) (b : ℕ) → Fresh prefix st tail → continues tail b ≡ false → ReadsBytes st.previous tail p (b ∷ []) → StandsAs (prefix ++ b ∷ []) (extend st p) p
opened prefix st tail p b h ends reads = record {
  base = prefix;
  own = b ∷ [];
  tail = tail;
  is = refl;
  pieces = h.pieces;
  ends = ends;
  starts = h.starts;
  size = omega (arith, h.size);
  reads = reads;
}

-- the scan is again at the end of a piece
settled : (prefix : List ℕ) (st : Scan) → Pieces prefix st.items st.previous st.line Idle → st.start ≡ length prefix → st.length ≡ 0 → StandsAs prefix st Idle
settled prefix st pieces starts size = record { base = prefix; own = []; tail = Idle; is = sym (append-nil prefix); pieces = pieces; ends = tt; starts = starts; size = size; reads = (refl, refl) }

-- the place behind the byte
next_place : (prefix : List ℕ) (b : ℕ) (n m : ℕ) → n ≡ length prefix → m ≡ 0 → n + (m + 1) ≡ length (prefix ++ b ∷ [])
next_place prefix b n m p q = omega (arith, length-append prefix (b ∷ []), p, q)

-- a token of one byte
single : (prefix : List ℕ) (st : Scan) (tail : Pending) (b : ℕ) (k : Kind) → Fresh prefix st tail → continues tail b ≡ false → IsPieceToken st.previous (b ∷ []) k Idle → StandsAs (prefix ++ b ∷ []) (push (extend st Idle) k) Idle
single prefix st tail b k h ends is =
    settled (prefix ++ b ∷ []) (push (extend st Idle) k) (pieces_put prefix (b ∷ []) (extend st Idle) tail Idle k h.pieces ends h.starts (omega (arith, h.size)) is) (next_place prefix b st.start st.length h.starts h.size) refl

-- the tokens with a line end, unless the last of them is one
with_end : (st : Scan) (previous : Previous) (n : ℕ) → List Token
with_end st previous n = with_line_end st.items previous st.line n 1

-- the pieces with the line feed
feed_row : (prefix : List ℕ) (st : Scan) (tail : Pending) → Fresh prefix st tail → continues tail 10 ≡ false → Pieces (prefix ++ 10 ∷ []) (with_line_end st.items st.previous st.line st.start (st.length + 1)) AfterLineEnd (st.line + 1) Idle
feed_row prefix st tail h ends =
    subst (λ (n : ℕ). Pieces (prefix ++ 10 ∷ []) (with_line_end st.items st.previous st.line n (st.length + 1)) AfterLineEnd (st.line + 1) Idle) (sym h.starts)
    (subst (λ (n : ℕ). Pieces (prefix ++ 10 ∷ []) (with_line_end st.items st.previous st.line (length prefix) (n + 1)) AfterLineEnd (st.line + 1) Idle) (sym h.size)
    (feed_piece h.pieces ends))

-- a line feed, by the token before it
feed_as : (prefix : List ℕ) (st : Scan) (tail : Pending) (previous : Previous) → st.previous ≡ previous → Fresh prefix st tail → Pieces (prefix ++ 10 ∷ []) (with_line_end st.items previous st.line st.start (st.length + 1)) AfterLineEnd (st.line + 1) Idle
    → StandsAs (prefix ++ 10 ∷ []) (next_line (skip (end_line (extend st Idle) previous))) Idle
feed_as prefix st tail AfterLineEnd is h pieces = settled (prefix ++ 10 ∷ []) (next_line (skip (extend st Idle)))
    (subst (λ (l : Previous). Pieces (prefix ++ 10 ∷ []) st.items l (st.line + 1) Idle) (sym is) pieces) (next_place prefix 10 st.start st.length h.starts h.size) refl
feed_as prefix st tail AfterOperand is h pieces = settled (prefix ++ 10 ∷ []) (next_line (skip (push (extend st Idle) LineEndKind))) pieces (let e = next_place prefix 10 st.start st.length h.starts h.size in omega (arith, e)) refl
feed_as prefix st tail AfterOther is h pieces = settled (prefix ++ 10 ∷ []) (next_line (skip (push (extend st Idle) LineEndKind))) pieces (let e = next_place prefix 10 st.start st.length h.starts h.size in omega (arith, e)) refl

-- a minus, by the token before it
minus_as : (prefix : List ℕ) (st : Scan) (tail : Pending) (previous : Previous) → st.previous ≡ previous → Fresh prefix st tail → continues tail 45 ≡ false → KeepsBytes prefix (prefix ++ 45 ∷ []) (Going (minus_after st previous))
minus_as prefix st tail AfterOperand is h ends = single prefix st tail 45 (MarkKind Minus) h ends (refl, ap minus_open (sym is))
minus_as prefix st tail AfterLineEnd is h ends = opened prefix st tail PMinus 45 h ends (refl, subst CanBeSigned (sym is) tt)
minus_as prefix st tail AfterOther is h ends = opened prefix st tail PMinus 45 h ends (refl, subst CanBeSigned (sym is) tt)

-- a mark that is found for a byte is that byte
abbrev pub MarkIs : Previous → ℕ → Option Mark → Type 0
MarkIs previous b None = Unit {0}
MarkIs previous b (Some m) = IsPieceToken previous (b ∷ []) (MarkKind m) Idle

-- the byte by its test
one_byte : (b n : ℕ) → (b == n) ≡ true → b ∷ [] ≡ n ∷ []
one_byte b n h = ap (λ (x : ℕ). x ∷ []) (eqb-true b n h)

-- a mark of one byte is spelled as this byte
pub single_is : (previous : Previous) (b : ℕ) → MarkIs previous b (single_mark b)
single_is previous b =
    cond_both (b == 58) (Some Colon) _ (MarkIs previous b) (λ h. (one_byte b 58 h, refl)) (λ _.
    cond_both (b == 44) (Some Comma) _ (MarkIs previous b) (λ h. (one_byte b 44 h, refl)) (λ _.
    cond_both (b == 59) (Some Semicolon) _ (MarkIs previous b) (λ h. (one_byte b 59 h, refl)) (λ _.
    cond_both (b == 40) (Some LeftParen) _ (MarkIs previous b) (λ h. (one_byte b 40 h, refl)) (λ _.
    cond_both (b == 41) (Some RightParen) _ (MarkIs previous b) (λ h. (one_byte b 41 h, refl)) (λ _.
    cond_both (b == 43) (Some Plus) _ (MarkIs previous b) (λ h. (one_byte b 43 h, refl)) (λ _.
    cond_both (b == 42) (Some Star) _ (MarkIs previous b) (λ h. (one_byte b 42 h, refl)) (λ _.
    cond_both (b == 47) (Some Slash) _ (MarkIs previous b) (λ h. (one_byte b 47 h, refl)) (λ _.
    cond_both (b == 61) (Some Equal) None (MarkIs previous b) (λ h. (one_byte b 61 h, refl)) (λ _. tt)))))))))

-- a byte that is a mark, or begins nothing
mark_keeps : (text prefix rest : List ℕ) (st : Scan) (tail : Pending) (b : ℕ) (o : Option Mark) → text ≡ prefix ++ b ∷ rest → Fresh prefix st tail → continues tail b ≡ false → MarkIs st.previous b o → (o ≡ None → ByteBeginsNone (b ∷ rest)) → KeepsBytes text (prefix ++ b ∷ []) (push_mark st o)
mark_keeps text prefix rest st tail b None is h ends mark bad = record { prefix = prefix; rest = b ∷ rest; items = st.items; previous = st.previous; line = st.line; tail = tail; is = is; pieces = h.pieces; ends = ends; stops = (refl, bad refl) }
mark_keeps text prefix rest st tail b (Some m) is h ends mark bad = single prefix st tail b (MarkKind m) h ends mark

-- facts of one byte, at that byte
at_byte : (P : ℕ → Type 0) (b n : ℕ) → (b == n) ≡ true → P n → P b
at_byte P b n is h = subst P (sym (eqb-true b n is)) h

-- by the tests of the first byte
begin_keeps : (text prefix rest : List ℕ) (st : Scan) (tail : Pending) (b : ℕ) → text ≡ prefix ++ b ∷ rest → Fresh prefix st tail → continues tail b ≡ false → KeepsBytes text (prefix ++ b ∷ []) (begin st b)
unfolding begin
begin_keeps text prefix rest st tail b is h ends =
    let P : Scanned → Type 0 = KeepsBytes text (prefix ++ b ∷ []) in
    cond_both (b == 10) (Going (line_feed st)) _ P (λ e. at_byte (λ b. continues tail b ≡ false → KeepsBytes text (prefix ++ b ∷ []) (Going (line_feed st))) b 10 e (λ ends. feed_as prefix st tail st.previous refl h (feed_row prefix st tail h ends)) ends) (λ n10.
    cond_both (is_blank b) (Going (skip (extend st Idle))) _ P (λ e. settled (prefix ++ b ∷ []) (skip (extend st Idle)) (blank_piece b h.pieces ends e) (next_place prefix b st.start st.length h.starts h.size) refl) (λ nblank.
    cond_both (is_letter b) (Going (extend st PWord)) _ P (λ e. opened prefix st tail PWord b h ends (e, letter_name b e)) (λ nletter.
    cond_both (is_ascii_digit b) (Going (extend st PNumber)) _ P (λ e. opened prefix st tail PNumber b h ends (inl (omega arith, and_from _ _ e refl))) (λ ndigit.
    cond_both (b == 45) (Going (minus_after st st.previous)) _ P (λ e. at_byte (λ b. continues tail b ≡ false → KeepsBytes text (prefix ++ b ∷ []) (Going (minus_after st st.previous))) b 45 e (λ ends. minus_as prefix st tail st.previous refl h ends) ends) (λ n45.
    cond_both (b == 60) (Going (extend st PLess)) _ P (λ e. opened prefix st tail PLess b h ends (one_byte b 60 e)) (λ n60.
    cond_both (b == 62) (Going (extend st PGreater)) _ P (λ e. opened prefix st tail PGreater b h ends (one_byte b 62 e)) (λ n62.
    cond_both (b == 33) (Going (extend st PBang)) _ P (λ e. opened prefix st tail PBang b h ends (one_byte b 33 e)) (λ n33.
    cond_both (b == 124) (Going (extend st Bar)) _ P (λ e. opened prefix st tail Bar b h ends (one_byte b 124 e)) (λ n124.
    cond_both (b == 226) (Going (extend st ArrowFirst)) (push_mark st (single_mark b)) P (λ e. opened prefix st tail ArrowFirst b h ends (one_byte b 226 e)) (λ n226.
    mark_keeps text prefix rest st tail b (single_mark b) is h ends (single_is st.previous b) (λ nothing. inr (inr (n10, nblank, nletter, ndigit, n45, n60, n62, n33, n124, n226, nothing)))))))))))))

-- the same where what was pending may have been refused
begin_after_keeps : (text prefix rest : List ℕ) (r : Scanned) (tail : Pending) (b : ℕ) → text ≡ prefix ++ b ∷ rest → Emits text prefix tail r → continues tail b ≡ false → KeepsBytes text (prefix ++ b ∷ []) (begin_after r b)
begin_after_keeps text prefix rest (Going st) tail b is h ends = begin_keeps text prefix rest st tail b is h ends
begin_after_keeps text prefix rest (Stopped bad) tail b is h ends = h

-- ---- one more byte of what is pending

-- a byte more
grows : (prefix : List ℕ) (st : Scan) (p q : Pending) (b : ℕ) (h : StandsAs prefix st p) → 0 < length h.own → ReadsBytes st.previous h.tail q (h.own ++ b ∷ []) → StandsAs (prefix ++ b ∷ []) (extend st q) q
grows prefix st p q b h some reads = record {
  base = h.base;
  own = h.own ++ b ∷ [];
  tail = h.tail;
  is = ap (λ (l : List ℕ). l ++ b ∷ []) h.is ∙ append_assoc h.base h.own (b ∷ []);
  pieces = h.pieces;
  ends = ends_append h.tail h.own (b ∷ []) some h.ends;
  starts = h.starts;
  size = omega (arith, h.size, length-append h.own (b ∷ []));
  reads = reads;
}

-- the byte ends a mark
close_keeps : (prefix : List ℕ) (st : Scan) (p : Pending) (b : ℕ) (m : Mark) (h : StandsAs prefix st p) → 0 < length h.own → IsPieceToken st.previous (h.own ++ b ∷ []) (MarkKind m) Idle → StandsAs (prefix ++ b ∷ []) (push (extend st Idle) (MarkKind m)) Idle
close_keeps prefix st p b m h some is =
    let whole : prefix ++ b ∷ [] ≡ h.base ++ (h.own ++ b ∷ []) = ap (λ (l : List ℕ). l ++ b ∷ []) h.is ∙ append_assoc h.base h.own (b ∷ []) in
    let size : st.length + 1 ≡ length (h.own ++ b ∷ []) = omega (arith, h.size, length-append h.own (b ∷ [])) in
    settled (prefix ++ b ∷ []) (push (extend st Idle) (MarkKind m))
    (subst (λ (l : List ℕ). Pieces l (push (extend st Idle) (MarkKind m)).items AfterOther st.line Idle) (sym whole)
    (pieces_put h.base (h.own ++ b ∷ []) (extend st Idle) h.tail Idle (MarkKind m) h.pieces (ends_append h.tail h.own (b ∷ []) some h.ends) h.starts size is))
    (place (prefix ++ b ∷ []) h.base (h.own ++ b ∷ []) (extend st Idle) whole h.starts size) refl

-- one byte more than one byte
two : (own : List ℕ) (a b n : ℕ) → own ≡ a ∷ [] → (b == n) ≡ true → own ++ b ∷ [] ≡ a ∷ n ∷ []
two own a b n is e = ap (λ (l : List ℕ). l ++ b ∷ []) is ∙ ap (λ (c : ℕ). a ∷ c ∷ []) (eqb-true b n e)

-- one more digit
pub digits_snoc : (s : List ℕ) (b : ℕ) → IsDigits s → is_ascii_digit b ≡ true → IsDigits (s ++ b ∷ [])
digits_snoc s b h is = (omega (arith, length-append s (b ∷ [])), digits_all (s ++ b ∷ []) ∙ all_push is_ascii_digit s b (sym (digits_all s) ∙ h.1) is)

-- one more digit of a numeral
pub numeral_snoc : (previous : Previous) (s : List ℕ) (b : ℕ) → IsNumeral previous s → is_ascii_digit b ≡ true → IsNumeral previous (s ++ b ∷ [])
numeral_snoc previous s b (inl h) is = inl (digits_snoc s b h is)
numeral_snoc previous s b (inr h) is = inr (h.0 ++ b ∷ [], ap (λ (l : List ℕ). l ++ b ∷ []) h.1, digits_snoc h.0 b h.2 is, h.3)

-- bytes that begin as a name do so with one more byte behind them
pub begins_snoc : (s : List ℕ) (b : ℕ) → begins_as_name s ≡ true → begins_as_name (s ++ b ∷ []) ≡ true
begins_snoc [] b h = absurd (cc)
begins_snoc (c ∷ s) b h = h

-- ---- each byte, and the whole text

-- by what is pending
step_as_keeps : (text prefix rest : List ℕ) (st : Scan) (b : ℕ) (p : Pending) → text ≡ prefix ++ b ∷ rest → StandsAs prefix st p → (continues p b ≡ false → Emits text prefix p (emit text st)) → KeepsBytes text (prefix ++ b ∷ []) (step_as text st b p)
step_as_keeps text prefix rest st b Idle is h out = begin_keeps text prefix rest (skip st) Idle b is (drop_idle prefix st h) refl
step_as_keeps text prefix rest st b PWord is h out = cond_both (is_name_byte b) (Going (extend st PWord)) (begin_after (emit text st) b) (KeepsBytes text (prefix ++ b ∷ []))
    (λ e. grows prefix st PWord PWord b h (begins_some h.own h.reads.0) (begins_snoc h.own b h.reads.0, all_push is_name_byte h.own b h.reads.1 e))
    (λ e. begin_after_keeps text prefix rest (emit text st) PWord b is (out e) e)
step_as_keeps text prefix rest st b PNumber is h out = cond_both (is_ascii_digit b) (Going (extend st PNumber)) _ (KeepsBytes text (prefix ++ b ∷ []))
    (λ e. grows prefix st PNumber PNumber b h (numeral_some st.previous h.own h.reads) (numeral_snoc st.previous h.own b h.reads e))
    (λ digit. cond_both (is_name_byte b) (Stopped (BadNumber st.line)) (begin_after (emit text st) b) (KeepsBytes text (prefix ++ b ∷ []))
    (λ e. bad_at text prefix (b ∷ rest) st PNumber (BadNumber st.line) is h (numeral_some st.previous h.own h.reads) (refl, record { s = h.own; rest = b ∷ rest; is = refl; numeral = h.reads; why = inr (b, rest, refl, digit, e) }))
    (λ e. begin_after_keeps text prefix rest (emit text st) PNumber b is (out e) e))
step_as_keeps text prefix rest st b PMinus is h out = cond_both (is_ascii_digit b) (Going (extend st PNumber)) (begin_after (emit text st) b) (KeepsBytes text (prefix ++ b ∷ []))
    (λ e. grows prefix st PMinus PNumber b h (one h.own 45 h.reads.0) (inr (b ∷ [], ap (λ (l : List ℕ). l ++ b ∷ []) h.reads.0, (omega arith, and_from _ _ e refl), h.reads.1)))
    (λ e. begin_after_keeps text prefix rest (emit text st) PMinus b is (out e) e)
step_as_keeps text prefix rest st b PLess is h out = cond_both (b == 45) (complete st Arrow) _ (KeepsBytes text (prefix ++ b ∷ []))
    (λ e. close_keeps prefix st PLess b Arrow h (one h.own 60 h.reads) (inl (two h.own 60 b 45 h.reads e), refl))
    (λ no_arrow. cond_both (b == 61) (complete st LessEqual) (begin_after (emit text st) b) (KeepsBytes text (prefix ++ b ∷ []))
    (λ e. close_keeps prefix st PLess b LessEqual h (one h.own 60 h.reads) (two h.own 60 b 61 h.reads e, refl))
    (λ e. begin_after_keeps text prefix rest (emit text st) PLess b is (out (or_from _ _ no_arrow e)) (or_from _ _ no_arrow e)))
step_as_keeps text prefix rest st b PGreater is h out = cond_both (b == 61) (complete st GreaterEqual) (begin_after (emit text st) b) (KeepsBytes text (prefix ++ b ∷ []))
    (λ e. close_keeps prefix st PGreater b GreaterEqual h (one h.own 62 h.reads) (two h.own 62 b 61 h.reads e, refl))
    (λ e. begin_after_keeps text prefix rest (emit text st) PGreater b is (out e) e)
step_as_keeps text prefix rest st b PBang is h out = cond_both (b == 61) (complete st NotEqual) (begin_after (emit text st) b) (KeepsBytes text (prefix ++ b ∷ []))
    (λ e. close_keeps prefix st PBang b NotEqual h (one h.own 33 h.reads) (two h.own 33 b 61 h.reads e, refl))
    (λ e. begin_after_keeps text prefix rest (emit text st) PBang b is (out e) e)
step_as_keeps text prefix rest st b Bar is h out = cond_both (b == 124) (Going (extend st Comment)) (Stopped (BadByte st.line)) (KeepsBytes text (prefix ++ b ∷ []))
    (λ e. grows prefix st Bar Comment b h (one h.own 124 h.reads) ([], two h.own 124 b 124 h.reads e, refl))
    (λ e. byte_emits text prefix (b ∷ rest) st Bar (124 ∷ []) 124 [] is h h.reads refl (inl (refl, e)))
step_as_keeps text prefix rest st b Comment is h out = cond_both (not (b == 10)) (Going (extend st Comment)) (begin_after (emit text st) b) (KeepsBytes text (prefix ++ b ∷ []))
    (λ e. grows prefix st Comment Comment b h (omega (arith, ap length h.reads.1)) (h.reads.0 ++ b ∷ [], ap (λ (l : List ℕ). l ++ b ∷ []) h.reads.1, all_push (λ b. not (b == 10)) h.reads.0 b h.reads.2 e))
    (λ e. begin_after_keeps text prefix rest (emit text st) Comment b is (out e) e)
step_as_keeps text prefix rest st b ArrowFirst is h out = cond_both (b == 134) (Going (extend st ArrowSecond)) (Stopped (BadByte st.line)) (KeepsBytes text (prefix ++ b ∷ []))
    (λ e. grows prefix st ArrowFirst ArrowSecond b h (one h.own 226 h.reads) (two h.own 226 b 134 h.reads e))
    (λ e. byte_emits text prefix (b ∷ rest) st ArrowFirst (226 ∷ []) 226 [] is h h.reads refl (inr (inl (refl, inl e))))
step_as_keeps text prefix rest st b ArrowSecond is h out = cond_both (b == 144) (complete st Arrow) (Stopped (BadByte st.line)) (KeepsBytes text (prefix ++ b ∷ []))
    (λ e. close_keeps prefix st ArrowSecond b Arrow h (omega (arith, ap length h.reads)) (inr (ap (λ (l : List ℕ). l ++ b ∷ []) h.reads ∙ ap (λ (c : ℕ). 226 ∷ 134 ∷ c ∷ []) (eqb-true b 144 e)), refl))
    (λ e. byte_emits text prefix (b ∷ rest) st ArrowSecond (226 ∷ 134 ∷ []) 226 (134 ∷ []) is h h.reads refl (inr (inl (refl, inr (b ∷ rest, refl, e)))))

-- one more byte
step_keeps : (text prefix rest : List ℕ) (r : Scanned) (b : ℕ) → text ≡ prefix ++ b ∷ rest → KeepsBytes text prefix r → KeepsBytes text (prefix ++ b ∷ []) (scan_step text r b)
step_keeps text prefix rest (Going st) b is h = step_as_keeps text prefix rest st b st.pending is h (λ ends. emit_keeps text prefix (b ∷ rest) st is h ends)
step_keeps text prefix rest (Stopped bad) b is h = h

-- all bytes that are left
run_keeps : (text prefix rest : List ℕ) (r : Scanned) → text ≡ prefix ++ rest → KeepsBytes text prefix r → KeepsBytes text text (fold (scan_step text) r rest)
run_keeps text prefix [] r is h = subst (λ (l : List ℕ). KeepsBytes text l r) (sym (is ∙ append-nil prefix)) h
run_keeps text prefix (b ∷ rest) r is h = run_keeps text (prefix ++ b ∷ []) rest (scan_step text r b) (is ∙ sym (append_assoc prefix (b ∷ []) rest)) (step_keeps text prefix rest r b is h)

-- the scan of a whole text
scan_keeps : (text : List ℕ) → KeepsBytes text text (scan text text)
scan_keeps text = run_keeps text [] text (Going start) refl (settled [] start no_piece refl refl)

-- ---- the end of the text

-- the tokens of pieces, or a place where no token stands
abbrev pub EndsScan : List ℕ → Scanned → Type 0
EndsScan text (Going st) = PiecesTokens text st.items
EndsScan text (Stopped bad) = PieceRefusal text bad

-- one more line end, unless the last token is one
finish_with_ends : (text : List ℕ) (r : Scanned) (tail : Pending) → Emits text text tail r → EndsScan text (finish_with r)
finish_with_ends text (Going st) tail h = record {
  before = st.items;
  previous = st.previous;
  line = st.line;
  tail = tail;
  pieces = h.pieces;
  items_are = last_line st st.previous ∙ ap (λ (n : ℕ). with_line_end st.items st.previous st.line n st.length) h.starts ∙ ap (λ (n : ℕ). with_line_end st.items st.previous st.line (length text) n) h.size;
}
finish_with_ends text (Stopped bad) tail h = h

-- the end of the text
finish_ends : (text : List ℕ) (r : Scanned) → KeepsBytes text text r → EndsScan text (finish text r)
finish_ends text (Going st) h = finish_with_ends text (emit text st) st.pending (emit_keeps text text [] st (sym (append-nil text)) h tt)
finish_ends text (Stopped bad) h = h

-- a scan has the tokens of pieces, or it stops at a place that is no token
pub scanned_ends : (text : List ℕ) → EndsScan text (scanned text)
scanned_ends text = finish_ends text (scan text text) (scan_keeps text)
