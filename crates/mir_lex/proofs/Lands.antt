-- Each piece behind pieces that were scanned is scanned as that piece. For proofs only.
use Rattle.std.specs.List.{list_all, fold}
use Rattle.mir_base.specs.Names.{is_name_byte, begins_as_name}
use Rattle.mir_lex.specs.declared.words.Mark.{Mark}
use Rattle.mir_lex.specs.declared.words.Mark.TheVariants.{Colon, Comma, Semicolon, LeftParen, RightParen, Plus, Minus, Star, Slash, Equal, NotEqual, Less, LessEqual, Greater, GreaterEqual, Bang, Arrow}
use Rattle.mir_lex.specs.declared.words.Kind.{Kind}
use Rattle.mir_lex.specs.declared.words.Kind.TheVariants.{Name as NameKind, Word as WordKind, Number as NumberKind, Mark as MarkKind, LineEnd as LineEndKind}
use Rattle.mir_lex.specs.declared.tokens.Token.{Token}
use Rattle.mir_lex.specs.declared.scan.Pending.{Pending}
use Rattle.mir_lex.specs.declared.scan.Pending.TheVariants.{Idle, Word as PWord, Number as PNumber, Minus as PMinus, Less as PLess, Greater as PGreater, Bang as PBang, Comment}
use Rattle.mir_lex.specs.declared.scan.Previous.{Previous}
use Rattle.mir_lex.specs.declared.scan.Previous.TheVariants.{LineEnd as AfterLineEnd, Operand as AfterOperand, Other as AfterOther}
use Rattle.mir_lex.specs.declared.scan.Scan.{Scan}
use Rattle.mir_lex.specs.declared.scan.Scanned.TheVariants.{Going}
use Rattle.std.proofs.Common.{◌≡◌, ℕ, ℤ, ◌+◌, true, false, List, [], ◌∷◌, ◌++◌, length, Some, refl, sym, ◌∙◌, ap, subst, inl, inr, arith}
use Rattle.std.proofs.lemmas.List.{length-append}
use Rattle.mir_lex.specs.Spelling.{with_token, IsNumeral, with_line_end, is_blank, previous_of, HasNoLineFeed}
use Rattle.mir_lex.specs.Scanner.{word_kind, extend, push, skip, push_word, push_number, emit_as, emit, line_feed, begin, scan_step, start, scan}
use Rattle.mir_lex.proofs.Pieces.{IsPieceToken, NotContinued, begins_closed, continues, minus_open}
use Rattle.mir_lex.proofs.Runs.{Lands, at_end, begin_blank, digits_run, goes_on, lands_as, lands_idle, number_out, pended, put_out, run_stays, signed_run, since, word_out, word_run}
use Rattle.mir_lex.proofs.KindLemmas.{name_kind, small_number, word_facts}
use Rattle.mir_base.specs.NameLaws.{name_shape}

-- ---- what is known of pieces that were scanned

-- what is known where a piece begins
pub record From (text prefix : List ℕ) (items : List Token) (previous : Previous) (line : ℕ) (tail : Pending) : Type 0 where
  pub lands : Lands text (length prefix) items previous line tail (scan text prefix)

-- the prefix and these bytes are scanned, and the bytes are handed over as a token of this kind
abbrev TokenLands : List ℕ → List ℕ → List Token → Previous → ℕ → List ℕ → Kind → Pending → Type 0
TokenLands text prefix items previous line s k next = Lands text (length (prefix ++ s)) (with_token items k (length prefix) (length s) line) (previous_of k) line next (scan text (prefix ++ s))

-- the same bytes and the same pending piece, written in another way
token_as : (text prefix : List ℕ) (items : List Token) (previous : Previous) (line : ℕ) (s l : List ℕ) (k : Kind) (next n : Pending) → s ≡ l → next ≡ n → TokenLands text prefix items previous line l k n → TokenLands text prefix items previous line s k next
token_as text prefix items previous line s l k next n p q h =
    subst (λ (l : List ℕ). TokenLands text prefix items previous line l k next) (sym p) (subst (λ (n : Pending). TokenLands text prefix items previous line l k n) (sym q) h)

-- ---- words and numbers

-- a token that is pending is handed over
lands_token : (text prefix s : List ℕ) (items : List Token) (previous : Previous) (line : ℕ) (k : Kind) (p : Pending) → emit text (pended items previous line (length prefix) (length s) p) ≡ Going (push (pended items previous line (length prefix) (length s) p) k)
    → Lands text (length (prefix ++ s)) (with_token items k (length prefix) (length s) line) (previous_of k) line p (Going (pended items previous line (length prefix) (length s) p))
lands_token text prefix s items previous line k p out =
    let st = pended items previous line (length prefix) (length s) p in
    record { st = st; is = refl; pending = refl; out = out ∙ ap (λ (s : Scan). Going s) (put_out st k (length (prefix ++ s)) (sym (length-append prefix s))) }

-- a word behind the prefix
word_lands : (text prefix s rest : List ℕ) (items : List Token) (previous : Previous) (line : ℕ) (tail : Pending) (k : Kind) → text ≡ (prefix ++ s) ++ rest → Lands text (length prefix) items previous line tail (scan text prefix) → NotContinued tail s
    → begins_as_name s ≡ true → list_all is_name_byte s ≡ true → word_kind s ≡ Some k
    → Lands text (length (prefix ++ s)) (with_token items k (length prefix) (length s) line) (previous_of k) line PWord (scan text (prefix ++ s))
word_lands text prefix [] rest items previous line tail k is h ends begins all kind = absurd (cc)
word_lands text prefix (b ∷ s) rest items previous line tail k is h ends begins all kind =
    lands_as text _ _ _ _ _ (scan text (prefix ++ b ∷ s)) (Going (pended items previous line (length prefix) (length (b ∷ s)) PWord))
    (goes_on text prefix items previous line tail b s h ends ∙ word_run text (at_end items previous line (length prefix)) b s refl begins all)
    (let st = pended items previous line (length prefix) (length (b ∷ s)) PWord in
    lands_token text prefix (b ∷ s) items previous line k PWord (word_out text st (b ∷ s) refl (since text prefix (b ∷ s) rest is st refl refl) ∙ ap (push_word st) kind))

-- a numeral behind the prefix is pending as a number
pub numeral_run : (text prefix s : List ℕ) (items : List Token) (previous : Previous) (line : ℕ) (tail : Pending) → Lands text (length prefix) items previous line tail (scan text prefix) → NotContinued tail s → IsNumeral previous s
    → scan text (prefix ++ s) ≡ Going (pended items previous line (length prefix) (length s) PNumber)
numeral_run text prefix [] items previous line tail h ends (inl digits) = absurd (omega (arith, digits.0))
numeral_run text prefix (d ∷ ds) items previous line tail h ends (inl digits) = goes_on text prefix items previous line tail d ds h ends ∙ digits_run text (at_end items previous line (length prefix)) d ds refl digits.1
numeral_run text prefix s items previous line tail h ends (inr signed) =
    let ends : continues tail 45 ≡ false = subst (NotContinued tail) signed.1 ends in
    ap (λ (l : List ℕ). scan text (prefix ++ l)) signed.1 ∙ goes_on text prefix items previous line tail 45 signed.0 h ends
    ∙ signed_run text (at_end items previous line (length prefix)) signed.0 refl signed.2 signed.3
    ∙ ap (λ (l : List ℕ). Going (pended items previous line (length prefix) (length l) PNumber)) (sym signed.1)

-- ---- marks

-- a mark that is whole at its last byte
abbrev after_mark : List Token → Previous → ℕ → ℕ → ℕ → Mark → Scan
after_mark items previous line start size m = push (pended items previous line start size Idle) (MarkKind m)

-- nothing is pending behind a mark that is whole
mark_idle : (text prefix s : List ℕ) (items : List Token) (previous : Previous) (line : ℕ) (m : Mark)
    → Lands text (length (prefix ++ s)) (with_token items (MarkKind m) (length prefix) (length s) line) AfterOther line Idle (Going (after_mark items previous line (length prefix) (length s) m))
mark_idle text prefix s items previous line m = lands_idle text (after_mark items previous line (length prefix) (length s) m) (length (prefix ++ s)) refl (omega (arith, length-append prefix s))

module _ (text prefix : List ℕ) (items : List Token) (previous : Previous) (line : ℕ) (tail : Pending) (h : From text prefix items previous line tail) where
  mark_one : (b : ℕ) (m : Mark) → continues tail b ≡ false → begin (at_end items previous line (length prefix)) b ≡ Going (after_mark items previous line (length prefix) 1 m) → previous_of (MarkKind m) ≡ AfterOther → TokenLands text prefix items previous line (b ∷ []) (MarkKind m) Idle
  mark_one b m ends e other = lands_as text _ _ _ _ _ (scan text (prefix ++ b ∷ [])) (Going (after_mark items previous line (length prefix) 1 m)) (goes_on text prefix items previous line tail b [] h.lands ends ∙ e) (mark_idle text prefix (b ∷ []) items previous line m)

  mark_maybe : (b : ℕ) (m : Mark) (p : Pending) → continues tail b ≡ false → begin (at_end items previous line (length prefix)) b ≡ Going (pended items previous line (length prefix) 1 p)
      → emit text (pended items previous line (length prefix) 1 p) ≡ Going (push (pended items previous line (length prefix) 1 p) (MarkKind m)) → TokenLands text prefix items previous line (b ∷ []) (MarkKind m) p
  mark_maybe b m p ends e out = lands_as text _ _ _ _ _ (scan text (prefix ++ b ∷ [])) (Going (pended items previous line (length prefix) 1 p)) (goes_on text prefix items previous line tail b [] h.lands ends ∙ e) (lands_token text prefix (b ∷ []) items previous line (MarkKind m) p out)

  mark_more : (b : ℕ) (s : List ℕ) (m : Mark) → continues tail b ≡ false → fold (scan_step text) (begin (at_end items previous line (length prefix)) b) s ≡ Going (after_mark items previous line (length prefix) (length (b ∷ s)) m) → TokenLands text prefix items previous line (b ∷ s) (MarkKind m) Idle
  mark_more b s m ends e = lands_as text _ _ _ _ _ (scan text (prefix ++ b ∷ s)) (Going (after_mark items previous line (length prefix) (length (b ∷ s)) m)) (goes_on text prefix items previous line tail b s h.lands ends ∙ e) (mark_idle text prefix (b ∷ s) items previous line m)

-- a minus is whole behind a name or a number, and else may begin a number
minus_lands : (text prefix : List ℕ) (items : List Token) (previous : Previous) (line : ℕ) (tail : Pending) → From text prefix items previous line tail → continues tail 45 ≡ false → TokenLands text prefix items previous line (45 ∷ []) (MarkKind Minus) (minus_open previous)
unfolding begin emit
minus_lands text prefix items AfterOperand line tail h ends = mark_one text prefix items AfterOperand line tail h 45 Minus ends refl refl
minus_lands text prefix items AfterLineEnd line tail h ends = mark_maybe text prefix items AfterLineEnd line tail h 45 Minus PMinus ends refl refl
minus_lands text prefix items AfterOther line tail h ends = mark_maybe text prefix items AfterOther line tail h 45 Minus PMinus ends refl refl

module _ (text prefix : List ℕ) (items : List Token) (previous : Previous) (line : ℕ) (tail : Pending) (h : From text prefix items previous line tail) (s : List ℕ) (next : Pending) (ends : NotContinued tail s) where
  mark_lands : (m : Mark) → IsPieceToken previous s (MarkKind m) next → TokenLands text prefix items previous line s (MarkKind m) next
  unfolding begin emit
  mark_lands Colon is = token_as text prefix items previous line s (58 ∷ []) (MarkKind Colon) next Idle is.0 is.1 (mark_one text prefix items previous line tail h 58 Colon (begins_closed tail s 58 [] is.0 ends) refl refl)
  mark_lands Comma is = token_as text prefix items previous line s (44 ∷ []) (MarkKind Comma) next Idle is.0 is.1 (mark_one text prefix items previous line tail h 44 Comma (begins_closed tail s 44 [] is.0 ends) refl refl)
  mark_lands Semicolon is = token_as text prefix items previous line s (59 ∷ []) (MarkKind Semicolon) next Idle is.0 is.1 (mark_one text prefix items previous line tail h 59 Semicolon (begins_closed tail s 59 [] is.0 ends) refl refl)
  mark_lands LeftParen is = token_as text prefix items previous line s (40 ∷ []) (MarkKind LeftParen) next Idle is.0 is.1 (mark_one text prefix items previous line tail h 40 LeftParen (begins_closed tail s 40 [] is.0 ends) refl refl)
  mark_lands RightParen is = token_as text prefix items previous line s (41 ∷ []) (MarkKind RightParen) next Idle is.0 is.1 (mark_one text prefix items previous line tail h 41 RightParen (begins_closed tail s 41 [] is.0 ends) refl refl)
  mark_lands Plus is = token_as text prefix items previous line s (43 ∷ []) (MarkKind Plus) next Idle is.0 is.1 (mark_one text prefix items previous line tail h 43 Plus (begins_closed tail s 43 [] is.0 ends) refl refl)
  mark_lands Star is = token_as text prefix items previous line s (42 ∷ []) (MarkKind Star) next Idle is.0 is.1 (mark_one text prefix items previous line tail h 42 Star (begins_closed tail s 42 [] is.0 ends) refl refl)
  mark_lands Slash is = token_as text prefix items previous line s (47 ∷ []) (MarkKind Slash) next Idle is.0 is.1 (mark_one text prefix items previous line tail h 47 Slash (begins_closed tail s 47 [] is.0 ends) refl refl)
  mark_lands Equal is = token_as text prefix items previous line s (61 ∷ []) (MarkKind Equal) next Idle is.0 is.1 (mark_one text prefix items previous line tail h 61 Equal (begins_closed tail s 61 [] is.0 ends) refl refl)
  mark_lands Minus is = token_as text prefix items previous line s (45 ∷ []) (MarkKind Minus) next (minus_open previous) is.0 is.1 (minus_lands text prefix items previous line tail h (begins_closed tail s 45 [] is.0 ends))
  mark_lands Less is = token_as text prefix items previous line s (60 ∷ []) (MarkKind Less) next PLess is.0 is.1 (mark_maybe text prefix items previous line tail h 60 Less PLess (begins_closed tail s 60 [] is.0 ends) refl refl)
  mark_lands Greater is = token_as text prefix items previous line s (62 ∷ []) (MarkKind Greater) next PGreater is.0 is.1 (mark_maybe text prefix items previous line tail h 62 Greater PGreater (begins_closed tail s 62 [] is.0 ends) refl refl)
  mark_lands Bang is = token_as text prefix items previous line s (33 ∷ []) (MarkKind Bang) next PBang is.0 is.1 (mark_maybe text prefix items previous line tail h 33 Bang PBang (begins_closed tail s 33 [] is.0 ends) refl refl)
  mark_lands NotEqual is = token_as text prefix items previous line s (33 ∷ 61 ∷ []) (MarkKind NotEqual) next Idle is.0 is.1 (mark_more text prefix items previous line tail h 33 (61 ∷ []) NotEqual (begins_closed tail s 33 (61 ∷ []) is.0 ends) refl)
  mark_lands LessEqual is = token_as text prefix items previous line s (60 ∷ 61 ∷ []) (MarkKind LessEqual) next Idle is.0 is.1 (mark_more text prefix items previous line tail h 60 (61 ∷ []) LessEqual (begins_closed tail s 60 (61 ∷ []) is.0 ends) refl)
  mark_lands GreaterEqual is = token_as text prefix items previous line s (62 ∷ 61 ∷ []) (MarkKind GreaterEqual) next Idle is.0 is.1 (mark_more text prefix items previous line tail h 62 (61 ∷ []) GreaterEqual (begins_closed tail s 62 (61 ∷ []) is.0 ends) refl)
  mark_lands Arrow is = elim is.0 [
    | inl e ↦ token_as text prefix items previous line s (60 ∷ 45 ∷ []) (MarkKind Arrow) next Idle e is.1 (mark_more text prefix items previous line tail h 60 (45 ∷ []) Arrow (begins_closed tail s 60 (45 ∷ []) e ends) refl)
    | inr e ↦ token_as text prefix items previous line s (226 ∷ 134 ∷ 144 ∷ []) (MarkKind Arrow) next Idle e is.1 (mark_more text prefix items previous line tail h 226 (134 ∷ 144 ∷ []) Arrow (begins_closed tail s 226 (134 ∷ 144 ∷ []) e ends) refl)
  ]

-- ---- each piece

-- a token behind the prefix, by its kind
pub token_lands : (text prefix s rest : List ℕ) (items : List Token) (previous : Previous) (line : ℕ) (tail next : Pending) (k : Kind) → text ≡ (prefix ++ s) ++ rest → From text prefix items previous line tail → NotContinued tail s → IsPieceToken previous s k next → TokenLands text prefix items previous line s k next
token_lands text prefix s rest items previous line tail next NameKind is h ends spelled =
    let shape = name_shape s spelled.0 in
    token_as text prefix items previous line s s NameKind next PWord refl spelled.1 (word_lands text prefix s rest items previous line tail NameKind is h.lands ends shape.0 shape.1 (name_kind s spelled.0))
token_lands text prefix s rest items previous line tail next (WordKind w) is h ends spelled =
    let facts = word_facts w in
    token_as text prefix items previous line s s (WordKind w) next PWord refl spelled.1 (word_lands text prefix s rest items previous line tail (WordKind w) is h.lands ends
    (ap begins_as_name spelled.0 ∙ facts.begins) (ap (list_all is_name_byte) spelled.0 ∙ facts.all) (ap word_kind spelled.0 ∙ facts.kind))
token_lands text prefix s rest items previous line tail next (NumberKind z) is h ends spelled =
    token_as text prefix items previous line s s (NumberKind z) next PNumber refl spelled.3
    (lands_as text _ _ _ _ _ (scan text (prefix ++ s)) (Going (pended items previous line (length prefix) (length s) PNumber)) (numeral_run text prefix s items previous line tail h.lands ends spelled.0)
    (let st = pended items previous line (length prefix) (length s) PNumber in
    lands_token text prefix s items previous line (NumberKind z) PNumber (number_out text st s refl (since text prefix s rest is st refl refl) ∙ ap (push_number st) (small_number previous s spelled.0 spelled.1 ∙ ap (λ (z : ℤ). Some z) (sym spelled.2)))))
token_lands text prefix s rest items previous line tail next (MarkKind m) is h ends spelled = mark_lands text prefix items previous line tail h s next ends m spelled
token_lands text prefix s rest items previous line tail next LineEndKind is h ends spelled = absurd spelled

-- a blank behind the prefix leaves no token
pub blank_lands : (text prefix : List ℕ) (items : List Token) (previous : Previous) (line : ℕ) (tail : Pending) (b : ℕ) → From text prefix items previous line tail → continues tail b ≡ false → is_blank b ≡ true → Lands text (length (prefix ++ b ∷ [])) items previous line Idle (scan text (prefix ++ b ∷ []))
blank_lands text prefix items previous line tail b h ends is =
    let st = skip (extend (at_end items previous line (length prefix)) Idle) in
    lands_as text _ _ _ _ _ (scan text (prefix ++ b ∷ [])) (Going st) (goes_on text prefix items previous line tail b [] h.lands ends ∙ begin_blank (at_end items previous line (length prefix)) b is)
    (lands_idle text st (length (prefix ++ b ∷ [])) refl (omega (arith, length-append prefix (b ∷ []))))

-- a comment is handed over as nothing
comment_out : (text : List ℕ) (st : Scan) → st.pending ≡ Comment → emit text st ≡ Going (skip st)
unfolding emit
comment_out text st is = ap (emit_as text st) is

-- a comment behind the prefix leaves no token
pub comment_lands : (text prefix : List ℕ) (items : List Token) (previous : Previous) (line : ℕ) (tail : Pending) (body : List ℕ) → From text prefix items previous line tail → continues tail 124 ≡ false → HasNoLineFeed body → Lands text (length (prefix ++ 124 ∷ 124 ∷ body)) items previous line Comment (scan text (prefix ++ 124 ∷ 124 ∷ body))
unfolding begin
comment_lands text prefix items previous line tail body h ends is =
    let st = pended items previous line (length prefix) (2 + length body) Comment in
    lands_as text _ _ _ _ _ (scan text (prefix ++ 124 ∷ 124 ∷ body)) (Going st)
    (goes_on text prefix items previous line tail 124 (124 ∷ body) h.lands ends
    ∙ run_stays text Comment body (pended items previous line (length prefix) 2 Comment) refl is)
    (record { st = st; is = refl; pending = refl; out = comment_out text st refl ∙ ap (λ (n : ℕ). Going (at_end items previous line n)) (omega (arith, length-append prefix (124 ∷ 124 ∷ body))) })

-- a line feed behind the prefix ends the line
pub feed_lands : (text prefix : List ℕ) (items : List Token) (previous : Previous) (line : ℕ) (tail : Pending) → From text prefix items previous line tail → continues tail 10 ≡ false → Lands text (length (prefix ++ 10 ∷ [])) (with_line_end items previous line (length prefix) 1) AfterLineEnd (line + 1) Idle (scan text (prefix ++ 10 ∷ []))
unfolding begin
feed_lands text prefix items AfterLineEnd line tail h ends =
    let st = line_feed (at_end items AfterLineEnd line (length prefix)) in
    lands_as text _ _ _ _ _ (scan text (prefix ++ 10 ∷ [])) (Going st) (goes_on text prefix items AfterLineEnd line tail 10 [] h.lands ends)
    (lands_idle text st (length (prefix ++ 10 ∷ [])) refl (omega (arith, length-append prefix (10 ∷ []))))
feed_lands text prefix items AfterOperand line tail h ends =
    let st = line_feed (at_end items AfterOperand line (length prefix)) in
    lands_as text _ _ _ _ _ (scan text (prefix ++ 10 ∷ [])) (Going st) (goes_on text prefix items AfterOperand line tail 10 [] h.lands ends)
    (lands_idle text st (length (prefix ++ 10 ∷ [])) refl (omega (arith, length-append prefix (10 ∷ []))))
feed_lands text prefix items AfterOther line tail h ends =
    let st = line_feed (at_end items AfterOther line (length prefix)) in
    lands_as text _ _ _ _ _ (scan text (prefix ++ 10 ∷ [])) (Going st) (goes_on text prefix items AfterOther line tail 10 [] h.lands ends)
    (lands_idle text st (length (prefix ++ 10 ∷ [])) refl (omega (arith, length-append prefix (10 ∷ []))))
