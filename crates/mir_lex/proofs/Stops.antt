-- The first place where no token stands stops the scan, with its cause and its line.
use Rattle.std.specs.List.{list_all, fold}
use Rattle.std.specs.Char.{is_ascii_digit}
use Rattle.mir_base.specs.Names.{is_name_byte, is_letter, begins_as_name}
use Rattle.mir_lex.specs.declared.tokens.Token.{Token}
use Rattle.mir_lex.specs.declared.scan.Pending.{Pending}
use Rattle.mir_lex.specs.declared.scan.Pending.TheVariants.{Word as PWord, Number as PNumber, Bar, ArrowFirst, ArrowSecond}
use Rattle.mir_lex.specs.declared.scan.Previous.{Previous}
use Rattle.mir_lex.specs.declared.scan.Scan.{Scan}
use Rattle.mir_lex.specs.declared.scan.Scanned.{Scanned}
use Rattle.mir_lex.specs.declared.scan.Scanned.TheVariants.{Going, Stopped}
use Rattle.mir_lex.specs.declared.faults.LexFault.{LexFault}
use Rattle.mir_lex.specs.declared.faults.LexFault.TheVariants.{BadByte, BadNumber, LongName, Memory}
use Rattle.std.proofs.Common.{◌≡◌, ℕ, ◌<◌, ◌==◌, true, false, List, [], ◌∷◌, ◌++◌, length, None, refl, sym, ◌∙◌, ap, subst, append_assoc, inl, inr, ◌⊎◌}
use Rattle.std.proofs.lemmas.Bool.{cond-false, cond-true}
use Rattle.mir_lex.specs.Spelling.{is_blank}
use Rattle.mir_lex.specs.Scanner.{single_mark, extend, push_word, push_number, emit_as, emit, push_mark, begin, begin_after, step_as, scan_step, start, scan, finish_with, finish, scanned}
use Rattle.std.proofs.lemmas.List.Sums.{fold-append}
use Rattle.mir_lex.proofs.Pieces.{ByteBeginsNone, NotContinued, PieceBadNumber, PieceRefusal, PieceStops, closed_before}
use Rattle.mir_lex.proofs.Lands.{From, numeral_run}
use Rattle.mir_lex.proofs.Runs.{at_end, goes_on, number_out, pended, restarts, since, stopped_run, word_out, word_run}
use Rattle.mir_lex.proofs.KindLemmas.{large_number, long_word}
use Rattle.mir_lex.proofs.Complete.{pieces_run}

-- ---- where the scan has stopped, it stays so

-- after what makes the scan stop, or wants more at the end of the text
abbrev stops_with : List ℕ → Scanned → List ℕ → LexFault → Type 0
stops_with text r rest bad = finish text (fold (scan_step text) r rest) ≡ Stopped bad

-- what has stopped, stops with that fault
stopped_stops : (text : List ℕ) (bad : LexFault) (rest : List ℕ) → stops_with text (Stopped bad) rest bad
stopped_stops text bad rest = ap (finish text) (stopped_run text bad rest)

-- what is pending is refused, where no next byte belongs to it
emit_stops : (text : List ℕ) (st : Scan) (p : Pending) (bad : LexFault) (rest : List ℕ) → st.pending ≡ p → emit text st ≡ Stopped bad → NotContinued p rest → stops_with text (Going st) rest bad
emit_stops text st p bad [] is out ends = ap finish_with out
emit_stops text st p bad (b ∷ rest) is out ends =
    ap (λ (r : Scanned). finish text (fold (scan_step text) r rest)) (ap (λ (p : Pending). step_as text st b p) is ∙ restarts text st b p is ends ∙ ap (λ (r : Scanned). begin_after r b) out) ∙ stopped_stops text bad rest

-- the whole text, from the scan of its first bytes
whole : (text prefix s rest : List ℕ) (r : Scanned) (bad : LexFault) → text ≡ (prefix ++ s) ++ rest → scan text (prefix ++ s) ≡ r → stops_with text r rest bad → scanned text ≡ Stopped bad
whole text prefix s rest r bad is run stops =
    ap (λ (l : List ℕ). finish text (scan text l)) is ∙ ap (finish text) (fold-append (scan_step text) (Going start) (prefix ++ s) rest) ∙ ap (λ (r : Scanned). finish text (fold (scan_step text) r rest)) run ∙ stops

-- ---- a byte that begins nothing

-- a byte that passes no test of a first byte
begin_none : (st : Scan) (b : ℕ) → (b == 10) ≡ false → is_blank b ≡ false → is_letter b ≡ false → is_ascii_digit b ≡ false → (b == 45) ≡ false → (b == 60) ≡ false → (b == 62) ≡ false → (b == 33) ≡ false → (b == 124) ≡ false → (b == 226) ≡ false → single_mark b ≡ None → begin st b ≡ Stopped (BadByte st.line)
unfolding begin
begin_none st b a1 a2 a3 a4 a5 a6 a7 a8 a9 a10 none_is =
    cond-false (b == 10) _ _ a1 ∙ cond-false (is_blank b) _ _ a2 ∙ cond-false (is_letter b) _ _ a3 ∙ cond-false (is_ascii_digit b) _ _ a4 ∙ cond-false (b == 45) _ _ a5 ∙ cond-false (b == 60) _ _ a6 ∙ cond-false (b == 62) _ _ a7
    ∙ cond-false (b == 33) _ _ a8 ∙ cond-false (b == 124) _ _ a9 ∙ cond-false (b == 226) _ _ a10 ∙ ap (push_mark st) none_is

-- a bar and a part of U+2190 are handed over as a bad byte
byte_out : (text : List ℕ) (st : Scan) (p : Pending) → st.pending ≡ p → (p ≡ Bar) ⊎ (p ≡ ArrowFirst) ⊎ (p ≡ ArrowSecond) → emit text st ≡ Stopped (BadByte st.line)
unfolding emit
byte_out text st p is (inl e) = ap (emit_as text st) (is ∙ e)
byte_out text st p is (inr (inl e)) = ap (emit_as text st) (is ∙ e)
byte_out text st p is (inr (inr e)) = ap (emit_as text st) (is ∙ e)

-- a bar is pending
begin_bar : (st : Scan) → begin st 124 ≡ Going (extend st Bar)
unfolding begin
begin_bar st = refl

-- the first byte of U+2190 is pending
begin_lead : (st : Scan) → begin st 226 ≡ Going (extend st ArrowFirst)
unfolding begin
begin_lead st = refl

-- by the three forms of a byte that begins nothing
byte_stops : (text : List ℕ) (st : Scan) (b : ℕ) (rest : List ℕ) → ByteBeginsNone (b ∷ rest) → stops_with text (begin st b) rest (BadByte st.line)
byte_stops text st b rest (inl h) =
    ap (λ (b : ℕ). finish text (fold (scan_step text) (begin st b) rest)) h.0 ∙ ap (λ (r : Scanned). finish text (fold (scan_step text) r rest)) (begin_bar st)
    ∙ emit_stops text (extend st Bar) Bar (BadByte st.line) rest refl (byte_out text (extend st Bar) Bar refl (inl refl)) h.1
byte_stops text st b rest (inr (inl (h, inl ends))) =
    ap (λ (b : ℕ). finish text (fold (scan_step text) (begin st b) rest)) h ∙ ap (λ (r : Scanned). finish text (fold (scan_step text) r rest)) (begin_lead st)
    ∙ emit_stops text (extend st ArrowFirst) ArrowFirst (BadByte st.line) rest refl (byte_out text (extend st ArrowFirst) ArrowFirst refl (inr (inl refl))) ends
byte_stops text st b rest (inr (inl (h, inr more))) =
    ap (λ (b : ℕ). finish text (fold (scan_step text) (begin st b) rest)) h ∙ ap (λ (r : Scanned). finish text (fold (scan_step text) r rest)) (begin_lead st)
    ∙ ap (λ (l : List ℕ). finish text (fold (scan_step text) (Going (extend st ArrowFirst)) l)) more.1
    ∙ emit_stops text (extend (extend st ArrowFirst) ArrowSecond) ArrowSecond (BadByte st.line) more.0 refl (byte_out text (extend (extend st ArrowFirst) ArrowSecond) ArrowSecond refl (inr (inr refl))) more.2
byte_stops text st b rest (inr (inr h)) = ap (λ (r : Scanned). finish text (fold (scan_step text) r rest)) (begin_none st b h.0 h.1 h.2 h.3 h.4 h.5 h.6 h.7 h.8 h.9 h.10) ∙ stopped_stops text (BadByte st.line) rest

-- a bad byte behind pieces
bad_byte : (text prefix rest : List ℕ) (items : List Token) (previous : Previous) (line : ℕ) (tail : Pending) → text ≡ prefix ++ rest → From text prefix items previous line tail → NotContinued tail rest → ByteBeginsNone rest → scanned text ≡ Stopped (BadByte line)
bad_byte text prefix [] items previous line tail is h ends bad = absurd bad
bad_byte text prefix (b ∷ rest) items previous line tail is h ends bad = whole text prefix (b ∷ []) rest (begin (at_end items previous line (length prefix)) b) (BadByte line) (is ∙ sym (append_assoc prefix (b ∷ []) rest))
    (goes_on text prefix items previous line tail b [] h.lands ends) (byte_stops text (at_end items previous line (length prefix)) b rest bad)

-- ---- a bad number, and a long name

-- a letter or `_` directly behind a number
digit_ends : (text : List ℕ) (st : Scan) (b : ℕ) (rest : List ℕ) → st.pending ≡ PNumber → is_ascii_digit b ≡ false → is_name_byte b ≡ true → stops_with text (Going st) (b ∷ rest) (BadNumber st.line)
digit_ends text st b rest is digit name =
    ap (λ (p : Pending). finish text (fold (scan_step text) (step_as text st b p) rest)) is
    ∙ ap (λ (r : Scanned). finish text (fold (scan_step text) r rest)) (cond-false (is_ascii_digit b) (Going (extend st PNumber)) _ digit ∙ cond-true (is_name_byte b) (Stopped (BadNumber st.line)) _ name)
    ∙ stopped_stops text (BadNumber st.line) rest

-- a bad number behind pieces
bad_number : (text prefix bytes : List ℕ) (items : List Token) (previous : Previous) (line : ℕ) (tail : Pending) → text ≡ prefix ++ bytes → From text prefix items previous line tail → NotContinued tail bytes → PieceBadNumber previous bytes → scanned text ≡ Stopped (BadNumber line)
bad_number text prefix bytes items previous line tail is h ends bad =
    let is_whole : text ≡ (prefix ++ bad.s) ++ bad.rest = is ∙ ap (λ (l : List ℕ). prefix ++ l) bad.is ∙ sym (append_assoc prefix bad.s bad.rest) in
    let first : NotContinued tail bad.s = closed_before tail bad.s bad.rest (subst (NotContinued tail) bad.is ends) in
    let st = pended items previous line (length prefix) (length bad.s) PNumber in
    whole text prefix bad.s bad.rest (Going st) (BadNumber line) is_whole (numeral_run text prefix bad.s items previous line tail h.lands first bad.numeral)
    (elim bad.why [
      | inl large ↦ emit_stops text st PNumber (BadNumber line) bad.rest refl (number_out text st bad.s refl (since text prefix bad.s bad.rest is_whole st refl refl) ∙ ap (push_number st) (large_number previous bad.s bad.numeral large.0)) large.1
      | inr more ↦ ap (λ (l : List ℕ). finish text (fold (scan_step text) (Going st) l)) more.2 ∙ digit_ends text st more.0 more.1 refl more.3 more.4
    ])

-- a long name behind pieces
long_run : (text prefix s rest : List ℕ) (items : List Token) (previous : Previous) (line : ℕ) (tail : Pending) → text ≡ (prefix ++ s) ++ rest → From text prefix items previous line tail → NotContinued tail (s ++ rest) → begins_as_name s ≡ true → list_all is_name_byte s ≡ true → 64 < length s → NotContinued PWord rest → scanned text ≡ Stopped (LongName line)
long_run text prefix [] rest items previous line tail is h ends begins all long after = absurd (cc)
long_run text prefix (b ∷ s) rest items previous line tail is h ends begins all long after =
    let st = pended items previous line (length prefix) (length (b ∷ s)) PWord in
    whole text prefix (b ∷ s) rest (Going st) (LongName line) is (goes_on text prefix items previous line tail b s h.lands ends ∙ word_run text (at_end items previous line (length prefix)) b s refl begins all)
    (emit_stops text st PWord (LongName line) rest refl (word_out text st (b ∷ s) refl (since text prefix (b ∷ s) rest is st refl refl) ∙ ap (push_word st) (long_word (b ∷ s) long)) after)

-- ---- each refusal

-- by the cause
stops_run : (text prefix rest : List ℕ) (items : List Token) (previous : Previous) (line : ℕ) (tail : Pending) (bad : LexFault) → text ≡ prefix ++ rest → From text prefix items previous line tail → NotContinued tail rest → PieceStops previous rest line bad → scanned text ≡ Stopped bad
stops_run text prefix rest items previous line tail (BadByte l) is h ends stops = bad_byte text prefix rest items previous line tail is h ends stops.1 ∙ ap (λ (n : ℕ). Stopped (BadByte n)) (sym stops.0)
stops_run text prefix rest items previous line tail (BadNumber l) is h ends stops = bad_number text prefix rest items previous line tail is h ends stops.1 ∙ ap (λ (n : ℕ). Stopped (BadNumber n)) (sym stops.0)
stops_run text prefix rest items previous line tail (LongName l) is h ends stops =
    let word = stops.1 in
    long_run text prefix word.s word.rest items previous line tail (is ∙ ap (λ (l : List ℕ). prefix ++ l) word.is ∙ sym (append_assoc prefix word.s word.rest)) h (subst (NotContinued tail) word.is ends) word.begins word.all word.long word.ends
    ∙ ap (λ (n : ℕ). Stopped (LongName n)) (sym stops.0)
stops_run text prefix rest items previous line tail (Memory refused) is h ends stops = absurd stops

-- the first place that is no token stops the scan
pub bad_run : (text : List ℕ) (bad : LexFault) → PieceRefusal text bad → scanned text ≡ Stopped bad
bad_run text bad h = stops_run text h.prefix h.rest h.items h.previous h.line h.tail bad h.is (pieces_run text h.prefix h.rest h.items h.previous h.line h.tail h.pieces h.is) h.ends h.stops
