-- How a scan runs over the bytes of a piece, from its first byte to its last. For proofs only.
use Rattle.std.specs.List.{list_all, fold}
use Rattle.std.specs.Char.{is_ascii_digit}
use Rattle.std.specs.Str.{all_ascii_digits}
use Rattle.mir_base.specs.Names.{is_name_byte, is_letter}
use Rattle.mir_lex.specs.declared.words.Mark.TheVariants.{NotEqual, LessEqual, GreaterEqual, Arrow}
use Rattle.mir_lex.specs.declared.words.Kind.{Kind}
use Rattle.mir_lex.specs.declared.tokens.Token.{Token}
use Rattle.mir_lex.specs.declared.scan.Pending.{Pending}
use Rattle.mir_lex.specs.declared.scan.Pending.TheVariants.{Idle, Word as PWord, Number as PNumber, Minus as PMinus, Less as PLess, Greater as PGreater, Bang as PBang, Bar, Comment, ArrowFirst, ArrowSecond}
use Rattle.mir_lex.specs.declared.scan.Previous.{Previous}
use Rattle.mir_lex.specs.declared.scan.Previous.TheVariants.{LineEnd as AfterLineEnd, Operand as AfterOperand, Other as AfterOther}
use Rattle.mir_lex.specs.declared.scan.Scan.{Scan}
use Rattle.mir_lex.specs.declared.scan.Scanned.{Scanned}
use Rattle.mir_lex.specs.declared.scan.Scanned.TheVariants.{Going, Stopped}
use Rattle.mir_lex.specs.declared.faults.LexFault.{LexFault}
use Rattle.mir_lex.specs.declared.faults.LexFault.TheVariants.{BadByte, BadNumber}
use Rattle.std.proofs.Common.{◌≡◌, ℕ, ◌+◌, ◌==◌, Bool, true, false, List, [], ◌∷◌, ◌++◌, length, take, drop, refl, sym, ◌∙◌, ap, append_assoc, if◌then◌else◌, arith}
use Rattle.std.proofs.lemmas.Bool.{and_parts, cond-false, cond-true, or_parts}
use Rattle.std.proofs.lemmas.List.{take_at, drop_at}
use Rattle.mir_lex.specs.Spelling.{with_token, IsDigits, CanBeSigned, with_line_end, is_blank, previous_of}
use Rattle.mir_lex.specs.Scanner.{number_of, word_kind, extend, push, skip, push_word, push_number, pending_bytes, emit_as, emit, end_line, minus_after, begin, begin_after, complete, leave_as, stays, step_as, scan_step, start, scan}
use Rattle.std.proofs.lemmas.List.Sums.{fold-append}
use Rattle.mir_base.specs.DecimalLaws.{digits_all}
use Rattle.mir_lex.specs.SpellingLaws.{digit_feed}
use Rattle.mir_lex.proofs.Classes.{blank_feed, digit_blank, digit_no_letter, letter_blank, letter_feed, name_digit}
use Rattle.mir_lex.proofs.Pieces.{continues}

-- ---- scans, and what they hand over

-- a scan with these tokens, and nothing pending
abbrev pub at_end : List Token → Previous → ℕ → ℕ → Scan
at_end items previous line n = record { items = items; previous = previous; line = line; start = n; length = 0; pending = Idle }

-- a scan with these tokens, and this pending
abbrev pub pended : List Token → Previous → ℕ → ℕ → ℕ → Pending → Scan
pended items previous line start size p = record { items = items; previous = previous; line = line; start = start; length = size; pending = p }

-- the scan goes on, and what is pending is handed over, with these tokens
pub record Lands (text : List ℕ) (n : ℕ) (items : List Token) (previous : Previous) (line : ℕ) (tail : Pending) (r : Scanned) : Type 0 where
  pub st : Scan
  pub is : r ≡ Going st
  pub pending : st.pending ≡ tail
  pub out : emit text st ≡ Going (at_end items previous line n)

-- of equal scans
pub lands_as : (text : List ℕ) (n : ℕ) (items : List Token) (previous : Previous) (line : ℕ) (tail : Pending) (r q : Scanned) → r ≡ q → Lands text n items previous line tail q → Lands text n items previous line tail r
lands_as text n items previous line tail r q e h = record { st = h.st; is = e ∙ h.is; pending = h.pending; out = h.out }

-- nothing is handed over where nothing is pending
pub idle_out : (text : List ℕ) (st : Scan) (n : ℕ) → st.pending ≡ Idle → st.start + st.length ≡ n → emit text st ≡ Going (at_end st.items st.previous st.line n)
unfolding emit
idle_out text st n idle at = ap (emit_as text st) idle ∙ ap (λ (n : ℕ). Going (at_end st.items st.previous st.line n)) at

-- a scan where nothing is pending
pub lands_idle : (text : List ℕ) (st : Scan) (n : ℕ) → st.pending ≡ Idle → st.start + st.length ≡ n → Lands text n st.items st.previous st.line Idle (Going st)
lands_idle text st n idle at = record { st = st; is = refl; pending = idle; out = idle_out text st n idle at }

-- the scan behind a token
pub put_out : (st : Scan) (k : Kind) (n : ℕ) → st.start + st.length ≡ n → push st k ≡ at_end (with_token st.items k st.start st.length st.line) (previous_of k) st.line n
put_out st k n at = ap (λ (n : ℕ). at_end (with_token st.items k st.start st.length st.line) (previous_of k) st.line n) at

-- the bytes of a token after a prefix
pub since : (text prefix s rest : List ℕ) → text ≡ (prefix ++ s) ++ rest → (st : Scan) → st.start ≡ length prefix → st.length ≡ length s → pending_bytes text st ≡ s
since text prefix s rest is st starts size =
    ap (λ (l : List ℕ). take st.length (drop st.start l)) (is ∙ append_assoc prefix s rest) ∙ ap (take st.length) (drop_at prefix (s ++ rest) st.start (sym starts)) ∙ take_at s rest st.length (sym size)

-- a word is handed over with the kind that is found for it
pub word_out : (text : List ℕ) (st : Scan) (s : List ℕ) → st.pending ≡ PWord → pending_bytes text st ≡ s → emit text st ≡ push_word st (word_kind s)
unfolding emit
word_out text st s is bytes = ap (emit_as text st) is ∙ ap (λ (l : List ℕ). push_word st (word_kind l)) bytes

-- a number is handed over with the value that is found for it
pub number_out : (text : List ℕ) (st : Scan) (s : List ℕ) → st.pending ≡ PNumber → pending_bytes text st ≡ s → emit text st ≡ push_number st (number_of s)
unfolding emit
number_out text st s is bytes = ap (emit_as text st) is ∙ ap (λ (l : List ℕ). push_number st (number_of l)) bytes

-- ---- one byte more

-- a byte that does not continue what is pending begins something new
pub restarts : (text : List ℕ) (st : Scan) (b : ℕ) (p : Pending) → st.pending ≡ p → continues p b ≡ false → step_as text st b p ≡ begin_after (emit text st) b
unfolding emit
restarts text st b Idle is h = ap (λ (p : Pending). begin_after (emit_as text st p) b) (sym is)
restarts text st b PWord is h = ap (λ (t : Bool). if t then Going (extend st PWord) else begin_after (emit text st) b) h
restarts text st b PNumber is h =
    ap (λ (t : Bool). if t then Going (extend st PNumber) else if is_name_byte b then Stopped (BadNumber st.line) else begin_after (emit text st) b) (name_digit b h)
    ∙ ap (λ (t : Bool). if t then Stopped (BadNumber st.line) else begin_after (emit text st) b) h
restarts text st b PMinus is h = ap (λ (t : Bool). if t then Going (extend st PNumber) else begin_after (emit text st) b) h
restarts text st b PLess is h =
    let parts = or_parts (b == 45) (b == 61) h in
    ap (λ (t : Bool). if t then complete st Arrow else if b == 61 then complete st LessEqual else begin_after (emit text st) b) parts.0
    ∙ ap (λ (t : Bool). if t then complete st LessEqual else begin_after (emit text st) b) parts.1
restarts text st b PGreater is h = ap (λ (t : Bool). if t then complete st GreaterEqual else begin_after (emit text st) b) h
restarts text st b PBang is h = ap (λ (t : Bool). if t then complete st NotEqual else begin_after (emit text st) b) h
restarts text st b Bar is h = ap (λ (t : Bool). if t then Going (extend st Comment) else Stopped (BadByte st.line)) h ∙ ap (λ (p : Pending). begin_after (emit_as text st p) b) (sym is)
restarts text st b Comment is h = ap (λ (t : Bool). if t then Going (extend st Comment) else begin_after (emit text st) b) h
restarts text st b ArrowFirst is h = ap (λ (t : Bool). if t then Going (extend st ArrowSecond) else Stopped (BadByte st.line)) h ∙ ap (λ (p : Pending). begin_after (emit_as text st p) b) (sym is)
restarts text st b ArrowSecond is h = ap (λ (t : Bool). if t then complete st Arrow else Stopped (BadByte st.line)) h ∙ ap (λ (p : Pending). begin_after (emit_as text st p) b) (sym is)

-- the first byte of a piece after others
pub goes_on : (text prefix : List ℕ) (items : List Token) (previous : Previous) (line : ℕ) (tail : Pending) (b : ℕ) (s : List ℕ) → Lands text (length prefix) items previous line tail (scan text prefix) → continues tail b ≡ false
    → scan text (prefix ++ b ∷ s) ≡ fold (scan_step text) (begin (at_end items previous line (length prefix)) b) s
goes_on text prefix items previous line tail b s h ends =
    fold-append (scan_step text) (Going start) prefix (b ∷ s) ∙ ap (λ (r : Scanned). fold (scan_step text) r (b ∷ s)) h.is ∙ ap (λ (p : Pending). fold (scan_step text) (step_as text h.st b p) s) h.pending
    ∙ ap (λ (r : Scanned). fold (scan_step text) r s) (restarts text h.st b tail h.pending ends ∙ ap (λ (r : Scanned). begin_after r b) h.out)

-- bytes that stay in what is pending
pub run_stays : (text : List ℕ) (p : Pending) (s : List ℕ) (st : Scan) → st.pending ≡ p → list_all (stays p) s ≡ true
    → fold (scan_step text) (Going st) s ≡ Going (record st { length = st.length + length s; pending = p })
run_stays text p [] st is h = ap (λ (q : Pending). Going (record st { pending = q })) is ∙ ap (λ (n : ℕ). Going (record st { length = n; pending = p })) (omega arith)
run_stays text p (b ∷ s) st is h =
    let parts = and_parts (stays p b) (list_all (stays p) s) h in
    ap (λ (p : Pending). fold (scan_step text) (step_as text st b p) s) is
    ∙ ap (λ (t : Bool). fold (scan_step text) (if t then Going (extend st p) else leave_as text st b p) s) parts.0
    ∙ run_stays text p s (extend st p) refl parts.1
    ∙ ap (λ (n : ℕ). Going (record st { length = n; pending = p })) (omega arith)

-- a scan that has stopped stays so
pub stopped_run : (text : List ℕ) (bad : LexFault) (s : List ℕ) → fold (scan_step text) (Stopped bad) s ≡ Stopped bad
stopped_run text bad [] = refl
stopped_run text bad (b ∷ s) = stopped_run text bad s

-- ---- the first byte

-- a blank is skipped
pub begin_blank : (st : Scan) (b : ℕ) → is_blank b ≡ true → begin st b ≡ Going (skip (extend st Idle))
unfolding begin
begin_blank st b h = cond-false (b == 10) _ _ (blank_feed b h) ∙ cond-true (is_blank b) _ _ h

-- a letter begins a word
pub begin_letter : (st : Scan) (b : ℕ) → is_letter b ≡ true → begin st b ≡ Going (extend st PWord)
unfolding begin
begin_letter st b h = cond-false (b == 10) _ _ (letter_feed b h) ∙ cond-false (is_blank b) _ _ (letter_blank b h) ∙ cond-true (is_letter b) _ _ h

-- a digit begins a number
pub begin_digit : (st : Scan) (b : ℕ) → is_ascii_digit b ≡ true → begin st b ≡ Going (extend st PNumber)
unfolding begin
begin_digit st b h = cond-false (b == 10) _ _ (digit_feed b h) ∙ cond-false (is_blank b) _ _ (digit_blank b h) ∙ cond-false (is_letter b) _ _ (digit_no_letter b h) ∙ cond-true (is_ascii_digit b) _ _ h

-- a minus that can be a sign is pending
pub minus_may : (st : Scan) (previous : Previous) → CanBeSigned previous → minus_after st previous ≡ extend st PMinus
minus_may st AfterOperand h = absurd h
minus_may st AfterLineEnd h = refl
minus_may st AfterOther h = refl

-- what a minus does depends on the token before it
pub begin_minus_is : (st : Scan) → begin st 45 ≡ Going (minus_after st st.previous)
unfolding begin
begin_minus_is st = refl

-- ---- words and numbers, from their first byte on

-- a word and a number, from their first byte on
pub word_run : (text : List ℕ) (st : Scan) (b : ℕ) (s : List ℕ) → st.length ≡ 0 → is_letter b ≡ true → list_all is_name_byte (b ∷ s) ≡ true → fold (scan_step text) (begin st b) s ≡ Going (record st { length = length (b ∷ s); pending = PWord })
word_run text st b s empty letter all =
    ap (λ (r : Scanned). fold (scan_step text) r s) (begin_letter st b letter) ∙ run_stays text PWord s (extend st PWord) refl (and_parts (is_name_byte b) (list_all is_name_byte s) all).1
    ∙ ap (λ (n : ℕ). Going (record st { length = n; pending = PWord })) (omega (arith, empty))

-- digits are pending as a number
pub digits_run : (text : List ℕ) (st : Scan) (b : ℕ) (s : List ℕ) → st.length ≡ 0 → all_ascii_digits (b ∷ s) ≡ true → fold (scan_step text) (begin st b) s ≡ Going (record st { length = length (b ∷ s); pending = PNumber })
digits_run text st b s empty all =
    let parts = and_parts (is_ascii_digit b) (all_ascii_digits s) all in
    ap (λ (r : Scanned). fold (scan_step text) r s) (begin_digit st b parts.0) ∙ run_stays text PNumber s (extend st PNumber) refl (sym (digits_all s) ∙ parts.1)
    ∙ ap (λ (n : ℕ). Going (record st { length = n; pending = PNumber })) (omega (arith, empty))

-- so are a minus and digits, where the minus can be a sign
pub signed_run : (text : List ℕ) (st : Scan) (ds : List ℕ) → st.length ≡ 0 → IsDigits ds → CanBeSigned st.previous → fold (scan_step text) (begin st 45) ds ≡ Going (record st { length = length (45 ∷ ds); pending = PNumber })
signed_run text st [] empty digits may = absurd (omega (arith, digits.0))
signed_run text st (d ∷ ds) empty digits may =
    let parts = and_parts (is_ascii_digit d) (all_ascii_digits ds) digits.1 in
    ap (λ (r : Scanned). fold (scan_step text) r (d ∷ ds)) (begin_minus_is st ∙ ap (λ (s : Scan). Going s) (minus_may st st.previous may))
    ∙ ap (λ (r : Scanned). fold (scan_step text) r ds) (cond-true (is_ascii_digit d) (Going (extend (extend st PMinus) PNumber)) (begin_after (emit text (extend st PMinus)) d) parts.0)
    ∙ run_stays text PNumber ds (extend (extend st PMinus) PNumber) refl (sym (digits_all ds) ∙ parts.1)
    ∙ ap (λ (n : ℕ). Going (record st { length = n; pending = PNumber })) (omega (arith, empty))

-- ---- the end of the text

-- the tokens where one more line end may stand at the end
pub last_line : (state : Scan) (previous : Previous) → (end_line state previous).items ≡ with_line_end state.items previous state.line state.start state.length
last_line state AfterLineEnd = refl
last_line state AfterOperand = refl
last_line state AfterOther = refl
