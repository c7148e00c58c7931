-- What the scan of a whole text says of its tokens and of its refusal.
use Rattle.std.proofs.Common.{◌≡◌, List, ℕ, sym, ◌∙◌, ap, subst}
use Rattle.mir_lex.specs.declared.tokens.Token.{Token}
use Rattle.mir_lex.specs.declared.scan.Scan.{Scan}
use Rattle.mir_lex.specs.declared.scan.Scanned.TheVariants.{Going, Stopped}
use Rattle.mir_lex.specs.declared.faults.LexFault.{LexFault}
use Rattle.mir_lex.specs.Spelling.{IsTokens, IsRefusal}
use Rattle.mir_lex.specs.Scanner.{scanned}
use Rattle.mir_lex.proofs.Sound.{EndsScan, scanned_ends}
use Rattle.mir_lex.proofs.Stops.{bad_run}
use Rattle.mir_lex.proofs.SpelledPieces.{pieces_refusal, pieces_tokens, refusal_pieces, tokens_pieces}
use Rattle.mir_lex.proofs.Complete.{tokens_run}

-- ---- where the scan goes to the end of the text

-- the tokens of a scan that goes to the end are those of the text
pub going_found : (text : List ℕ) (scan : Scan) → Going scan ≡ scanned text → IsTokens text scan.items
going_found text scan h = pieces_tokens text scan.items (subst (EndsScan text) (sym h) (scanned_ends text))

-- and the text has no others
pub going_only : (text : List ℕ) (scan : Scan) → Going scan ≡ scanned text → (items : List Token) → IsTokens text items → scan.items ≡ items
going_only text scan h items tokens =
    let run = tokens_run text items (tokens_pieces text items tokens) in
    let same : scan ≡ run.0 = let e = h ∙ run.1 in cc in
    ap (λ (s : Scan). s.items) same ∙ run.2

-- and it is not refused
pub going_refusal : (text : List ℕ) (scan : Scan) → Going scan ≡ scanned text → (fault : LexFault) → IsRefusal text fault → ⊥
going_refusal text scan h fault refusal = let e = h ∙ bad_run text fault (refusal_pieces text fault refusal) in absurd (cc)

-- ---- where the scan stops

-- the fault of a scan that stops is a refusal of the text
pub stopped_refusal : (text : List ℕ) (fault : LexFault) → Stopped fault ≡ scanned text → IsRefusal text fault
stopped_refusal text fault h = pieces_refusal text fault (subst (EndsScan text) (sym h) (scanned_ends text))

-- and the text has no tokens
pub stopped_tokens : (text : List ℕ) (fault : LexFault) → Stopped fault ≡ scanned text → (items : List Token) → IsTokens text items → ⊥
stopped_tokens text fault h items tokens = let run = tokens_run text items (tokens_pieces text items tokens) in let e = h ∙ run.1 in absurd (cc)

-- and no other refusal
pub stopped_same : (text : List ℕ) (fault : LexFault) → Stopped fault ≡ scanned text → (other : LexFault) → IsRefusal text other → fault ≡ other
stopped_same text fault h other refusal = let e = h ∙ bad_run text other (refusal_pieces text other refusal) in cc

-- ---- no two answers

-- a text has at most one list of tokens
pub tokens_same : (text : List ℕ) (one other : List Token) → IsTokens text one → IsTokens text other → one ≡ other
tokens_same text one other is also =
    let first = tokens_run text one (tokens_pieces text one is) in
    let second = tokens_run text other (tokens_pieces text other also) in
    let same : first.0 ≡ second.0 = let e = sym first.1 ∙ second.1 in cc in
    sym first.2 ∙ ap (λ (s : Scan). s.items) same ∙ second.2

-- a text is refused for at most one cause
pub refusal_same : (text : List ℕ) (one other : LexFault) → IsRefusal text one → IsRefusal text other → one ≡ other
refusal_same text one other is also = stopped_same text one (sym (bad_run text one (refusal_pieces text one is))) other also

-- and one that has tokens is not refused
pub refusal_tokens : (text : List ℕ) (fault : LexFault) → IsRefusal text fault → (items : List Token) → IsTokens text items → ⊥
refusal_tokens text fault is = stopped_tokens text fault (sym (bad_run text fault (refusal_pieces text fault is)))
