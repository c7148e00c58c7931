-- Pieces are scanned as such: the scan has just their tokens.
use Rattle.mir_lex.specs.declared.tokens.Token.{Token}
use Rattle.mir_lex.specs.declared.scan.Pending.{Pending}
use Rattle.mir_lex.specs.declared.scan.Pending.TheVariants.{Idle}
use Rattle.mir_lex.specs.declared.scan.Previous.{Previous}
use Rattle.mir_lex.specs.declared.scan.Previous.TheVariants.{LineEnd as AfterLineEnd}
use Rattle.mir_lex.specs.declared.scan.Scan.{Scan}
use Rattle.mir_lex.specs.declared.scan.Scanned.TheVariants.{Going}
use Rattle.std.proofs.Common.{◌≡◌, ℕ, List, [], ◌∷◌, ◌++◌, length, refl, sym, ◌∙◌, ap, append_assoc}
use Rattle.std.proofs.lemmas.List.{append-nil}
use Rattle.mir_lex.specs.Scanner.{end_line, start, scan, finish_with, finish, scanned}
use Rattle.mir_lex.proofs.Lands.{From, blank_lands, comment_lands, feed_lands, token_lands}
use Rattle.mir_lex.proofs.Runs.{Lands, at_end, lands_idle, last_line}
use Rattle.mir_lex.proofs.Pieces.{Pieces, PiecesTokens, blank_piece, comment_piece, feed_piece, no_piece, token_piece}

-- ---- pieces are scanned

-- nothing is pending before the first byte
start_lands : (text : List ℕ) → Lands text 0 [] AfterLineEnd 1 Idle (scan text [])
start_lands text = lands_idle text start 0 refl refl

-- each piece is scanned behind those before it
pub pieces_run : (text : List ℕ) (prefix rest : List ℕ) (items : List Token) (previous : Previous) (line : ℕ) (tail : Pending) → Pieces prefix items previous line tail → text ≡ prefix ++ rest → From text prefix items previous line tail
pieces_run text _ rest _ _ _ _ no_piece is = record { lands = start_lands text }
pieces_run text _ rest _ _ _ _ (token_piece {prefix} {items} {previous} {line} {tail} s kind next pieces ends token_is) is =
    let from = pieces_run text prefix (s ++ rest) items previous line tail pieces (is ∙ append_assoc prefix s rest) in record { lands = token_lands text prefix s rest items previous line tail next kind is from ends token_is }
pieces_run text _ rest _ _ _ _ (blank_piece {prefix} {items} {previous} {line} {tail} b pieces ends blank_is) is =
    let from = pieces_run text prefix (b ∷ rest) items previous line tail pieces (is ∙ append_assoc prefix (b ∷ []) rest) in record { lands = blank_lands text prefix items previous line tail b from ends blank_is }
pieces_run text _ rest _ _ _ _ (comment_piece {prefix} {items} {previous} {line} {tail} body pieces ends body_is) is =
    let from = pieces_run text prefix (124 ∷ 124 ∷ (body ++ rest)) items previous line tail pieces (is ∙ append_assoc prefix (124 ∷ 124 ∷ body) rest) in record { lands = comment_lands text prefix items previous line tail body from ends body_is }
pieces_run text _ rest _ _ _ _ (feed_piece {prefix} {items} {previous} {line} {tail} pieces ends) is =
    let from = pieces_run text prefix (10 ∷ rest) items previous line tail pieces (is ∙ append_assoc prefix (10 ∷ []) rest) in record { lands = feed_lands text prefix items previous line tail from ends }

-- the scan of the pieces has their tokens
pub tokens_run : (text : List ℕ) (items : List Token) → PiecesTokens text items → (st : Scan) × (scanned text ≡ Going st) × (st.items ≡ items)
tokens_run text items h =
    let from = pieces_run text text [] h.before h.previous h.line h.tail h.pieces (sym (append-nil text)) in
    let out : scanned text ≡ Going (end_line (at_end h.before h.previous h.line (length text)) h.previous) =
    ap (finish text) from.lands.is ∙ ap finish_with from.lands.out in (
      end_line (at_end h.before h.previous h.line (length text)) h.previous,
      out,
      last_line (at_end h.before h.previous h.line (length text)) h.previous ∙ sym h.items_are,
    )
