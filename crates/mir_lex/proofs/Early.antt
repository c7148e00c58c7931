-- Bytes behind the one that stops the scan change nothing.
use Rattle.std.proofs.Common.{◌≡◌, ℕ, ◌+◌, ◌<◌, List, [], ◌∷◌, ◌++◌, length, get_or, take, drop, sym, ◌∙◌, ap, take-append-drop}
use Rattle.std.proofs.lemmas.List.{take_more}
use Rattle.std.specs.List.{fold}
use Rattle.std.proofs.lemmas.List.Sums.{fold-append}
use Rattle.mir_lex.specs.declared.scan.Scan.{Scan}
use Rattle.mir_lex.specs.declared.scan.Scanned.{Scanned}
use Rattle.mir_lex.specs.declared.scan.Scanned.TheVariants.{Going, Stopped}
use Rattle.mir_lex.specs.declared.faults.LexFault.{LexFault}
use Rattle.mir_lex.specs.Scanner.{start, step_as, scan_step, scan}
use Rattle.mir_lex.proofs.Runs.{stopped_run}

-- a fault at a byte of the text is the fault of the scan of all of it
pub stops_early : (text : List ℕ) (count : ℕ) (state : Scan) (bad : LexFault) → count < length text → Going state ≡ scan text (take count text) → Stopped bad ≡ step_as text state (get_or text count 0) state.pending
    → Stopped bad ≡ scan text text
stops_early text count state bad short before stops =
    let prefix : List ℕ = take (count + 1) text in
    let rest : List ℕ = drop (count + 1) text in
    let longer : prefix ≡ take count text ++ get_or text count 0 ∷ [] = take_more text count 0 short in
    let there : Stopped bad ≡ scan text prefix =
    stops ∙ ap (λ (r : Scanned). scan_step text r (get_or text count 0)) before ∙ sym (fold-append (scan_step text) (Going start) (take count text) (get_or text count 0 ∷ [])) ∙ ap (scan text) (sym longer) in
    sym (ap (scan text) (sym (take-append-drop (count + 1) text)) ∙ fold-append (scan_step text) (Going start) prefix rest ∙ ap (λ (r : Scanned). fold (scan_step text) r rest) (sym there) ∙ stopped_run text bad rest)
