-- Tokens behind the first bad one change nothing.
use Rattle.std.proofs.Common.{◌≡◌, ℕ, ◌+◌, List, [], ◌∷◌, ◌++◌, Some, take, drop, sym, ◌∙◌, ap, take-append-drop}
use Rattle.std.proofs.lemmas.List.{take_more}
use Rattle.std.proofs.lemmas.Option.{slice_get_within, get_or_from_slice_get}
use Rattle.std.specs.List.{fold, slice_get}
use Rattle.std.proofs.lemmas.List.Sums.{fold-append}
use Rattle.mir_lex.specs.declared.terminals.Terminal.{Terminal}
use Rattle.mir_parse.specs.declared.so_far.ReadSoFar.{ReadSoFar}
use Rattle.mir_parse.specs.declared.so_far.ReadSoFar.TheVariants.{Outside, Stopped}
use Rattle.mir_parse.specs.RawParts.{globals_alone}
use Rattle.mir_parse.specs.Reader.{read_step, reads}
use Rattle.mir_parse.proofs.Exact.{stopped_run}

-- where the reader stops, its state is the one after all tokens too
pub stopped_early : (ts : List Terminal) (count : ℕ) (state : ReadSoFar) (line : ℕ) → state ≡ reads (take count ts) → state ≡ Stopped line → Stopped line ≡ reads ts
stopped_early ts count state line is stopped =
    sym (ap reads (sym (take-append-drop count ts)) ∙ fold-append read_step (Outside (globals_alone [])) (take count ts) (drop count ts) ∙ ap (λ (s : ReadSoFar). fold read_step s (drop count ts)) (sym is ∙ stopped)
    ∙ stopped_run line (drop count ts))

-- one more token
pub read_more : (ts : List Terminal) (count : ℕ) (state next : ReadSoFar) (terminal : Terminal) → state ≡ reads (take count ts) → slice_get ts count ≡ Some terminal → next ≡ read_step state terminal → next ≡ reads (take (count + 1) ts)
read_more ts count state next terminal before found is =
    let longer : take (count + 1) ts ≡ take count ts ++ terminal ∷ [] =
    take_more ts count terminal (slice_get_within ts count terminal found) ∙ ap (λ (t : Terminal). take count ts ++ t ∷ []) (get_or_from_slice_get ts count terminal terminal found) in
    is ∙ ap (λ (s : ReadSoFar). read_step s terminal) before ∙ sym (fold-append read_step (Outside (globals_alone [])) (take count ts) (terminal ∷ [])) ∙ ap reads (sym longer)
