use Rattle.std.proofs.Common.{◌≡◌, ◌∙◌, ℕ, ◌+◌, List, [], ◌∷◌, ◌++◌, map, sym, ap}
use Rattle.std.proofs.lemmas.List.{map-append}
use Rattle.std.specs.List.{range_with_len}
use Rattle.wanted_bits.proofs.Asking.{range_push}
use Rattle.program_wanted.specs.Hastening.{kept_at}
use Rattle.program_wanted.proofs.hastening.kept_globals.Goals as goal

pub loop-x-preserved : goal.loop-x-preserved
loop-x-preserved c =
    let x = c.loop-x.x in
    let f = kept_at c.args.asks.now in
    let last : range_with_len 0 (x + 1) ≡ range_with_len 0 x ++ x ∷ [] = range_push x in
    c.in_ok-push.ensures
    ∙ ap (λ (k : ℕ). c.loop-x.widths ++ k ∷ []) c.kept_at.ensures.value
    ∙ ap (λ (l : List ℕ). l ++ f x ∷ []) c.loop-x.invariant
    ∙ sym (map-append f (range_with_len 0 x) (x ∷ []))
    ∙ sym (ap (map f) last)
