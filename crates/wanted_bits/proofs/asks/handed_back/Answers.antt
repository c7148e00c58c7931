use Rattle.std.proofs.Common.{◌≡◌, ◌∙◌, ℕ, ◌+◌, List, [], ◌∷◌, ◌++◌, map, sym, ap}
use Rattle.std.proofs.lemmas.List.{map-append}
use Rattle.std.specs.List.{range_with_len}
use Rattle.wanted_bits.specs.Asks.{kept_bits}
use Rattle.wanted_bits.specs.Walking.{bits_at}
use Rattle.wanted_bits.proofs.Asking.{range_push}
use Rattle.wanted_bits.proofs.asks.handed_back.Goals as goal

pub loop-x-preserved : goal.loop-x-preserved
loop-x-preserved c =
    let x = c.loop-x.x in
    let f = kept_bits c.args.into (bits_at c.args.bits.now) in
    let last : range_with_len 0 (x + 1) ≡ range_with_len 0 x ++ x ∷ [] = range_push x in
    c.in_ok-push.ensures
    ∙ ap (λ (k : ℕ). c.loop-x.widths ++ k ∷ []) c.kept_bits.ensures.value
    ∙ ap (λ (l : List ℕ). l ++ f x ∷ []) c.loop-x.invariant
    ∙ sym (map-append f (range_with_len 0 x) (x ∷ []))
    ∙ sym (ap (map f) last)
