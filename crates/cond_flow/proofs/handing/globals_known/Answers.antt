use Rattle.std.proofs.Common.{◌≡◌, ◌∙◌, ◌+◌, [], ◌∷◌, ◌++◌, map, slice_index_or, sym, ap, arith}
use Rattle.std.proofs.lemmas.List.{map-append}
use Rattle.std.specs.List.{range_with_len}
use Rattle.cond_flow.specs.Rules.{known_at}
use Rattle.cond_flow.proofs.TransferLaws.{range_more}
use Rattle.cond_flow.proofs.handing.globals_known.Goals as goal

pub loop-x-preserved : goal.loop-x-preserved
loop-x-preserved g c =
    let x = c.loop-x.x in
    let f = known_at g.K.Knowledge.rules c.args.known.now in
    let last : range_with_len 0 (x + 1) ≡ range_with_len 0 x ++ x ∷ [] = range_more 0 x ∙ ap (λ k. range_with_len 0 x ++ k ∷ []) (omega arith) in
    c.in_ok-push.ensures.items
    ∙ ap (λ k. c.loop-x.list.items ++ k ∷ []) (c.get.ensures ∙ ap (λ d. slice_index_or c.args.known.now x d) c.top.ensures)
    ∙ ap (λ l. l ++ f x ∷ []) c.loop-x.invariant
    ∙ sym (map-append f (range_with_len 0 x) (x ∷ []))
    ∙ sym (ap (map f) last)
