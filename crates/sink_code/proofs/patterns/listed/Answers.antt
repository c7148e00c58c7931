use Rattle.std.proofs.Common.{◌++◌, ◌∷◌, [], take, ap, sym, ◌∙◌}
use Rattle.std.proofs.lemmas.List.{take_more}
use Rattle.std.proofs.lemmas.Option.{get_or_from_slice_get, slice_get_within}
use Rattle.sink_code.specs.declared.patterns.Pattern.{Pattern}
use Rattle.sink_code.proofs.patterns.listed.Goals as goal

pub loop-number-preserved : goal.loop-number-preserved
loop-number-preserved c =
    let table = c.args.table.now in
    let i = c.loop-number.number in
    let pattern : Pattern = c.get.result.now in
    c.in_ok-push.ensures.items
    ∙ ap (λ ps. ps ++ pattern ∷ []) c.loop-number.invariant
    ∙ sym (take_more table i pattern (slice_get_within table i pattern c.get.ensures) ∙ ap (λ p. take i table ++ p ∷ []) (get_or_from_slice_get table i pattern pattern c.get.ensures))
