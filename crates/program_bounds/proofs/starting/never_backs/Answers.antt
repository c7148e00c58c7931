use Rattle.std.proofs.Common.{◌≡◌, ◌∙◌, ◌+◌, ◌<◌, suc, [], ◌∷◌, ◌++◌, length, replicate, slice_get, Some, sym, ap, arith}
use Rattle.std.proofs.lemmas.Option.{slice_get-get_or}
use Rattle.flow_graph.specs.Graphs.{GraphShape}
use Rattle.bounds.specs.declared.facts.Fact.TheVariants.{Never}
use Rattle.program_bounds.proofs.Rows.{map_more}
use Rattle.program_bounds.proofs.starting.never_backs.Goals as goal

pub loop-unit-preserved : goal.loop-unit-preserved
loop-unit-preserved c =
    let graphs = c.args.graphs.now.items in
    let u = c.loop-unit.unit in
    let g = c.index.result.now in
    let lt : u < length graphs = omega (arith, c.loop-unit-test.true, c.len-unit-end.ensures) in
    let at : slice_get graphs u ≡ Some g = slice_get-get_or graphs u g lt ∙ ap Some (sym c.index.ensures) in
    let count : c.shared.result + 1 ≡ suc g.shared = omega (arith, c.shared.ensures.value) in
    c.in_ok-push.ensures.items
    ∙ ap (λ k. c.loop-unit.backs.items ++ k ∷ []) (c.in_ok-of_list.ensures ∙ c.as_slice.ensures.value ∙ c.in_ok-never.ensures ∙ ap (λ n. replicate n Never) count)
    ∙ ap (λ l. l ++ replicate (suc g.shared) Never ∷ []) c.loop-unit.invariant
    ∙ sym (map_more (λ (h : GraphShape). replicate (suc h.shared) Never) graphs u g at)
