use Rattle.std.proofs.Common.{◌≡◌, ◌∙◌, ◌+◌, ◌<◌, ℕ, List, [], ◌∷◌, ◌++◌, length, slice_get, Some, sym, ap, arith}
use Rattle.std.proofs.lemmas.List.{length-replicate}
use Rattle.std.proofs.lemmas.Option.{same_Some, slice_get-get_or}
use Rattle.flow_graph.specs.Graphs.{GraphShape}
use Rattle.bounds.specs.declared.facts.Fact.TheVariants.{Never}
use Rattle.cond_flow.specs.States.{Unreached}
use Rattle.program_bounds.proofs.Rows.{map_more, never_itself}
use Rattle.program_bounds.proofs.starting.never_entries.Goals as goal

pub none-requires : goal.none-requires
none-requires c = never_itself (c.shared.result + length c.received.result.now) c.as_slice.result.now (c.as_slice.ensures.value ∙ c.in_ok-never.ensures)

pub loop-unit-preserved : goal.loop-unit-preserved
loop-unit-preserved c =
    let graphs = c.args.graphs.now.items in
    let u = c.loop-unit.unit in
    let g = c.index.result.now in
    let h = c.index-in-loop-unit.result.now in
    let lt : u < length graphs = omega (arith, c.loop-unit-test.true, c.len-unit-end.ensures) in
    let at : slice_get graphs u ≡ Some g = slice_get-get_or graphs u g lt ∙ ap Some (sym c.index.ensures) in
    let at' : slice_get graphs u ≡ Some h = slice_get-get_or graphs u h lt ∙ ap Some (sym c.index-in-loop-unit.ensures) in
    let same : h ≡ g = same_Some h g (sym at' ∙ at) in
    let received : length c.received.result.now ≡ length g.received = ap (λ (l : List ℕ). length l) (c.received.ensures ∙ ap (λ (k : GraphShape). k.received) same) in
    let count : c.shared.result + length c.received.result.now ≡ g.shared + length g.received = omega (arith, c.shared.ensures.value, received) in
    let long : length c.as_slice.result.now ≡ g.shared + length g.received = ap (λ l. length l) (c.as_slice.ensures.value ∙ c.in_ok-never.ensures) ∙ length-replicate (c.shared.result + length c.received.result.now) Never ∙ count in
    c.in_ok-push.ensures.items
    ∙ ap (λ k. c.loop-unit.entries.items ++ k ∷ []) (c.in_ok-none.ensures ∙ ap (λ n. Unreached n) long)
    ∙ ap (λ l. l ++ Unreached (g.shared + length g.received) ∷ []) c.loop-unit.invariant
    ∙ sym (map_more (λ (k : GraphShape). Unreached (k.shared + length k.received)) graphs u g at)
