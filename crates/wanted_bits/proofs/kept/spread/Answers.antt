use Rattle.std.proofs.Common.{◌≡◌, ◌∙◌, ◌<◌, ◌≤◌, ◌+◌, suc, [], length, slice_set, sym, ap, subst, arith}
use Rattle.std.proofs.lemmas.List.{get_or_default}
use Rattle.node_list.specs.Lists.{list_at}
use Rattle.flow_graph.specs.FlowEdges.{edge_at}
use Rattle.flow_graph.specs.NumberTables.{number_at}
use Rattle.wanted_bits.specs.KeptRows.{RaisesBelow, SpreadFrom}
use Rattle.wanted_bits.proofs.KeptBelow.{spread_more, spread_none}
use Rattle.wanted_bits.proofs.kept.spread.Goals as goal

pub loop-number-init : goal.loop-number-init
loop-number-init c = spread_none c.args.prepared.now c.args.block c.args.room.now c.args.rows.now.items c.requires.long

pub loop-number-preserved : goal.loop-number-preserved
loop-number-preserved c =
    let prepared = c.args.prepared.now in
    let edges = prepared.crossed.between.edges.items in
    let firsts = prepared.crossed.between.firsts.items in
    let e = c.loop-number.number in
    let rows = c.loop-number.rows.items in
    let old = c.args.rows.now.items in
    let from : c.index-number.result.now ≡ number_at firsts c.args.block = c.index-number.ensures ∙ get_or_default firsts c.args.block _ 0 (omega (arith, c.requires.edges.first)) in
    let to : c.index-number-end.result.now ≡ number_at firsts (suc c.args.block) = c.index-number-end.ensures ∙ get_or_default firsts (c.args.block + 1) _ 0 (omega (arith, c.requires.edges.first)) ∙ ap (number_at firsts) (let next : c.args.block + 1 ≡ suc c.args.block = omega arith in next) in
    let low : number_at firsts c.args.block ≤ e = omega (arith, from, c.loop-number.auto.number) in
    let high : e < number_at firsts (suc c.args.block) = omega (arith, to, c.loop-number-test.true, c.loop-number.auto.number-end) in
    let e_in : e < length edges = omega (arith, high, c.requires.edges.last) in
    let edge : edge_at edges e ≡ c.index.result.now = get_or_default edges e _ c.index.result.now e_in ∙ sym c.index.ensures in
    let target : (edge_at edges e).target ≡ c.index.result.now.target = ap (λ x. x.target) edge in
    let t_in : (edge_at edges e).target < length rows = omega (arith, c.requires.edges.target e e_in, c.loop-number.invariant.long) in
    let row_is : c.index_mut.result.now ≡ list_at rows (edge_at edges e).target = c.index_mut.ensures.value ∙ get_or_default rows c.index.result.now.target _ [] (omega (arith, t_in, target)) ∙ ap (λ t. list_at rows t) (sym target) in
    subst (λ t. SpreadFrom prepared c.args.block c.args.room.now old (slice_set rows t c.raise.new.row)) target
    (spread_more prepared c.args.block c.args.room.now old rows e c.raise.new.row c.requires.edges e_in (c.requires.edges.source e low high) c.loop-number.invariant
    (subst (λ l. RaisesBelow c.args.room.now l c.raise.new.row) row_is c.raise.ensures))
