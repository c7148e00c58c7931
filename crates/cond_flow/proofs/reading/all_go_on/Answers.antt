use Rattle.std.proofs.Common.{inl, inr, ◌≡◌, ◌∙◌, true, sym, ap, slice_get, slice_index_or, arith}
use Rattle.std.proofs.lemmas.Bool.{cases_lt}
use Rattle.std.proofs.lemmas.Option.{get_or_from_slice_get, slice_get_within}
use Rattle.cond_flow.specs.Reading.{goes_on}
use Rattle.cond_flow.proofs.RaisingLaws.{some_same}
use Rattle.cond_flow.proofs.Steps.{chain_at}
use Rattle.cond_flow.proofs.reading.all_go_on.Goals as goal

pub node-requires : goal.node-requires
node-requires c = chain_at c.args.graph.now.nodes c.args.list.now c.loop-i.i c.requires (omega (arith, c.loop-i-test.true))

pub loop-i-preserved : goal.loop-i-preserved
loop-i-preserved c = λ j n node low at is.
    let graph = c.args.graph.now in
    elim (cases_lt j c.loop-i.i) as (λ _. goes_on node ≡ true) [
      | inl lt ↦ c.loop-i.invariant j n node lt at is
      | inr ge ↦
          let same : c.loop-i.i ≡ j = omega (arith, low, ge) in
          let here : slice_index_or c.args.list.now c.loop-i.i 0 ≡ n =
          get_or_from_slice_get c.args.list.now c.loop-i.i n 0 (ap (slice_get c.args.list.now) same ∙ at) in
          let node_is : c.node.result.now ≡ node = some_same _ _ (sym c.node.ensures ∙ ap (slice_get graph.nodes) here ∙ is) in
          ap goes_on (sym node_is) ∙ sym c.goes_on.ensures ∙ c.if-not-goes_on.false
    ]

pub returns : goal.returns
returns c = λ on. record {
  each = λ j n node at is.
      let within = slice_get_within c.args.list.now j n at in
      c.loop-i.invariant j n node (omega (arith, within, c.loop-i-test.false, c.loop-i.auto.i-end)) at is;
}
