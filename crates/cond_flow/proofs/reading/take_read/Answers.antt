use Rattle.std.proofs.Common.{inl, inr, ◌≡◌, ◌∙◌, length, sym, ap, subst, slice_get, slice_index_or, arith}
use Rattle.std.proofs.lemmas.Bool.{cases_lt}
use Rattle.std.proofs.lemmas.Option.{get_or_from_slice_get, slice_get_within}
use Rattle.cond_flow.specs.Reading.{AgreeOnNode, taken_node}
use Rattle.cond_flow.proofs.RaisingLaws.{some_same}
use Rattle.cond_flow.proofs.Steps.{chain_at}
use Rattle.cond_flow.proofs.TakingLaws.{long_node, takes_more, takes_node}
use Rattle.cond_flow.proofs.reading.take_read.Goals as goal

pub node-requires : goal.node-requires
node-requires g c = chain_at c.args.graph.now.nodes c.args.list.now c.loop-i.i c.requires.chain (omega (arith, c.loop-i-test.true))

pub loop-i-preserved : goal.loop-i-preserved
loop-i-preserved g c =
    let r = g.K.Knowledge.rules in
    let graph = c.args.graph.now in
    let known = c.args.known.now in
    let into = c.loop-i.into in
    let made = c.take_node.new.into in
    let here = c.node.result.now in
    let made_is : made ≡ taken_node r here known into = c.take_node.ensures in
    let long : length known ≡ length into = c.requires.fits ∙ sym c.loop-i.invariant.long in
    record {
      long = ap length made_is ∙ long_node r here known into ∙ c.loop-i.invariant.long;
      alike = λ j n node low at is.
          elim (cases_lt j c.loop-i.i) as (λ _. AgreeOnNode r known made node) [
            | inl lt ↦
                subst (λ l. AgreeOnNode r known l node) (sym made_is)
                (takes_more r here node known into long (c.loop-i.invariant.alike j n node lt at is))
            | inr ge ↦
                let same : c.loop-i.i ≡ j = omega (arith, low, ge) in
                let there : slice_index_or c.args.list.now c.loop-i.i 0 ≡ n =
                get_or_from_slice_get c.args.list.now c.loop-i.i n 0 (ap (slice_get c.args.list.now) same ∙ at) in
                let node_is : here ≡ node = some_same _ _ (sym c.node.ensures ∙ ap (slice_get graph.nodes) there ∙ is) in
                subst (λ l. AgreeOnNode r known l node) (sym made_is)
                (subst (λ m. AgreeOnNode r known (taken_node r here known into) m) node_is (takes_node r here known into long))
          ];
    }

pub returns-clause-alike : goal.returns-clause-alike
returns-clause-alike g c = record {
  each = λ j n node at is.
      let within = slice_get_within c.args.list.now j n at in
      c.loop-i.invariant.alike j n node (omega (arith, within, c.loop-i-test.false, c.loop-i.auto.i-end)) at is;
}
