use Rattle.std.proofs.Common.{inl, inr, ◌≡◌, ◌∙◌, ap, subst, slice_get, slice_index_or, arith}
use Rattle.std.proofs.lemmas.Bool.{cases_lt}
use Rattle.std.proofs.lemmas.Option.{get_or_from_slice_get}
use Rattle.cond_flow.specs.Reading.{IsApart}
use Rattle.cond_flow.proofs.RaisingLaws.{among_at}
use Rattle.cond_flow.proofs.reading.are_apart.Goals as goal

pub loop-i-preserved : goal.loop-i-preserved
loop-i-preserved c = λ j k low at.
    let graph = c.args.graph.now in
    elim (cases_lt j c.loop-i.i) as (λ _. IsApart graph.shared graph.nodes c.args.list.now k) [
      | inl lt ↦ c.loop-i.invariant j k lt at
      | inr ge ↦
          let same : c.loop-i.i ≡ j = omega (arith, low, ge) in
          let here : slice_index_or c.args.variables.now c.loop-i.i 0 ≡ k =
          get_or_from_slice_get c.args.variables.now c.loop-i.i k 0 (ap (slice_get c.args.variables.now) same ∙ at) in
          subst (IsApart graph.shared graph.nodes c.args.list.now) here (c.is_apart.ensures c.if-not-is_apart.false)
    ]

pub returns : goal.returns
returns c = λ on. record {
  each = λ k is.
      let place = among_at c.args.variables.now k is in
      c.loop-i.invariant place.0 k (omega (arith, place.1, c.loop-i-test.false, c.loop-i.auto.i-end)) place.2;
}
