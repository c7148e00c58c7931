use Rattle.std.proofs.Common.{◌∙◌, length, slice_index_or, sym, ap}
use Rattle.cond_flow.specs.FactLists.{decoded_each}
use Rattle.cond_flow.proofs.facts.Facts.get.Goals as goal

pub fact_at-requires : goal.fact_at-requires
fact_at-requires g c = ap length c.as_slice-2.ensures ∙ c.self.invariant ∙ sym (ap length c.as_slice.ensures)

pub returns : goal.returns
returns g c =
    let i = c.self.inside in
    let d = g.K.Coded.decoded in
    c.fact_at.ensures ∙ ap (λ l. slice_index_or (decoded_each d l c.as_slice-2.result.now) c.args.x c.args.otherwise) c.as_slice.ensures
    ∙ ap (λ l. slice_index_or (decoded_each d i.kinds.items l) c.args.x c.args.otherwise) c.as_slice-2.ensures
    ∙ ap (λ s. slice_index_or s c.args.x c.args.otherwise) c.self.view_is
