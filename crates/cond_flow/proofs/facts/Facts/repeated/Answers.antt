use Rattle.std.proofs.Common.{◌∙◌, replicate, ap, to_z, of_z, to_z-of_z, w64}
use Rattle.cond_flow.proofs.facts.Facts.repeated.Goals as goal

pub returns : goal.returns
returns g c =
    let d = g.K.Coded.decoded in
    let n = c.args.count in
    c.in_ok-facts.ensures ∙ ap (λ k. replicate n (d k (to_z w64 (of_z w64 c.number.result)))) c.kind.ensures ∙ ap (λ v. replicate n (d (g.K.Coded.kind_of c.args.k) v)) (to_z-of_z {w = w64} (record { sfits = c.number.type_inv }) ∙ c.number.ensures)
    ∙ ap (replicate n) (g.met.K.Coded.stands c.args.k)
