use Rattle.std.proofs.Common.{◌≡◌, ◌∙◌, ap, replicate, to_z-of_z}
use Rattle.cond_flow.specs.FactLists.{decoded_each}
use Rattle.cond_flow.proofs.FactLaws.{facts_alike, filled_up}
use Rattle.cond_flow.proofs.facts.Facts.repeated_code.Goals as goal

pub returns : goal.returns
returns g c =
    let d = g.K.Coded.decoded in
    let n = c.args.count in
    let ks = c.resize.new.self.items in
    let ns = c.resize-2.new.self.items in
    let k_is : ks ≡ replicate n c.args.kind = filled_up n c.args.kind c.in_ok-kinds.kinds.items ks c.in_ok-kinds.ensures.items c.in_ok-resize.ensures.ok c.in_ok-resize.ensures.len in
    let n_is : ns ≡ replicate n c.args.number = filled_up n _ c.in_ok-numbers.numbers.items ns c.in_ok-numbers.ensures.items c.in_ok-resize-2.ensures.ok c.in_ok-resize-2.ensures.len ∙ ap (replicate n) (to_z-of_z c.ranges.number) in
    ap (λ l. decoded_each d l ns) k_is ∙ ap (decoded_each d (replicate n c.args.kind)) n_is ∙ facts_alike d n c.args.kind c.args.number
