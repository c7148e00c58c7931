use Rattle.std.proofs.Common.{◌≡◌, ◌∙◌, ◌++◌, length, take, drop, replicate, sym, ap, to_z-of_z}
use Rattle.std.proofs.lemmas.List.{take_at}
use Rattle.cond_flow.specs.FactLists.{decoded_each}
use Rattle.cond_flow.proofs.FactLaws.{length_facts, facts_alike}
use Rattle.cond_flow.proofs.facts.Facts.fill_code.Goals as goal

pub returns : goal.returns
returns g c =
    let i = c.self.inside in
    let d = g.K.Coded.decoded in
    let n = length i.kinds.items in
    let k = c.args.kind in
    let v = c.args.number in
    let ks = c.fill.new.self in
    let ns = c.fill-2.new.self in
    let k_is : ks ≡ replicate n k = c.fill.ensures.after (λ y e. e) ∙ ap (λ l. replicate (length l) k) c.as_mut_slice.ensures.value in
    let n_is : ns ≡ replicate n v = c.fill-2.ensures.after (λ y e. e) ∙ ap (replicate (length c.as_mut_slice-2.result.now)) (to_z-of_z c.ranges.number) ∙ ap (λ l. replicate (length l) v) c.as_mut_slice-2.ensures.value ∙ ap (λ j. replicate j v) c.self.invariant in
    ap (λ l. decoded_each d l (take (length i.numbers.items) (ns ++ drop (length ns) i.numbers.items))) (take_at ks (drop (length ks) i.kinds.items) (length i.kinds.items) (c.fill.ensures.len ∙ ap length c.as_mut_slice.ensures.value))
    ∙ ap (decoded_each d ks) (take_at ns (drop (length ns) i.numbers.items) (length i.numbers.items) (c.fill-2.ensures.len ∙ ap length c.as_mut_slice-2.ensures.value))
    ∙ ap (λ l. decoded_each d l ns) k_is ∙ ap (decoded_each d (replicate n k)) n_is ∙ facts_alike d n k v
    ∙ ap (λ m. replicate m (d k v)) (sym (length_facts d i.kinds.items i.numbers.items c.self.invariant) ∙ ap length c.self.view_is)
