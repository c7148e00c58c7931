use Rattle.std.proofs.Common.{◌≡◌, ◌∙◌, ◌++◌, length, length-set, take, drop, slice_set, sym, ap, to_z-of_z, w64}
use Rattle.std.proofs.lemmas.List.{take_at}
use Rattle.cond_flow.specs.FactLists.{decoded_each}
use Rattle.cond_flow.proofs.FactLaws.{facts_set}
use Rattle.cond_flow.proofs.facts.Facts.set.Goals as goal

pub put_code-requires : goal.put_code-requires
put_code-requires g c = ap length c.as_mut_slice-2.ensures.value ∙ c.self.invariant ∙ sym (ap length c.as_mut_slice.ensures.value)

pub returns : goal.returns
returns g c =
    let i = c.self.inside in
    let d = g.K.Coded.decoded in
    let x = c.args.x in
    let k = g.K.Coded.kind_of c.args.k in
    let v = g.K.Coded.number_of c.args.k in
    let ks = c.put_code.new.kinds in
    let ns = c.put_code.new.numbers in
    let k_is : ks ≡ slice_set i.kinds.items x k = c.put_code.ensures.kinds ∙ ap (slice_set c.as_mut_slice.result.now x) c.kind.ensures ∙ ap (λ l. slice_set l x k) c.as_mut_slice.ensures.value in
    let n_is : ns ≡ slice_set i.numbers.items x v = c.put_code.ensures.numbers ∙ ap (slice_set c.as_mut_slice-2.result.now x) (to_z-of_z {w = w64} (record { sfits = c.number.type_inv }) ∙ c.number.ensures) ∙ ap (λ l. slice_set l x v) c.as_mut_slice-2.ensures.value in
    ap (λ l. decoded_each d l (take (length i.numbers.items) (ns ++ drop (length ns) i.numbers.items))) (take_at ks (drop (length ks) i.kinds.items) (length i.kinds.items) (ap length k_is ∙ length-set i.kinds.items x k))
    ∙ ap (decoded_each d ks) (take_at ns (drop (length ns) i.numbers.items) (length i.numbers.items) (ap length n_is ∙ length-set i.numbers.items x v))
    ∙ ap (λ l. decoded_each d l ns) k_is ∙ ap (decoded_each d (slice_set i.kinds.items x k)) n_is
    ∙ facts_set d i.kinds.items i.numbers.items x k v c.self.invariant
    ∙ ap (λ s. slice_set s x (d k v)) c.self.view_is ∙ ap (slice_set c.args.self.now x) (g.met.K.Coded.stands c.args.k)
