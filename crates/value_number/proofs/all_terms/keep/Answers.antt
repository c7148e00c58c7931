use Rattle.std.proofs.Common.{◌<◌, ◌++◌, ◌∷◌, ◌∙◌, [], None, refl, subst, sym}
use Rattle.value_number.specs.KeptTerms.{KeepsAt}
use Rattle.value_number.specs.TermWalks.{IsUnderWay}
use Rattle.value_number.proofs.TermWalks.{at_visit}
use Rattle.value_number.proofs.all_terms.keep.Goals as goal

pub put-requires : goal.put-requires
put-requires c =
    let walk = c.args.walk.now in
    let graph = c.args.graph.now in
    let walks = subst (λ s. IsUnderWay graph walk.table walk.numbers walk.listed.items (walk.steps.items ++ s ∷ []) walk.holders.items None) c.in-Visit.is c.requires.walks in
    subst (λ k. c.in-Visit.n < k) (sym c.requires.long) (at_visit walk.steps.items c.in-Visit.root walks)

pub returns-in_ok-numbers-in-Visit : goal.returns-in_ok-numbers-in-Visit
returns-in_ok-numbers-in-Visit c =
    let kept = c.in_ok-numbers-in-Visit in
    subst (λ s. KeepsAt s c.args.walk.now.numbers c.args.nodes.now.items c.put.new.nodes.items) (sym c.in-Visit.is)
    (record { root = c.in-Visit.root; numbers = kept.numbers }, refl, kept.ensures.items ∙ c.as_slice.ensures, c.put.ensures)
