use Rattle.std.proofs.Common.{◌++◌, ◌∷◌, [], None, subst}
use Rattle.value_number.specs.NodeTerms.{AreTermsBefore}
use Rattle.value_number.specs.TermWalks.{IsUnderWay}
use Rattle.value_number.proofs.TermWalks.{known_at}
use Rattle.value_number.proofs.walk.Walk.stop_at.Goals as goal

pub returns-then-node-n-clause-terms : goal.returns-then-node-n-clause-terms
returns-then-node-n-clause-terms c =
    let walk = c.args.self.now in
    let graph = c.args.graph.now in
    subst (λ n. AreTermsBefore graph n c.in-Visit.root walk.table walk.numbers) c.if-node-n.true
    (known_at walk.steps.items c.in-Visit.root (subst (λ s. IsUnderWay graph walk.table walk.numbers walk.listed.items (walk.steps.items ++ s ∷ []) walk.holders.items None) c.in-Visit.is c.requires))
