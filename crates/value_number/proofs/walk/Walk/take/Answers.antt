use Rattle.std.proofs.Common.{◌++◌, ◌∷◌, [], None, subst}
use Rattle.value_number.specs.TermWalks.{IsUnderWay}
use Rattle.value_number.proofs.Unvisited.{restore_leaves}
use Rattle.value_number.proofs.TermWalks.{restore_walks}
use Rattle.value_number.proofs.Weights.{restore_light}
use Rattle.value_number.proofs.walk.Walk.take.Goals as goal

pub set-requires : goal.set-requires
set-requires c =
    let walk = c.args.self.now in
    (restore_walks c.args.graph.now walk.table walk.numbers walk.listed.items walk.steps.items walk.holders.items c.in-Restore.variable c.in-Restore.number
    (subst (λ s. IsUnderWay c.args.graph.now walk.table walk.numbers walk.listed.items (walk.steps.items ++ s ∷ []) walk.holders.items None) c.in-Restore.is c.requires.walks)).0

pub returns-in_ok-set-in-Restore-clause-walks : goal.returns-in_ok-set-in-Restore-clause-walks
returns-in_ok-set-in-Restore-clause-walks c =
    let walk = c.args.self.now in
    let graph = c.args.graph.now in
    rw c.in_ok-set-in-Restore.ensures
    (restore_walks graph walk.table walk.numbers walk.listed.items walk.steps.items walk.holders.items c.in-Restore.variable c.in-Restore.number
    (subst (λ s. IsUnderWay graph walk.table walk.numbers walk.listed.items (walk.steps.items ++ s ∷ []) walk.holders.items None) c.in-Restore.is c.requires.walks)).1

pub returns-in_ok-set-in-Restore-clause-lighter : goal.returns-in_ok-set-in-Restore-clause-lighter
returns-in_ok-set-in-Restore-clause-lighter c =
    let walk = c.args.self.now in
    rw c.in-Restore.is (restore_light c.args.graph.now.shared c.in-Restore.variable c.in-Restore.number walk.listed.items walk.steps.items)

pub returns-in_ok-set-in-Restore-clause-unvisited : goal.returns-in_ok-set-in-Restore-clause-unvisited
returns-in_ok-set-in-Restore-clause-unvisited c =
    let walk = c.args.self.now in
    rw c.in-Restore.is (restore_leaves c.in-Restore.variable c.in-Restore.number walk.listed.items walk.steps.items)

pub returns-in-Visit-clause-unvisited : goal.returns-in-Visit-clause-unvisited
returns-in-Visit-clause-unvisited c = rw c.in-Visit.is c.visit.ensures.unvisited
