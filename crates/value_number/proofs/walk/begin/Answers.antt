use Rattle.std.proofs.Common.{◌∙◌, sym, subst}
use Rattle.value_number.specs.TermWalks.{AreRoots, VisitRoots}
use Rattle.value_number.proofs.Unvisited.{none_visited}
use Rattle.value_number.proofs.TermWalks.{begins}
use Rattle.value_number.proofs.walk.begin.Goals as goal

pub returns-clause-walks : goal.returns-clause-walks
returns-clause-walks c =
    let graph = c.args.graph.now in
    let walk = c.in_ok-walk.walk in
    let e = c.in_ok-walk.ensures in
    let are = subst (AreRoots graph.nodes) (sym e.listed) c.in_ok-listed.ensures in
    let visits = subst (VisitRoots walk.listed.items) (sym e.steps) (subst (λ l. VisitRoots l c.in_ok-steps.steps.items) (c.as_slice.ensures.value ∙ sym e.listed) c.in_ok-steps.ensures) in
    begins graph walk.table walk.numbers walk.holders.items walk.listed.items walk.steps.items e.numbers e.holders e.table are visits

pub returns-clause-unvisited : goal.returns-clause-unvisited
returns-clause-unvisited c =
    let walk = c.in_ok-walk.walk in
    let e = c.in_ok-walk.ensures in
    let visits = subst (VisitRoots walk.listed.items) (sym e.steps) (subst (λ l. VisitRoots l c.in_ok-steps.steps.items) (c.as_slice.ensures.value ∙ sym e.listed) c.in_ok-steps.ensures) in
    none_visited walk.listed.items walk.steps.items visits
