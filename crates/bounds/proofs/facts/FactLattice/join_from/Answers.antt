use Rattle.std.proofs.Common.{subst, sym}
use Rattle.fix_solve.specs.Order.{IsLeastUpper}
use Rattle.bounds.specs.Facts.{BelowFact}
use Rattle.bounds.specs.FactLaws.{fact_joins}
use Rattle.bounds.proofs.facts.FactLattice.join_from.Goals as goal

pub returns-else-are_same-clause-joined : goal.returns-else-are_same-clause-joined
returns-else-are_same-clause-joined c =
    subst (IsLeastUpper BelowFact c.args.self.now c.args.other.now) (sym c.joined_fact-met.ensures)
    (fact_joins c.args.self.now c.args.other.now)
