use Rattle.path_laws.specs.OrderLaws.{or_joins}
use Rattle.path_laws.proofs.bits.BitsLattice.join_from.Goals as goal

pub returns-clause-joined : goal.returns-clause-joined
returns-clause-joined c = rw (c.or_from.ensures.or, c.view.ensures, c.self.view_is, c.other.view_is) (or_joins c.args.self.now c.args.other.now c.requires)
