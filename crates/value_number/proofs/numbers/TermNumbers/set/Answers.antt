use Rattle.std.proofs.Common.{◌<◌, length, sym, subst}
use Rattle.value_number.proofs.Covers.{cover_lost}
use Rattle.value_number.proofs.numbers.TermNumbers.set.Goals as goal

pub invariant_of-self : goal.invariant_of-self
invariant_of-self c = cover_lost c.self.inside.numbers.items c.self.inside.table.items c.self.invariant c.args.x (subst (λ l. c.args.x < length l) (sym c.self.view_is) c.requires)
