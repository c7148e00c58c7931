use Rattle.std.proofs.Common.{◌≡◌, ◌∙◌, true, sym, subst}
use Rattle.mir_base.specs.contracts.instructions.RhsPartialEq.TheImpl.{ghosts}
use Rattle.key_table.specs.SameValues.{right_side_self, same_right_sides}
use Rattle.unit_equal.proofs.units.same_rhs.Goals as goal

pub returns : goal.returns
returns c = (
  λ same. same_right_sides c.args.a.now c.args.b.now (sym c.eq.ensures ∙ same),
  λ is. c.eq.ensures ∙ subst (λ r. ghosts.eq c.args.a.now r ≡ true) is (right_side_self c.args.a.now),
)
