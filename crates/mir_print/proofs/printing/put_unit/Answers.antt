use Rattle.std.proofs.Common.{subst, sym, ap, ◌∙◌}
use Rattle.mir_base.specs.Shapes.{UnitShape, BodyFits}
use Rattle.mir_print.proofs.Jumps.{all_within}
use Rattle.mir_print.proofs.printing.put_unit.Goals as goal

pub counts-requires : goal.counts-requires
counts-requires c = all_within c.args.units.now c.items-body.result.now (subst (BodyFits c.args.units.now) (ap (λ (unit : UnitShape). unit.body) (sym c.unit.view_is) ∙ sym c.items-body.ensures) c.requires)
