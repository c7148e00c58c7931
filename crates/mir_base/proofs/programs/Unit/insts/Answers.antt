use Rattle.std.proofs.Common.{List, All, subst, sym, length}
use Rattle.mir_base.specs.declared.instructions.Inst.{Inst}
use Rattle.mir_base.specs.Shapes.{UnitShape, AllBelow, inst_vars}
use Rattle.mir_base.proofs.Tidy.{tidy_all_below}
use Rattle.mir_base.proofs.programs.Unit.insts.Goals as goal

pub returns-clause-below : goal.returns-clause-below
returns-clause-below c =
    let inside = tidy_all_below c.self.inside.shared c.self.inside.vars c.self.inside.body c.self.invariant in
    let named = subst (λ (unit : UnitShape). All (λ inst. AllBelow (length unit.vars) (inst_vars inst)) c.self.inside.body) c.self.view_is inside in
    subst (λ (insts : List Inst). All (λ inst. AllBelow (length c.args.self.now.vars) (inst_vars inst)) insts) (sym c.items.ensures) named
