use Rattle.std.proofs.Common.{◌≡◌, ap, subst, length, Some, slice_get, arith}
use Rattle.std.proofs.lemmas.Grind.{common_steps}
use Rattle.std.proofs.lemmas.Option.{gets}
use Rattle.mir_base.specs.Shapes.{AllBelow, inst_vars}
use Rattle.mir_base.proofs.Tidy.{tidy_below}
use Rattle.mir_base.proofs.programs.Unit.inst.Goals as goal

pub returns-in-Some-clause-below : goal.returns-in-Some-clause-below
returns-in-Some-clause-below c =
    let e : slice_get c.self.inside.body c.args.place ≡ Some c.in-Some.inst.now = grind (arith, common_steps, gets) in
    let t = tidy_below c.self.inside.shared c.self.inside.vars c.self.inside.body c.args.place c.in-Some.inst.now c.self.invariant e in
    subst (λ vars. AllBelow (length vars) (inst_vars c.in-Some.inst.now)) (ap (λ u. u.vars) c.self.view_is) t
