use Rattle.std.proofs.Common.{◌≡◌, subst, slice_get, Some, arith}
use Rattle.std.proofs.lemmas.Grind.{common_steps}
use Rattle.std.proofs.lemmas.Option.{gets}
use Rattle.mir_base.specs.Shapes.{ProgramShape, SharesGlobals}
use Rattle.mir_base.proofs.programs.Program.unit.Goals as goal

pub returns-clause-shares : goal.returns-clause-shares
returns-clause-shares c =
    let e : slice_get c.self.inside.units c.args.number ≡ Some c.index-items-number.result = grind (arith, common_steps, gets) in
    let s = c.self.invariant.shares c.args.number c.index-items-number.result e in
    subst (λ (p : ProgramShape). SharesGlobals p.globals c.index-items-number.result) c.self.view_is s
