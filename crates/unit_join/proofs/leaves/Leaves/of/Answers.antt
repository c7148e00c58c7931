use Rattle.std.proofs.Common.{sym, subst}
use Rattle.unit_join.specs.JoinPrograms.{AreLeavesMade}
use Rattle.unit_join.specs.JoinProgramLaws.{leaves_of}
use Rattle.unit_join.specs.Joins.{AreLeavesOf}
use Rattle.unit_join.proofs.leaves.Leaves.of.Goals as goal

pub returns-clause-leaves : goal.returns-clause-leaves
returns-clause-leaves c = subst (AreLeavesOf c.args.program.now.units) (sym c.of.ensures) (leaves_of c.args.program.now.units c.in_ok-units.units.items c.in_ok-units.ensures)

pub returns-clause-made : goal.returns-clause-made
returns-clause-made c = subst (AreLeavesMade c.args.program.now.units) (sym c.of.ensures) c.in_ok-units.ensures
