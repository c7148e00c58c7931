use Rattle.std.proofs.Common.{subst}
use Rattle.mir_base.specs.Shapes.{IsProgram, ProgramShape}
use Rattle.mir_sim.proofs.Lifts.{follows}
use Rattle.mir_sim.proofs.follow.Goals as goal

pub returns : goal.returns
returns c = follows c.args.first.now c.args.second.now (subst (λ (p : ProgramShape). IsProgram p.globals p.units) c.first.view_is c.first.invariant) c.requires.shared c.requires.units
