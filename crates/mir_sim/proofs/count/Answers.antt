use Rattle.std.proofs.Common.{subst}
use Rattle.mir_base.specs.Shapes.{IsProgram, ProgramShape}
use Rattle.mir_sim.proofs.Lifts.{lifts_cheap}
use Rattle.mir_sim.proofs.count.Goals as goal

pub returns : goal.returns
returns c = lifts_cheap c.args.first.now c.args.second.now (subst (λ (p : ProgramShape). IsProgram p.globals p.units) c.first.view_is c.first.invariant) c.requires.units
