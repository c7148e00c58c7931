use Rattle.std.proofs.Common.{subst}
use Rattle.mir_base.specs.Shapes.{IsProgram, ProgramShape}
use Rattle.mir_sim.proofs.Heights.{few_frames}
use Rattle.mir_sim.proofs.has_few_frames.Goals as goal

pub returns : goal.returns
returns c = few_frames c.args.program.now (subst (λ (p : ProgramShape). IsProgram p.globals p.units) c.program.view_is c.program.invariant) c.requires
