-- Laws: each program keeps its own runs, and what keeps the runs of a program that keeps those of a third keeps those of
-- the third. For proofs only.
use Rattle.mir_base.specs.Shapes.{ProgramShape}
use Rattle.mir_base.specs.UnitRuns.{machine_at}
use Rattle.mir_sim.specs.MachineLaws.{keep_refl, keep_trans, programs_cheaper, programs_same, programs_shallower}
use Rattle.mir_sim.specs.Machines.{MachinesKeep}
use Rattle.program_pass.specs.HeadLaws.{heads_refl, heads_trans}
use Rattle.program_pass.specs.PassPrograms.{KeepsHeads, KeepsRuns}

-- of programs and of the machines of their units the same is said of runs
of_machines : (first second : ProgramShape) → MachinesKeep (machine_at first) (machine_at second) → KeepsHeads first second → KeepsRuns first second
of_machines first second keep heads = record {
  same = programs_same first second keep;
  cheaper = programs_cheaper first second keep;
  shallower = programs_shallower first second keep;
  heads = heads;
}

-- and the other way round
as_machines : (first second : ProgramShape) → KeepsRuns first second → MachinesKeep (machine_at first) (machine_at second)
as_machines first second keep = record {
  same = record {
    inputs = keep.same.inputs;
    forth = record { follows = λ inputs are n. keep.same.forth.follows inputs are.long are.numbers n };
    back = record { follows = λ inputs are n. keep.same.back.follows inputs are.long are.numbers n };
  };
  cheaper = record { cheaper = λ inputs are n m v w ends ends'. keep.cheaper.cheaper inputs are.long are.numbers n m v w ends ends' };
  shallower = record { shallower = λ inputs are n. keep.shallower.shallower inputs are.long are.numbers n };
}

-- a program keeps its own runs
pub keeps_refl : (program : ProgramShape) → KeepsRuns program program
keeps_refl program = of_machines program program (keep_refl (machine_at program)) (heads_refl program)

-- through a program in between
pub keeps_trans : (first second third : ProgramShape) → KeepsRuns first second → KeepsRuns second third → KeepsRuns first third
keeps_trans first second third one two =
    of_machines first third (keep_trans (machine_at first) (machine_at second) (machine_at third) (as_machines first second one) (as_machines second third two)) (heads_trans first second third one.heads two.heads)
