use Rattle.std.proofs.Common.{◌≡◌, ◌≤◌, length}
use Rattle.mir_base.specs.Runs.{codes_of, steps, first_state}
use Rattle.mir_interp.specs.declared.report.Finish.TheVariants.{Running}
use Rattle.mir_interp.specs.RunsSoFar.{state_of, IsRunSoFar}
use Rattle.mir_interp.proofs.runs.run.Given as goal

abbrev pub invariant-loop : goal.invariant-loop
invariant-loop l = record {
  state : steps (codes_of l.program) l.counter (first_state (length l.program.globals) l.inputs) ≡ state_of l.so_far Running;
  fits : IsRunSoFar l.program l.so_far;
  few : l.so_far.counted ≤ l.counter;
}
