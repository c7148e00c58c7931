-- What a run returns: the report of the state that it comes to, or why there is none. Cited by contracts.
use Rattle.std.specs.Prelude.{◌≡◌, ◌≢◌, ℕ, ◌<◌, ◌≤◌, List, length, ℤ, Result, Ok, Err}
pub use Rattle.mir_base.specs.Limits.{most_frames}
use Rattle.mir_base.specs.Shapes.{ProgramShape}
use Rattle.mir_base.specs.Runs.{Control, Running, Ended, Stopped, State, run, inputs_of}
use Rattle.mir_interp.specs.declared.report.Finish.{Finish}
use Rattle.mir_interp.specs.declared.report.Finish.TheVariants.{Running as GoesOn, Ended as EndedWith, Trapped}
use Rattle.mir_interp.specs.declared.report.Report.{Report}
use Rattle.mir_interp.specs.declared.report.RunFault.{RunFault}
use Rattle.mir_interp.specs.declared.report.RunFault.TheVariants.{WrongInputs, Deep, Memory}

-- how a run stands
abbrev pub finish_of : Control → Finish
finish_of (Running unit frame callers) = GoesOn
finish_of (Ended result) = EndedWith result
finish_of (Stopped kind) = Trapped kind

-- the report of a state
abbrev pub report_of : State → Report
report_of
    state = record {
      lines = state.printed;
      finish = finish_of state.control;
      evals = state.counted;
    }

-- what may be answered for so many steps: the number of inputs is judged first, and running out of memory is free
abbrev pub IsRunAnswer : ProgramShape → List ℤ → ℕ → Result Report RunFault → Type 0
IsRunAnswer program inputs steps (Ok report) =
    (length inputs ≡ inputs_of program) × ((run program inputs steps).depth ≤ most_frames)
    × (report ≡ report_of (run program inputs steps))
IsRunAnswer program inputs steps (Err (WrongInputs wanted)) = (wanted ≡ inputs_of program)
    × (length inputs ≢ wanted)
IsRunAnswer program inputs steps (Err Deep) = (length inputs ≡ inputs_of program)
    × (most_frames < (run program inputs steps).depth)
IsRunAnswer program inputs steps (Err (Memory refusal)) = length inputs ≡ inputs_of program
