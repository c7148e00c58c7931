-- What is due for the words and a text: a refusal with its status and line, or an output with its status. Cited by
-- contracts.
use Rattle.std.specs.Prelude.{ℕ, ◌≡◌, ◌≢◌, ◌<◌, ◌≤◌, List, length, Some, None}
use Rattle.mir_base.specs.Limits.{most_bytes, most_frames, most_units}
use Rattle.mir_base.specs.Shapes.{ProgramShape}
use Rattle.mir_base.specs.Runs.{run, inputs_of}
use Rattle.mir_interp.specs.declared.report.Finish.{Finish}
use Rattle.mir_interp.specs.declared.report.Finish.TheVariants.{Running, Ended, Trapped}
use Rattle.mir_parse.specs.declared.faults.TextFault.{TextFault}
use Rattle.mir_parse.specs.Spells.{IsTextRefusal}
use Rattle.mir_sim.specs.Calls.{CallsHigher}
use Rattle.mir_trial.specs.Trial.{trial_program}
use Rattle.mir_valid.specs.declared.faults.ValidFault.{ValidFault}
use Rattle.mir_top.specs.declared.command.Command.{Command}
use Rattle.mir_top.specs.declared.command.Command.TheVariants.{Optimise, Stages, Move, Ranges, Divisions, Tails, Join, Thorough, Passes, Run, Trial}
use Rattle.mir_top.specs.Commands.{command_of, inputs_in, Reads}
use Rattle.mir_top.specs.Complaints.{Complaint, usage, wrong_inputs, too_long, deep, of_text, of_program}
use Rattle.mir_top.specs.Outputs.{Runs, reported}
use Rattle.mir_top.specs.Texts.{IsInvalid}
pub use Rattle.mir_top.specs.Texts.{IsShortTextOf}

-- the program that a command works on: that of the text, and for `trial` the one that its numbers draw
abbrev pub WorksOn : Command → List ℕ → ProgramShape → Type 0
WorksOn Optimise text program = IsShortTextOf text program
WorksOn Stages text program = IsShortTextOf text program
WorksOn Move text program = IsShortTextOf text program
WorksOn Ranges text program = IsShortTextOf text program
WorksOn Divisions text program = IsShortTextOf text program
WorksOn Tails text program = IsShortTextOf text program
WorksOn Join text program = IsShortTextOf text program
WorksOn Thorough text program = IsShortTextOf text program
WorksOn Passes text program = IsShortTextOf text program
WorksOn (Run steps) text program = IsShortTextOf text program
WorksOn (Trial number units) text program = program ≡ trial_program number units

-- the program takes the inputs of a trial, and no run of it has too many frames: each unit calls units
-- of higher numbers alone, and there are at most 256
pub record CanBeTried (program : ProgramShape) : Type 0 where
  pub inputs : inputs_of program ≡ 2
  pub higher : CallsHigher program
  pub few : length program.units ≤ most_units

-- what a command needs of the program that it works on
abbrev pub Needs : Command → ProgramShape → Type 0
Needs Optimise program = Unit {0}
Needs Stages program = Unit {0}
Needs Move program = Unit {0}
Needs Ranges program = Unit {0}
Needs Divisions program = Unit {0}
Needs Tails program = Unit {0}
Needs Join program = Unit {0}
Needs Thorough program = Unit {0}
Needs Passes program = Unit {0}
Needs (Run steps) program = Unit {0}
Needs (Trial number units) program = CanBeTried program

-- why a text is of no program: it is too long, it spells no raw program, or one that is not valid
pub data IsRefused (text : List ℕ) : Complaint → Type 0 where
  long : most_bytes < length text → IsRefused text too_long
  unreadable : (fault : TextFault) → length text ≤ most_bytes → IsTextRefusal text fault
      → IsRefused text (of_text fault)
  invalid : (fault : ValidFault) → length text ≤ most_bytes → IsInvalid text fault
      → IsRefused text (of_program fault)

-- no output is due, but a complaint
pub data Refuses (words : List (List ℕ)) (text : List ℕ) : Complaint → Type 0 where
  no_command : command_of words ≡ None → Refuses words text usage
  no_text : (complaint : Complaint) → Reads words → IsRefused text complaint
      → Refuses words text complaint
  wrong_number : (steps : ℕ) (program : ProgramShape) → command_of words ≡ Some (Run steps)
      → WorksOn (Run steps) text program → length (inputs_in words) ≢ inputs_of program
      → Refuses words text (wrong_inputs (inputs_of program))
  too_deep : (steps : ℕ) (program : ProgramShape) → command_of words ≡ Some (Run steps)
      → WorksOn (Run steps) text program → length (inputs_in words) ≡ inputs_of program
      → most_frames < (run program (inputs_in words) steps).depth
      → Refuses words text deep

-- the status of a run that stands like this
abbrev pub status_of_finish : Finish → ℕ
status_of_finish (Ended result) = 0
status_of_finish (Trapped kind) = 3
status_of_finish Running = 4

-- an output is due, with this status
pub data Completes (words : List (List ℕ)) (text : List ℕ) : ℕ → Type 0 where
  of_optimise : (program : ProgramShape) → command_of words ≡ Some Optimise
      → WorksOn Optimise text program → Completes words text 0
  of_stages : (program : ProgramShape) → command_of words ≡ Some Stages
      → WorksOn Stages text program → Completes words text 0
  of_move : (program : ProgramShape) → command_of words ≡ Some Move
      → WorksOn Move text program → Completes words text 0
  of_ranges : (program : ProgramShape) → command_of words ≡ Some Ranges
      → WorksOn Ranges text program → Completes words text 0
  of_divisions : (program : ProgramShape) → command_of words ≡ Some Divisions
      → WorksOn Divisions text program → Completes words text 0
  of_tails : (program : ProgramShape) → command_of words ≡ Some Tails
      → WorksOn Tails text program → Completes words text 0
  of_join : (program : ProgramShape) → command_of words ≡ Some Join
      → WorksOn Join text program → Completes words text 0
  of_thorough : (program : ProgramShape) → command_of words ≡ Some Thorough
      → WorksOn Thorough text program → Completes words text 0
  of_passes : (program : ProgramShape) → command_of words ≡ Some Passes
      → WorksOn Passes text program → Completes words text 0
  of_run : (steps : ℕ) (program : ProgramShape) → command_of words ≡ Some (Run steps)
      → WorksOn (Run steps) text program → Runs program (inputs_in words) steps
      → Completes words text (status_of_finish (reported program (inputs_in words) steps).finish)
  of_trial : (number units : ℕ) → command_of words ≡ Some (Trial number units)
      → Completes words text 0
