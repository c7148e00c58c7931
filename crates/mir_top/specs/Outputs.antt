-- What each command makes of the program that it works on. Cited by contracts.
use Rattle.std.specs.Prelude.{ℕ, zero, suc, ℤ, pos, ◌≡◌, ◌≢◌, ◌<◌, ◌≤◌, List, [], ◌∷◌, All, length, sum_by, ◌++◌, codes, decimal, flat_map}
use Rattle.std.specs.declared.alloc.AllocError.{AllocError}
use Rattle.std.specs.Fmt.{signed_decimal}
use Rattle.mir_base.specs.declared.operators.Trap.TheVariants.{ZeroDivisor, Raised}
use Rattle.mir_base.specs.Limits.{most_frames, most_steps}
use Rattle.mir_base.specs.Shapes.{ProgramShape}
use Rattle.mir_base.specs.Runs.{IsPrefix, State, run, inputs_of}
use Rattle.mir_interp.specs.declared.report.Finish.{Finish}
use Rattle.mir_interp.specs.declared.report.Finish.TheVariants.{Running, Ended, Trapped}
use Rattle.mir_interp.specs.declared.report.Report.{Report}
use Rattle.mir_interp.specs.declared.report.RunFault.{RunFault}
use Rattle.mir_interp.specs.declared.report.RunFault.TheVariants.{WrongInputs, Deep, Memory}
use Rattle.mir_interp.specs.Reports.{report_of}
use Rattle.mir_opt.specs.declared.trails.Trail.{Trail}
use Rattle.mir_opt.specs.declared.trails.MoveTrail.{MoveTrail}
use Rattle.div_move.specs.MustCome.{MustComeTo}
use Rattle.motion_rewrite.specs.Placements.{IsAnticipatable}
use Rattle.mir_opt.specs.Links.{IsDivisionLinked, IsLinked, IsMoveLinked, IsOnlyDivisionTrail, IsOnlyMoveTrail, IsOnlyTrail}
use Rattle.mir_opt.specs.Best.{DivisionsAreBest, MotionIsBest, MovesBest, RoundsAreBest, SinksNoMore}
use Rattle.mir_opt.specs.Divisions.{DivisionsReachTarget, DivisionsStay, MotionKeepsDivisions}
use Rattle.mir_opt.specs.Stages.{KeepsProgram}
use Rattle.pass_chain.specs.declared.passes.Pass.{Pass}
use Rattle.pass_chain.specs.Passes.{IsChained}
use Rattle.program_pass.specs.PassPrograms.{IsPassedProgram, Rewrites, heads_of}
use Rattle.program_turns.specs.Turns.{IsThorough, turn}
use Rattle.tail_loop.specs.Tails.{Tailed as IsTailed}
use Rattle.unit_join.specs.JoinPrograms.{IsJoinedProgram}
use Rattle.mir_top.specs.Commands.{inputs_in}
use Rattle.mir_top.specs.PassWords.{passes_in}
use Rattle.mir_top.specs.RangeTexts.{UnitHoldsLeast, ShowsRanges}
use Rattle.mir_top.specs.StageTexts.{ShowsStages}
use Rattle.mir_top.specs.Texts.{IsWritten}
use Rattle.mir_top.specs.declared.command.Command.{Command}
use Rattle.mir_top.specs.declared.command.Command.TheVariants.{Optimise, Stages, Move, Ranges, Divisions, Tails, Join, Thorough, Passes, Run, Trial}
use Rattle.mir_top.specs.declared.making.Made.{Made}
use Rattle.mir_top.specs.declared.outcome.Outcome.{Outcome}
use Rattle.mir_top.specs.declared.outcome.Outcome.TheVariants.{Optimised, Shown, Moved, Ranged, Divided, Rewritten, Ran, Compared}

-- ---- trails

-- from a program to its target: each part between them is the exact result of its pass, and no
-- other parts are; the target does what the program does, whole and unit by unit, evaluates no more
-- operators over whole runs that end, never has more frames, and calls no other units; it has the
-- globals of the program, and its units have their names and as many receives; and what the passes
-- reach is the best
pub record Improves
    (Linked Only Best : Type 0) (source target : ProgramShape) : Type 0 where
  pub linked : Linked
  pub only : Only
  pub keeps : KeepsProgram source target
  pub globals : target.globals ≡ source.globals
  pub heads : heads_of target ≡ heads_of source
  pub best : Best

-- what all passes reach: in each unit the code motion is the best; sinking leaves no more of any plain or movable
-- assignment on any full path, each round no more than any single step, and the last no more than any list of steps where
-- the rounds come to rest; and each division stays
pub record ReachesBest (trail : Trail) : Type 0 where
  pub moves : All MovesBest trail.units
  pub sinks : All SinksNoMore trail.units
  pub rounds : All RoundsAreBest trail.units
  pub divisions : DivisionsReachTarget trail
  pub stay : All DivisionsStay trail.units

-- the trail of all passes has an improved target
abbrev pub Optimises : Trail → Type 0
Optimises trail =
    Improves (IsLinked trail) (IsOnlyTrail trail.source trail) (ReachesBest trail)
    trail.source trail.target

-- and so has the trail of code motion alone, whose placements also hold their temporaries least, and which keeps each
-- division with its operands
pub record MovesCode (trail : MoveTrail) : Type 0 where
  pub improves : Improves (IsMoveLinked trail) (IsOnlyMoveTrail trail.source trail)
      (All MotionIsBest trail.units) trail.source trail.target
  pub least : All (UnitHoldsLeast IsAnticipatable) trail.units
  pub divisions : MotionKeepsDivisions trail

-- and so has that of the motion of divisions alone, which hold them least too
pub record Divides (trail : MoveTrail) : Type 0 where
  pub improves : Improves (IsDivisionLinked trail) (IsOnlyDivisionTrail trail.source trail)
      (All DivisionsAreBest trail.units) trail.source trail.target
  pub least : All (UnitHoldsLeast MustComeTo) trail.units

-- ---- programs whose calls are rewritten

-- with self tail calls as loops
abbrev pub LoopsTails : ProgramShape → ProgramShape → Type 0
LoopsTails = Rewrites (IsPassedProgram IsTailed)

-- with its leaves joined into their callers
abbrev pub JoinsUnits : ProgramShape → ProgramShape → Type 0
JoinsUnits = Rewrites IsJoinedProgram

-- so many turns lead from the source to the target, each of which changed the program
abbrev pub AreTurns : ℕ → ProgramShape → ProgramShape → Type 0
AreTurns zero source target = target ≡ source
AreTurns (suc count) source target =
    (next : ProgramShape) × IsChained turn source next × (next ≢ source)
    × AreTurns count next target

-- the target is what at most so many turns lead to, each of which changed the program; where fewer do, one turn more
-- changes nothing
pub record ComesToRest (most : ℕ) (source target : ProgramShape) : Type 0 where
  pub count : ℕ
  pub turns : AreTurns count source target
  pub few : count ≤ most
  pub rests : count < most → IsChained turn target target

-- through turns of passes, until a turn changes nothing or sixteen were made
pub record TurnsThrough (source target : ProgramShape) : Type 0 where
  pub rewrites : Rewrites IsThorough source target
  pub at_rest : ComesToRest 16 source target

-- through these passes one after another, from the first to the last: each makes its exact result of what the one before
-- made
abbrev pub ChainsThrough : List Pass → ProgramShape → ProgramShape → Type 0
ChainsThrough passes = Rewrites (IsChained passes)

-- ---- reports

-- a number on a line of its own
abbrev pub number_line : ℤ → List ℕ
number_line number = signed_decimal number ++ codes "\n"

-- the line that says how a run stands
abbrev pub finish_text : Finish → List ℕ
finish_text Running = codes "running\n"
finish_text (Ended result) = codes "result " ++ number_line result
finish_text (Trapped ZeroDivisor) = codes "trapped zero divisor\n"
finish_text (Trapped (Raised number)) = codes "trapped " ++ number_line (pos number)

-- the printed numbers, one a line, then how the run stands, then its evaluations
abbrev pub report_text : Report → List ℕ
report_text report =
    flat_map number_line report.lines ++ finish_text report.finish
    ++ codes "evals " ++ decimal report.evals ++ codes "\n"

-- the report of the run of so many steps
abbrev pub reported : ProgramShape → List ℤ → ℕ → Report
reported program inputs steps = report_of (run program inputs steps)

-- a report of more steps goes on from one of fewer: it begins with its lines, and where the run was over it is the same
pub record GoesOn (report later : Report) : Type 0 where
  pub lines : IsPrefix report.lines later.lines
  pub over : report.finish ≢ Running → later ≡ report

-- the inputs are as many as the program receives, and the run stays within the most frames
pub record Runs (program : ProgramShape) (inputs : List ℤ) (steps : ℕ) : Type 0 where
  pub enough : length inputs ≡ inputs_of program
  pub shallow : (run program inputs steps).depth ≤ most_frames

-- ---- trials

-- the inputs of the runs of a trial
abbrev pub trial_inputs : List ℤ
trial_inputs = pos 3 ∷ pos 5 ∷ []

-- the run of a program in a trial: with these inputs, and as many steps as a run may be asked for
unfoldable pub trial_run : ProgramShape → State
trial_run program = run program trial_inputs most_steps

-- the lengths of all bodies, added up
abbrev pub instructions_in : ProgramShape → ℕ
instructions_in program = sum_by (λ unit. length unit.body) program.units

-- a number behind a text, on a line of its own
abbrev pub count_line : List ℕ → ℕ → List ℕ
count_line what count = what ++ decimal count ++ codes "\n"

-- the instructions of both programs, the evaluations of both runs, and how many numbers the run of the source printed
abbrev pub summary_text : ProgramShape → ProgramShape → Report → Report → List ℕ
summary_text source target before after =
    count_line (codes "source instructions ") (instructions_in source)
    ++ count_line (codes "result instructions ") (instructions_in target)
    ++ count_line (codes "source evals ") before.evals
    ++ count_line (codes "result evals ") after.evals
    ++ count_line (codes "printed ") (length before.lines)

-- the summary of a trail, with the trial's runs of its source and of its target
abbrev pub trail_summary : Trail → List ℕ
trail_summary trail =
    summary_text trail.source trail.target
    (report_of (trial_run trail.source)) (report_of (trial_run trail.target))

-- where the trial's runs of both end, that of the target has evaluated no more operators
abbrev pub EvaluatesNoMore : Trail → Type 0
EvaluatesNoMore trail = (one other : ℤ)
    → (report_of (trial_run trail.source)).finish ≡ Ended one
    → (report_of (trial_run trail.target)).finish ≡ Ended other
    → (report_of (trial_run trail.target)).evals ≤ (report_of (trial_run trail.source)).evals

-- the output is the summary of the trail of the program
pub record IsSummary (program : ProgramShape) (output : List ℕ) : Type 0 where
  pub trail : Trail
  pub source : trail.source ≡ program
  pub optimises : Optimises trail
  pub no_more : EvaluatesNoMore trail
  pub output_is : output ≡ trail_summary trail

-- ---- by command

-- the outcome and the output are those of a trail of the program, which has reached this, and of which this is shown
pub record ShowsTrail {T : Type 0} (source_of : T → ProgramShape) (Reached : T → Type 0)
    (Shows : T → List ℕ → Type 0)
    (outcome_of : T → Outcome) (program : ProgramShape) (outcome : Outcome)
    (output : List ℕ) : Type 0 where
  pub trail : T
  pub source : source_of trail ≡ program
  pub reached : Reached trail
  pub shows : Shows trail output
  pub outcome_is : outcome ≡ outcome_of trail

-- they are those of the text of a program that is made of this one
pub record WritesTarget (Gives : ProgramShape → ProgramShape → Type 0)
    (program : ProgramShape) (outcome : Outcome) (output : List ℕ) : Type 0 where
  pub target : ProgramShape
  pub gives : Gives program target
  pub written : IsWritten target output
  pub outcome_is : outcome ≡ Rewritten

-- they are those of the report of a run
pub record WritesReport (program : ProgramShape) (inputs : List ℤ) (steps : ℕ)
    (outcome : Outcome) (output : List ℕ) : Type 0 where
  pub runs : Runs program inputs steps
  pub outcome_is : outcome ≡ Ran (reported program inputs steps).finish
  pub output_is : output ≡ report_text (reported program inputs steps)

-- they are those of a trial
pub record WritesSummary (program : ProgramShape) (outcome : Outcome)
    (output : List ℕ) : Type 0 where
  pub summary : IsSummary program output
  pub outcome_is : outcome ≡ Compared

-- the same of a trail of all passes
abbrev pub ShowsPasses :
    (Trail → List ℕ → Type 0) → (Trail → Outcome) → ProgramShape → Outcome → List ℕ → Type 0
ShowsPasses = ShowsTrail {T = Trail} (λ trail. trail.source) Optimises

-- and of a trail of motion alone
abbrev pub ShowsMotion : (MoveTrail → Type 0) → (MoveTrail → List ℕ → Type 0)
    → (MoveTrail → Outcome)
    → ProgramShape → Outcome → List ℕ → Type 0
ShowsMotion = ShowsTrail {T = MoveTrail} (λ trail. trail.source)

-- the command of these words makes this of the program, with this output: the words give the inputs of a run and the
-- passes of a chain
abbrev pub Makes : List (List ℕ) → ProgramShape → Command → Outcome → List ℕ → Type 0
Makes words program Optimise = ShowsPasses (λ trail. IsWritten trail.target) Optimised program
Makes words program Stages = ShowsPasses ShowsStages Shown program
Makes words program Move = ShowsMotion MovesCode (λ trail. IsWritten trail.target) Moved program
Makes words program Ranges = ShowsMotion MovesCode (λ trail. ShowsRanges trail.units) Ranged program
Makes words program Divisions =
    ShowsMotion Divides (λ trail. IsWritten trail.target) Divided program
Makes words program Tails = WritesTarget LoopsTails program
Makes words program Join = WritesTarget JoinsUnits program
Makes words program Thorough = WritesTarget TurnsThrough program
Makes words program Passes = WritesTarget (ChainsThrough (passes_in words)) program
Makes words program (Run steps) = WritesReport program (inputs_in words) steps
Makes words program (Trial number units) = WritesSummary program

-- the same of the outcome and the output together
abbrev pub IsMadeBy : List (List ℕ) → ProgramShape → Command → Made → Type 0
IsMadeBy words program command made =
    Makes words program command made.outcome made.output.items

-- a command whose output does not depend on the words behind its own makes this of the program
abbrev pub IsMadeAlone : ProgramShape → Command → Made → Type 0
IsMadeAlone = IsMadeBy []

-- memory ran out
abbrev pub IsWantOfMemory : RunFault → Type 0
IsWantOfMemory fault = (refusal : AllocError) × (fault ≡ Memory refusal)

-- the command of these words cannot make anything of the program, for this cause
pub data CannotMake (words : List (List ℕ))
    (program : ProgramShape) : Command → RunFault → Type 0 where
  too_few_or_many : (steps : ℕ) → length (inputs_in words) ≢ inputs_of program
      → CannotMake words program (Run steps) (WrongInputs (inputs_of program))
  too_many_frames : (steps : ℕ) → length (inputs_in words) ≡ inputs_of program
      → most_frames < (run program (inputs_in words) steps).depth
      → CannotMake words program (Run steps) Deep
  no_memory : (command : Command) (refusal : AllocError)
      → CannotMake words program command (Memory refusal)

-- the command of these words has no other output for the program
abbrev pub IsOnlyOutput : List (List ℕ) → ProgramShape → Command → List ℕ → Type 0
IsOnlyOutput words program command output =
    (outcome : Outcome) (other : List ℕ)
    → Makes words program command outcome other → output ≡ other
