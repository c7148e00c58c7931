-- What `top` promises of every call. Cited by contracts.
use Rattle.std.specs.Prelude.{ℕ, ◌≡◌, ◌+◌, ◌<◌, ◌≤◌, ◌↔◌, ◌⊎◌, Option, List, [], ◌∷◌, length, Some, None, IsSome, IfSome, Contains}
use Rattle.std.specs.Io.KnownBytes.{IsAtEnd}
use Rattle.mir_base.specs.Limits.{most_bytes}
use Rattle.mir_base.specs.Shapes.{ProgramShape}
use Rattle.mir_opt.specs.declared.trails.Trail.{Trail}
use Rattle.mir_opt.specs.declared.trails.MoveTrail.{MoveTrail}
use Rattle.mir_outside.specs.Transfer.{TakesAtMost}
use Rattle.mir_trial.specs.Trial.{trial_program}
use Rattle.mir_top.specs.declared.command.Command.{Command}
use Rattle.mir_top.specs.declared.command.Command.TheVariants.{Optimise, Stages, Move, Ranges, Divisions, Tails, Join, Thorough, Passes, Run, Trial}
use Rattle.mir_top.specs.declared.outcome.Outcome.{Outcome}
use Rattle.mir_top.specs.Calls.{Call, reply_of, MakesOutput, IsDone, IsCutShort}
use Rattle.mir_top.specs.Commands.{command_of, inputs_in, Asks, Reads}
use Rattle.mir_top.specs.Complaints.{Complaint, read_fault, write_fault, out_of_memory}
use Rattle.mir_top.specs.Due.{IsShortTextOf, Refuses, Completes, status_of_finish}
use Rattle.mir_top.specs.Outputs.{ChainsThrough, Divides, EvaluatesNoMore, GoesOn, JoinsUnits, LoopsTails, Optimises, MovesCode, Runs, TurnsThrough, reported, report_text, trail_summary, IsOnlyOutput}
use Rattle.mir_top.specs.PassWords.{passes_in}
use Rattle.mir_top.specs.RangeTexts.{ShowsRanges}
use Rattle.mir_top.specs.StageTexts.{ShowsStages}
use Rattle.mir_top.specs.Texts.{IsWritten}
use Rattle.mir_top.specs.Streams.{Stream, StartsWith, Untouched, HasFailed, Took, TookAll, Gave, Tried}

-- ---- what was read

-- the source was read to its end, and what was read is the text of this program
pub record HasRead (source : Stream) (program : ProgramShape) : Type 0 where
  pub text : List ℕ
  pub read : TookAll source text
  pub within : IsShortTextOf text program

-- these bytes were taken: the whole text, or more than a text may have
pub record HasSeen (source : Stream) (text : List ℕ) : Type 0 where
  pub taken : Took source text
  pub enough : IsAtEnd source.new ⊎ (most_bytes < length text)

-- where the words ask for a text, the source has this one, and its bytes can be observed
abbrev pub HasText : Call → List ℕ → Type 0
HasText call text = Reads call.words → call.source.old ≡ Some text

-- ---- what was written

-- what was made is the one output that the words ask of the program that was read
abbrev pub IsOnlyMade : (call : Call) (outcome : Outcome) (output : List ℕ)
    → MakesOutput call.words call.source outcome output → Type 0
IsOnlyMade call outcome output made =
    IsOnlyOutput call.words made.program made.command output

-- the one output that the words ask was made and written, and the reply is that of this outcome
pub record HasMade (call : Call) : Type 0 where
  pub outcome : Outcome
  pub done : IsDone call.words call.source call.out outcome
  pub only : IsOnlyMade call outcome done.output done.made
  pub reply : call.reply ≡ reply_of outcome

-- the one output that the words ask was made and a write of it failed, so that a proper prefix of it was written
pub record HasCutShort (call : Call) : Type 0 where
  pub cut : IsCutShort call.words call.source call.out
  pub only : IsOnlyMade call cut.outcome cut.output cut.made

-- a text of this program was written, whole and nothing else; within the limits it is read as this program alone
pub record GaveProgram (stream : Stream) (program : ProgramShape) : Type 0 where
  pub text : List ℕ
  pub is : IsWritten program text
  pub gave : Gave stream text

-- the source was read, the target improves it, and its text was written
pub record HasImproved
    (call : Call) (Improved : Type 0) (source target : ProgramShape) : Type 0 where
  pub read : HasRead call.source source
  pub improves : Improved
  pub written : GaveProgram call.out target

-- the same of source and target of the trail of all passes
abbrev pub HasOptimised : Call → Trail → Type 0
HasOptimised call trail = HasImproved call (Optimises trail) trail.source trail.target

-- the source was read, the trail of all passes improves it, and the texts of all stages of this trail were written
pub record HasShown (call : Call) (trail : Trail) : Type 0 where
  pub text : List ℕ
  pub read : HasRead call.source trail.source
  pub improves : Optimises trail
  pub shows : ShowsStages trail text
  pub written : Gave call.out text

-- the source was read, the target of the trail of code motion alone improves it, and its text was written
abbrev pub HasMoved : Call → MoveTrail → Type 0
HasMoved call trail = HasImproved call (MovesCode trail) trail.source trail.target

-- the source was read, the trail of code motion alone improves it, and the text that says where its temporaries are
-- held was written
pub record HasRanged (call : Call) (trail : MoveTrail) : Type 0 where
  pub text : List ℕ
  pub read : HasRead call.source trail.source
  pub improves : MovesCode trail
  pub shows : ShowsRanges trail.units text
  pub written : Gave call.out text

-- the source was read, the target of the trail of the motion of divisions alone improves it, and its text was written
abbrev pub HasDivided : Call → MoveTrail → Type 0
HasDivided call trail = HasImproved call (Divides trail) trail.source trail.target

-- the program that was read was rewritten like this, and the text of the target was written
pub record HasRewritten (call : Call) (Gives : ProgramShape → ProgramShape → Type 0) : Type 0 where
  pub source : ProgramShape
  pub target : ProgramShape
  pub read : HasRead call.source source
  pub gives : Gives source target
  pub written : GaveProgram call.out target

-- the report of the run of the program that was read was written, and the status is that of its end; a report of more
-- steps would go on from this one
pub record HasRun (call : Call) (steps : ℕ) : Type 0 where
  pub program : ProgramShape
  pub read : HasRead call.source program
  pub runs : Runs program (inputs_in call.words) steps
  pub status : call.reply.status
      ≡ status_of_finish (reported program (inputs_in call.words) steps).finish
  pub written : Gave call.out (report_text (reported program (inputs_in call.words) steps))
  pub goes_on : (more : ℕ) → GoesOn (reported program (inputs_in call.words) steps)
      (reported program (inputs_in call.words) (steps + more))

-- the summary of the trail of this program was written, whole and nothing else; where both runs end, that of the target
-- has evaluated no more operators
pub record HasTried (call : Call) (program : ProgramShape) : Type 0 where
  pub trail : Trail
  pub source : trail.source ≡ program
  pub improves : Optimises trail
  pub no_more : EvaluatesNoMore trail
  pub written : Gave call.out (trail_summary trail)

-- ---- what was refused

-- the line of the complaint was written, whole unless the error output failed
abbrev pub LineIsWritten : Call → Complaint → Type 0
LineIsWritten call complaint = Tried call.err complaint.line

-- what was read is refused with this status, and the line of the refusal was written
pub record HasRefused (call : Call) : Type 0 where
  pub text : List ℕ
  pub complaint : Complaint
  pub read : Reads call.words → HasSeen call.source text
  pub refuses : Refuses call.words text complaint
  pub status : call.reply.status ≡ complaint.status
  pub written : LineIsWritten call complaint

-- the call ends by this complaint, unless a read fails or memory runs out
pub record EndsBy (call : Call) (complaint : Complaint) : Type 0 where
  pub status : Contains (complaint.status ∷ 6 ∷ 8 ∷ []) call.reply.status
  pub written : call.reply.status ≡ complaint.status → LineIsWritten call complaint

-- ---- the promises

-- the status of the reply is this one
abbrev pub StatusIs : Call → ℕ → Type 0
StatusIs call status = call.reply.status ≡ status

-- the status of the reply is one of these
abbrev pub StatusIn : Call → List ℕ → Type 0
StatusIn call statuses = Contains statuses call.reply.status

-- the words are those of this command
abbrev pub Asked : Call → Command → Type 0
Asked call command = command_of call.words ≡ Some command

-- all that holds of a call, whatever its words, source and sinks
pub record Promises (call : Call) : Type 0 where
  -- At most one byte more than a text may have is read, and nothing where no text is asked for.
  pub most : TakesAtMost call.source.old call.source.new (most_bytes + 1)
  pub unread : ¬ Reads call.words → Untouched call.source
  -- With the statuses 0, 3 and 4 the one output that the words ask was made, and written, whole and
  -- nothing else.
  pub made : StatusIn call (0 ∷ 3 ∷ 4 ∷ []) → HasMade call
  -- A trail comes exactly with status 0 under `optimise` and `stages`, a move trail so under
  -- `move`, `ranges` and
  -- `divisions`.
  pub trail : IsSome call.reply.trail
      ↔ (StatusIs call 0 × (Asked call Optimise ⊎ Asked call Stages))
  pub optimised : Asked call Optimise → IfSome call.reply.trail (HasOptimised call)
  pub stages : Asked call Stages → IfSome call.reply.trail (HasShown call)
  pub moved : IsSome call.reply.moved
      ↔ (StatusIs call 0 × (Asked call Move ⊎ (Asked call Ranges ⊎ Asked call Divisions)))
  pub moves : Asked call Move → IfSome call.reply.moved (HasMoved call)
  pub ranges : Asked call Ranges → IfSome call.reply.moved (HasRanged call)
  pub divisions : Asked call Divisions → IfSome call.reply.moved (HasDivided call)
  -- Under `tails`, `join`, `thorough` and `passes` status 0 says that the program was rewritten,
  -- and the text of what
  -- came of it was written.
  pub tails : Asked call Tails → StatusIs call 0 → HasRewritten call LoopsTails
  pub joins : Asked call Join → StatusIs call 0 → HasRewritten call JoinsUnits
  pub turns : Asked call Thorough → StatusIs call 0 → HasRewritten call TurnsThrough
  pub chains : Asked call Passes → StatusIs call 0
      → HasRewritten call (ChainsThrough (passes_in call.words))
  -- Under `run` the statuses 0, 3 and 4 say how the run stands; 3 and 4 come under `run` alone.
  pub reports : (steps : ℕ) → Asked call (Run steps) → StatusIn call (0 ∷ 3 ∷ 4 ∷ [])
      → HasRun call steps
  pub of_run : StatusIn call (3 ∷ 4 ∷ []) → (steps : ℕ) × Asked call (Run steps)
  -- Under `trial` status 0 says that the program of its numbers was tried; else the output failed
  -- or memory ran out. So
  -- no run of a trial is ever too deep.
  pub tries : (number units : ℕ) → Asked call (Trial number units) → StatusIs call 0
      → HasTried call (trial_program number units)
  pub of_trial : (number units : ℕ) → Asked call (Trial number units)
      → StatusIn call (0 ∷ 7 ∷ 8 ∷ [])
  -- Status 1, 2 and 5 come only where the words, the text, the inputs or the run are refused, with
  -- the line of this
  -- refusal. Where a refusal is due it comes, unless reading fails or memory runs out; wrong words
  -- need neither a read
  -- nor memory.
  pub refused : StatusIn call (1 ∷ 2 ∷ 5 ∷ []) → HasRefused call
  pub refuses : (text : List ℕ) (complaint : Complaint) → HasText call text
      → Refuses call.words text complaint → EndsBy call complaint
  pub usage : command_of call.words ≡ None → StatusIs call 1
  -- Status 6 and 7 come only where a device failed: the count of its faults rose, or is saturated.
  -- With 7 a proper
  -- prefix of the one output that the words ask was written. Status 8 comes under a command alone.
  pub read_fault : StatusIs call 6
      → Reads call.words × HasFailed call.source × LineIsWritten call read_fault
  pub write_fault : StatusIs call 7 → HasCutShort call × LineIsWritten call write_fault
  pub memory : StatusIs call 8 → Asks call.words × LineIsWritten call out_of_memory
  -- Nothing is written to `out` with 1, 2, 5, 6 and 8, and nothing to `err` with 0, 3 and 4.
  pub silent : StatusIn call (1 ∷ 2 ∷ 5 ∷ 6 ∷ 8 ∷ []) → Untouched call.out
  pub quiet : StatusIn call (0 ∷ 3 ∷ 4 ∷ []) → Untouched call.err
  pub statuses : call.reply.status ≤ 8
  -- Where an output is due, it comes with its status, unless a device fails or memory runs out.
  pub complete : (text : List ℕ) (status : ℕ) → HasText call text
      → Completes call.words text status → StatusIn call (status ∷ 6 ∷ 7 ∷ 8 ∷ [])

-- a call with these words, of which all this holds, ended with this status; its source and its two outputs began with
-- these bytes, as far as they can be observed, and without a fault
pub record IsStatusOfCall
    (words : List (List ℕ)) (source out err : Option (List ℕ)) (status : ℕ) : Type 0 where
  pub call : Call
  pub words_are : call.words ≡ words
  pub source_starts : StartsWith call.source source
  pub out_starts : StartsWith call.out out
  pub err_starts : StartsWith call.err err
  pub promises : Promises call
  pub status_is : StatusIs call status
