-- What a call did: an outcome that was written, or a cause and what happened then. Cited by contracts.
use Rattle.std.specs.Prelude.{ℕ, suc, ◌≡◌, ◌⊎◌, ◌≤◌, List, length, Option, None, Some}
use Rattle.mir_base.specs.Limits.{most_bytes}
use Rattle.mir_base.specs.Shapes.{ProgramShape}
use Rattle.mir_interp.specs.declared.report.RunFault.{RunFault}
use Rattle.mir_outside.specs.declared.transfer.ReadFault.{ReadFault}
use Rattle.mir_outside.specs.declared.transfer.ReadFault.TheVariants.{Failed as SourceFailed, TooLong, Memory as NoMemoryForText}
use Rattle.mir_parse.specs.declared.faults.TextFault.{TextFault}
use Rattle.mir_parse.specs.Spells.{IsTextRefusal, IsTextMemory}
use Rattle.mir_valid.specs.declared.faults.ValidFault.{ValidFault}
use Rattle.mir_valid.specs.Refusals.{IsValidMemory}
use Rattle.mir_top.specs.declared.reply.Reply.{Reply}
use Rattle.mir_top.specs.declared.cause.Cause.{Cause}
use Rattle.mir_top.specs.declared.cause.Cause.TheVariants.{Usage, Reading, Text, Program, Making}
use Rattle.mir_top.specs.declared.command.Command.{Command}
use Rattle.mir_top.specs.declared.ending.Ending.{Ending}
use Rattle.mir_top.specs.declared.ending.Ending.TheVariants.{Done, CutShort, Prevented}
use Rattle.mir_top.specs.declared.outcome.Outcome.{Outcome}
use Rattle.mir_top.specs.declared.outcome.Outcome.TheVariants.{Optimised, Shown, Moved, Ranged, Divided, Rewritten, Ran, Compared}
use Rattle.mir_top.specs.Commands.{command_of, Reads}
use Rattle.mir_top.specs.Complaints.{Complaint, complaint_of, write_fault}
use Rattle.mir_top.specs.Due.{WorksOn, status_of_finish}
use Rattle.mir_top.specs.Outputs.{Makes, CannotMake}
use Rattle.mir_top.specs.Streams.{Stream, Untouched, HasFailed, Took, TookAll, Gave, GavePart, Tried}
use Rattle.mir_top.specs.Texts.{IsInvalid}

-- the words of a call, what it did to its source and its outputs, and its reply
pub record Call : Type 0 where
  pub words : List (List ℕ)
  pub source : Stream
  pub out : Stream
  pub err : Stream
  pub reply : Reply

-- ---- outcomes

-- the reply where this was made and written
abbrev pub reply_of : Outcome → Reply
reply_of (Optimised trail) = record { status = 0; trail = Some trail; moved = None }
reply_of (Shown trail) = record { status = 0; trail = Some trail; moved = None }
reply_of (Moved trail) = record { status = 0; trail = None; moved = Some trail }
reply_of (Ranged trail) = record { status = 0; trail = None; moved = Some trail }
reply_of (Divided trail) = record { status = 0; trail = None; moved = Some trail }
reply_of Rewritten = record { status = 0; trail = None; moved = None }
reply_of (Ran finish) = record { status = status_of_finish finish; trail = None; moved = None }
reply_of Compared = record { status = 0; trail = None; moved = None }

-- the command that the words are works on this program; where it reads the text, this is what was read, to the end
pub record WorkedOn
    (words : List (List ℕ)) (source : Stream)
    (text : List ℕ) (command : Command) (program : ProgramShape) : Type 0 where
  pub asked : command_of words ≡ Some command
  pub read : Reads words → TookAll source text
  pub subject : WorksOn command text program

-- the command that the words are works on this program
abbrev pub IsSubject : List (List ℕ) → Stream → Command → ProgramShape → Type 0
IsSubject words source command program =
    (text : List ℕ) × WorkedOn words source text command program

-- the command that the words are made this of the program that it works on, with this output
pub record MakesOutput
    (words : List (List ℕ)) (source : Stream)
    (outcome : Outcome) (output : List ℕ) : Type 0 where
  pub text : List ℕ
  pub command : Command
  pub program : ProgramShape
  pub worked : WorkedOn words source text command program
  pub made : Makes words program command outcome output

-- the output was made and written, whole and nothing else
pub record IsDone (words : List (List ℕ)) (source out : Stream) (outcome : Outcome) : Type 0 where
  pub output : List ℕ
  pub made : MakesOutput words source outcome output
  pub written : Gave out output

-- the output was made and a write of it failed, so that a proper prefix of it was written
pub record IsCutShort (words : List (List ℕ)) (source out : Stream) : Type 0 where
  pub outcome : Outcome
  pub output : List ℕ
  pub made : MakesOutput words source outcome output
  pub written : GavePart out output

-- ---- causes why no output is made, by their stage

-- why the text was not read
abbrev pub NotRead : Stream → ReadFault → Type 0
NotRead source SourceFailed = HasFailed source
NotRead source TooLong = (text : List ℕ) × Took source text × (length text ≡ suc most_bytes)
NotRead source (NoMemoryForText refusal) = Unit {0}

-- the text was read, and spells no raw program
pub record SpellsNone (source : Stream) (fault : TextFault) : Type 0 where
  pub text : List ℕ
  pub read : TookAll source text
  pub short : length text ≤ most_bytes
  pub refused : IsTextMemory fault ⊎ IsTextRefusal text fault

-- the text was read, and spells a raw program that is not valid
pub record StandsForNone (source : Stream) (fault : ValidFault) : Type 0 where
  pub text : List ℕ
  pub read : TookAll source text
  pub short : length text ≤ most_bytes
  pub refused : IsValidMemory fault ⊎ IsInvalid text fault

-- nothing is made of the program
pub record MakesNone (words : List (List ℕ)) (source : Stream) (fault : RunFault) : Type 0 where
  pub text : List ℕ
  pub command : Command
  pub program : ProgramShape
  pub worked : WorkedOn words source text command program
  pub stopped : CannotMake words program command fault

-- why no output is made, and what was read then
abbrev pub Prevents : List (List ℕ) → Stream → Cause → Type 0
Prevents words source Usage = (command_of words ≡ None) × Untouched source
Prevents words source (Reading fault) = Reads words × NotRead source fault
Prevents words source (Text fault) = Reads words × SpellsNone source fault
Prevents words source (Program fault) = Reads words × StandsForNone source fault
Prevents words source (Making fault) = MakesNone words source fault

-- ---- the whole call

-- how a call ended, and what happened then
abbrev pub HasEnded : List (List ℕ) → Stream → Stream → Ending → Type 0
HasEnded words source out (Done outcome) = IsDone words source out outcome
HasEnded words source out CutShort = IsCutShort words source out
HasEnded words source out (Prevented cause) = Prevents words source cause × Untouched out

-- the complaint of an ending without an outcome
abbrev pub complaint_at_end : Ending → Option Complaint
complaint_at_end (Done outcome) = None
complaint_at_end CutShort = Some write_fault
complaint_at_end (Prevented cause) = Some (complaint_of cause)

-- a reply with this status and no trail
abbrev pub refusal_with : ℕ → Reply
refusal_with status = record { status = status; trail = None; moved = None }

-- the reply of a call that ended like this
abbrev pub reply_at_end : Ending → Reply
reply_at_end (Done outcome) = reply_of outcome
reply_at_end CutShort = refusal_with write_fault.status
reply_at_end (Prevented cause) = refusal_with (complaint_of cause).status

-- the line of the complaint was written, whole unless the error output failed, or nothing where there is no complaint
abbrev pub WritesLine : Option Complaint → Stream → Type 0
WritesLine None err = Untouched err
WritesLine (Some complaint) err = Tried err complaint.line

-- the whole of a call
pub record HasReplied (call : Call) : Type 0 where
  pub ending : Ending
  pub ended : HasEnded call.words call.source call.out ending
  pub replied : call.reply ≡ reply_at_end ending
  pub written : WritesLine (complaint_at_end ending) call.err
