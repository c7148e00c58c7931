-- A call ends in one of five ways: its output is written, or cut short, a read failed, memory ran out, or it is
-- refused.
use Rattle.std.proofs.Common.{◌≡◌, ◌<◌, ◌⊎◌, inl, inr, ℕ, List, [], length, Some, IsSome, refl, sym, subst, arith}
use Rattle.mir_base.specs.Limits.{most_bytes}
use Rattle.mir_base.specs.Shapes.{ProgramShape}
use Rattle.mir_interp.specs.declared.report.RunFault.{RunFault}
use Rattle.mir_outside.specs.declared.transfer.ReadFault.TheVariants.{Failed as SourceFailed, TooLong, Memory as NoMemoryForText}
use Rattle.mir_parse.specs.Spells.{IsTextRefusal, IsTextMemory}
use Rattle.mir_valid.specs.Refusals.{IsValidMemory}
use Rattle.mir_top.specs.declared.cause.Cause.{Cause}
use Rattle.mir_top.specs.declared.cause.Cause.TheVariants.{Usage, Reading, Text, Program, Making}
use Rattle.mir_top.specs.declared.command.Command.{Command}
use Rattle.mir_top.specs.declared.ending.Ending.{Ending}
use Rattle.mir_top.specs.declared.ending.Ending.TheVariants.{Done, CutShort, Prevented}
use Rattle.mir_top.specs.declared.outcome.Outcome.{Outcome}
use Rattle.mir_top.specs.Calls.{Call, reply_of, refusal_with, reply_at_end, complaint_at_end, HasReplied, HasEnded, IsDone, IsCutShort, Prevents, WritesLine, WorkedOn}
use Rattle.mir_top.specs.Commands.{command_of, Asks, Reads}
use Rattle.mir_top.specs.Complaints.{Complaint, complaint_of, of_text, of_program, usage, too_long, wrong_inputs, deep, read_fault, write_fault, out_of_memory}
use Rattle.mir_top.specs.Due.{Refuses, no_command, no_text, wrong_number, too_deep, long, unreadable, invalid}
use Rattle.mir_top.specs.Outputs.{CannotMake, too_few_or_many, too_many_frames, no_memory}
use Rattle.mir_top.specs.Promises.{HasSeen}
use Rattle.mir_top.specs.Streams.{Untouched, HasFailed, TookAll, Tried}
use Rattle.mir_top.specs.Texts.{IsInvalid}
use Rattle.mir_top.proofs.Judgements.{no_command_of}
use Rattle.mir_top.proofs.Statuses.{text_complaint, program_complaint}

-- how a call ended, with its reply and what happened to its streams
pub data EndingCase (call : Call) : Type 0 where
  ends_done : (outcome : Outcome) → call.reply ≡ reply_of outcome → IsDone call.words call.source call.out outcome → Untouched call.err → EndingCase call
  ends_cut : call.reply ≡ refusal_with 7 → IsCutShort call.words call.source call.out → Tried call.err write_fault.line → EndingCase call
  ends_failed : call.reply ≡ refusal_with 6 → Reads call.words → HasFailed call.source → Untouched call.out → Tried call.err read_fault.line → EndingCase call
  ends_out_of_memory : call.reply ≡ refusal_with 8 → Asks call.words → Untouched call.out → Tried call.err out_of_memory.line → EndingCase call
  ends_refused : (text : List ℕ) (complaint : Complaint) → call.reply ≡ refusal_with complaint.status → (Reads call.words → HasSeen call.source text) → Refuses call.words text complaint → Untouched call.out → Tried call.err complaint.line → EndingCase call

-- the words of a command ask for something
pub asks : (words : List (List ℕ)) (command : Command) → command_of words ≡ Some command → Asks words
asks words command is = subst IsSome (sym is) refl

module _ (call : Call) where
  -- a call that made no output ends by this complaint
  record EndsSo (complaint : Complaint) : Type 0 where
    replied : call.reply ≡ refusal_with complaint.status
    silent : Untouched call.out
    told : Tried call.err complaint.line

  -- by the complaint that memory ran out
  ran_out : (complaint : Complaint) → EndsSo complaint → complaint ≡ out_of_memory → Asks call.words → EndingCase call
  ran_out complaint so is asked = let now = subst EndsSo is so in ends_out_of_memory now.replied asked now.silent now.told

  -- what was read to its end was seen
  seen_all : (text : List ℕ) → (Reads call.words → TookAll call.source text) → Reads call.words → HasSeen call.source text
  seen_all text read reads = let all = read reads in record { taken = all.0; enough = inl all.1 }

  -- where the command made nothing of its program
  making : (text : List ℕ) (command : Command) (program : ProgramShape) (fault : RunFault) → WorkedOn call.words call.source text command program → CannotMake call.words program command fault → EndsSo (complaint_of (Making fault)) → EndingCase call
  making text _ program _ worked (too_few_or_many steps wrong) so =
      ends_refused text (wrong_inputs _) so.replied (seen_all text worked.read) (wrong_number steps program worked.asked worked.subject wrong) so.silent so.told
  making text _ program _ worked (too_many_frames steps right above) so =
      ends_refused text deep so.replied (seen_all text worked.read) (too_deep steps program worked.asked worked.subject right above) so.silent so.told
  making text _ program _ worked (no_memory command refusal) so = ends_out_of_memory so.replied (asks call.words command worked.asked) so.silent so.told

  -- where there is no output
  prevented : (cause : Cause) → Prevents call.words call.source cause → EndsSo (complaint_of cause) → EndingCase call
  prevented Usage why so = ends_refused [] usage so.replied (λ reads. absurd (no_command_of reads.0 (command_of call.words) why.0 reads.1)) (no_command why.0) so.silent so.told
  prevented (Reading SourceFailed) why so = ends_failed so.replied why.0 why.1 so.silent so.told
  prevented (Reading TooLong) why so =
      let text = why.1.0 in let is = why.1.2 in
      let over : most_bytes < length text = omega (arith, is) in
      ends_refused text too_long so.replied (λ reads. record { taken = why.1.1; enough = inr over }) (no_text too_long why.0 (long over)) so.silent so.told
  prevented (Reading (NoMemoryForText refusal)) why so = ends_out_of_memory so.replied (asks call.words why.0.0 why.0.1) so.silent so.told
  prevented (Text fault) why so = by why.1.refused
    where
      by : IsTextMemory fault ⊎ IsTextRefusal why.1.text fault → EndingCase call
      by (inl memory) = ran_out (of_text fault) so ((text_complaint why.1.text fault).0 memory) (asks call.words why.0.0 why.0.1)
      by (inr refusal) = ends_refused why.1.text (of_text fault) so.replied (seen_all why.1.text (λ reads. why.1.read)) (no_text (of_text fault) why.0 (unreadable fault why.1.short refusal)) so.silent so.told
  prevented (Program fault) why so = by why.1.refused
    where
      by : IsValidMemory fault ⊎ IsInvalid why.1.text fault → EndingCase call
      by (inl memory) = ran_out (of_program fault) so ((program_complaint fault).0 memory) (asks call.words why.0.0 why.0.1)
      by (inr refusal) = ends_refused why.1.text (of_program fault) so.replied (seen_all why.1.text (λ reads. why.1.read)) (no_text (of_program fault) why.0 (invalid fault why.1.short refusal)) so.silent so.told
  prevented (Making fault) why so = making why.text why.command why.program fault why.worked why.stopped so

  -- each call ends in one of the five ways
  pub ends : HasReplied call → EndingCase call
  ends whole = go whole.ending whole.ended whole.replied whole.written
    where
      go : (ending : Ending) → HasEnded call.words call.source call.out ending → call.reply ≡ reply_at_end ending → WritesLine (complaint_at_end ending) call.err → EndingCase call
      go (Done outcome) is replied told = ends_done outcome replied is told
      go CutShort is replied told = ends_cut replied is told
      go (Prevented cause) is replied told = prevented cause is.0 (record { replied = replied; silent = is.1; told = told })
