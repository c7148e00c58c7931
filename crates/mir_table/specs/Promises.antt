-- What `tables` promises of every call. Cited by contracts.
use Rattle.std.specs.Prelude.{◌≡◌, ◌≢◌, ◌+◌, ◌≤◌, ℕ, Result, Ok, Err, Vec, List, [], ◌∷◌, codes, Contains, Option, Some, None}
use Rattle.std.specs.declared.alloc.AllocError.{AllocError}
use Rattle.std.specs.declared.alloc.Global.{Global}
use Rattle.mir_base.specs.Limits.{most_bytes}
use Rattle.mir_base.specs.Shapes.{ProgramShape}
use Rattle.mir_outside.specs.Transfer.{TakesAtMost}
use Rattle.mir_top.specs.declared.command.Command.{Command}
use Rattle.mir_top.specs.Commands.{command_of}
use Rattle.mir_top.specs.Complaints.{Complaint, out_of_memory, read_fault, write_fault}
use Rattle.mir_top.specs.Due.{IsRefused, IsShortTextOf}
use Rattle.mir_top.specs.Promises.{HasSeen}
use Rattle.mir_top.specs.Streams.{Gave, GavePart, HasFailed, StartsWith, Stream, TookAll, Tried, Untouched}
use Rattle.mir_table.specs.declared.kinds.TableKind.{TableKind}
use Rattle.mir_table.specs.Kinds.{HasSubject, ShowsKind, kind_of}

-- what a call did to its source and its outputs, and its status
pub record TableCall : Type 0 where
  pub source : Stream
  pub out : Stream
  pub err : Stream
  pub status : ℕ

-- these words ask `mir` for this
abbrev pub AsksFor : Command → List (List ℕ) → Type 0
AsksFor command words = command_of words ≡ Some command

-- ---- complaints

-- how the program is called
abbrev pub table_usage : Complaint
table_usage = record {
  status = 1;
  line = codes "usage: mir_tables [optimise | divisions | tails | join | bounds | wanted | demanded]\n";
}

-- the call ended with this complaint
pub record EndedBy (status : ℕ) (err : Stream) (complaint : Complaint) : Type 0 where
  pub status_is : status ≡ complaint.status
  pub told : Tried err complaint.line

-- ---- what was written

-- a text of the tables was written, whole and nothing else; or a write of it failed, and so it was told; or memory ran
-- out before anything was written, and so it was told
pub data HasWritten (Shows : List ℕ → Type 0) (out err : Stream) (status : ℕ) : Type 0 where
  written_whole : (text : List ℕ) → Shows text → Gave out text → Untouched err → status ≡ 0
      → HasWritten Shows out err status
  written_in_part : (text : List ℕ) → Shows text → GavePart out text
      → EndedBy status err write_fault
      → HasWritten Shows out err status
  not_written : Untouched out → EndedBy status err out_of_memory → HasWritten Shows out err status

-- the source was read to its end, what was read is the text of a program, and of what the passes make of it this was
-- written
pub record HasTables (kind : TableKind) (call : TableCall) : Type 0 where
  pub text : List ℕ
  pub program : ProgramShape
  pub read : TookAll call.source text
  pub is_text : IsShortTextOf text program
  pub subject : HasSubject kind program
  pub written : HasWritten (ShowsKind kind program subject) call.out call.err call.status

-- the source was read to its end, or more of it than a text may have, and what was read is the text of no program, and
-- so it was told
pub record HasRefusedText (call : TableCall) : Type 0 where
  pub text : List ℕ
  pub complaint : Complaint
  pub read : HasSeen call.source text
  pub refused : IsRefused text complaint
  pub ended : EndedBy call.status call.err complaint

-- ---- the promises

-- what happened in a call that asks for these tables of the text: they were written or could not be, or the text is of
-- no program, or the source failed, or memory ran out
pub data CallEnded (kind : TableKind) (call : TableCall) : Type 0 where
  tables_written : HasTables kind call → CallEnded kind call
  text_refused : HasRefusedText call → Untouched call.out → CallEnded kind call
  source_failed : HasFailed call.source → EndedBy call.status call.err read_fault
      → Untouched call.out
      → CallEnded kind call
  memory_failed : EndedBy call.status call.err out_of_memory → Untouched call.out
      → CallEnded kind call

-- the call ends with the status of this complaint and so it is told, unless a read fails or memory runs out
pub record EndsWith (call : TableCall) (complaint : Complaint) : Type 0 where
  pub status : Contains (complaint.status ∷ 6 ∷ 8 ∷ []) call.status
  pub told : call.status ≢ 6 → call.status ≢ 8 → Tried call.err complaint.line

-- the text is the whole of the source, whose bytes can be observed
abbrev pub SourceHas : TableCall → List ℕ → Type 0
SourceHas call text = call.source.old ≡ Some text

-- all that holds of a call that asks for these tables of the text
pub record TextPromises (kind : TableKind) (call : TableCall) : Type 0 where
  pub most : TakesAtMost call.source.old call.source.new (most_bytes + 1)
  pub ended : CallEnded kind call
  -- Where the text is that of a program, its tables are written, unless a device fails or memory
  -- runs out.
  pub complete : (text : List ℕ) (program : ProgramShape) → SourceHas call text
      → IsShortTextOf text program
      → Contains (0 ∷ 6 ∷ 7 ∷ 8 ∷ []) call.status
  -- Where it is of no program, it is refused by the first thing that is wrong, unless the device
  -- fails or memory runs
  -- out.
  pub refuses : (text : List ℕ) (complaint : Complaint) → SourceHas call text
      → IsRefused text complaint
      → EndsWith call complaint
  pub statuses : call.status ≤ 8

-- all that holds of a call with these words, whatever its source and sinks
pub record TablePromises (words : List (List ℕ)) (call : TableCall) : Type 0 where
  pub text : (kind : TableKind) → kind_of words ≡ Some kind → TextPromises kind call
  -- With words that ask for no tables nothing is read and nothing written but how the program is
  -- called.
  pub usage : kind_of words ≡ None
      → EndedBy call.status call.err table_usage × Untouched call.source
      × Untouched call.out
  pub statuses : call.status ≤ 8

-- a call with these words, of which all this holds, ended with this status; its source and its two outputs began with
-- these bytes, as far as they can be observed, and without a fault
pub record IsStatusOfTables
    (words : List (List ℕ)) (source out err : Option (List ℕ)) (status : ℕ) : Type 0 where
  pub call : TableCall
  pub source_starts : StartsWith call.source source
  pub out_starts : StartsWith call.out out
  pub err_starts : StartsWith call.err err
  pub promises : TablePromises words call
  pub status_is : call.status ≡ status

-- ---- for the function that writes

-- a text that was made is this one
abbrev pub IsMade : Result (Vec ℕ Global) AllocError → List ℕ → Type 0
IsMade (Ok made) text = made.items ≡ text
IsMade (Err refusal) text = ⊥
