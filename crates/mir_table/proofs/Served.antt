-- From what `top` promises of the call that reads the text to what `tables` promises.
use Rattle.std.proofs.Common.{◌≡◌, ◌≢◌, ◌<◌, ◌≤◌, inl, inr, ℕ, suc, Result, Ok, Err, Vec, List, [], ◌∷◌, ◌++◌, Option, None, Some, IfOk, IfSome, zero, is_some, Contains, refl, sym, ◌∙◌, ap, subst, arith}
use Rattle.std.proofs.KnownBytes.{Consumes-nil}
use Rattle.std.proofs.lemmas.List.{append-nil}
use Rattle.std.specs.declared.alloc.AllocError.{AllocError}
use Rattle.std.specs.declared.alloc.Global.{Global}
use Rattle.std.specs.Io.KnownBytes.{Consumes, IsAtEnd}
use Rattle.std.specs.Prelude.{IsTrue}
use Rattle.mir_base.specs.Shapes.{ProgramShape}
use Rattle.mir_opt.specs.declared.trails.MoveTrail.{MoveTrail}
use Rattle.mir_opt.specs.declared.trails.Trail.{Trail}
use Rattle.mir_top.specs.declared.command.Command.{Command}
use Rattle.mir_top.specs.declared.command.Command.TheVariants.{Divisions, Optimise, Run}
use Rattle.mir_top.specs.Calls.{Call}
use Rattle.mir_top.specs.Commands.{Reads, command_of, reads_text}
use Rattle.mir_top.specs.Complaints.{Complaint, out_of_memory}
use Rattle.mir_top.specs.Due.{Completes, IsRefused, IsShortTextOf, Refuses, no_command, no_text, of_divisions, of_optimise, too_deep, wrong_number}
use Rattle.mir_top.specs.Promises.{HasDivided, HasOptimised, HasRead, HasRefused, Promises}
use Rattle.mir_top.specs.Streams.{HasFailed, Stream, Untouched}
use Rattle.mir_table.specs.declared.further.Further.{Further}
use Rattle.mir_table.specs.declared.further.Further.TheVariants as further
use Rattle.mir_table.specs.declared.kinds.TableKind.{TableKind}
use Rattle.mir_table.specs.declared.kinds.TableKind.TheVariants as kinds
use Rattle.mir_table.specs.Further.{IsTextOf, kind_from}
use Rattle.mir_table.specs.Kinds.{HasSubject, ShowsKind, kind_of}
use Rattle.mir_table.specs.Promises.{AsksFor, CallEnded, EndedBy, HasTables, HasWritten, IsMade, SourceHas, TableCall, TablePromises, TextPromises, memory_failed, not_written, source_failed, table_usage, tables_written, text_refused, written_in_part, written_whole}

-- ---- commands that read a text and make something of each program

-- the words ask for this command, it reads a text, it is no run, and something is due of each program
pub record AsksToMake (command : Command) (words : List (List ℕ)) : Type 0 where
  pub asks : command_of words ≡ Some command
  pub reading : IsTrue (reads_text command)
  pub no_run : (steps : ℕ) → command ≡ Run steps → ⊥
  pub completes : (text : List ℕ) (program : ProgramShape) → IsShortTextOf text program → Completes words text 0

-- all passes are one
pub asks_optimise : (words : List (List ℕ)) → AsksFor Optimise words → AsksToMake Optimise words
asks_optimise words asked = record { asks = asked; reading = refl; no_run = λ steps e. cc; completes = λ text program on. of_optimise program asked on }

-- the motion of divisions is one
pub asks_divisions : (words : List (List ℕ)) → AsksFor Divisions words → AsksToMake Divisions words
asks_divisions words asked = record { asks = asked; reading = refl; no_run = λ steps e. cc; completes = λ text program on. of_divisions program asked on }

module _ (command : Command) (words : List (List ℕ)) (asked : AsksToMake command words) where
  -- they ask for a text
  pub reads : Reads words
  reads = (command, asked.asks, asked.reading)

  -- and for no run
  no_run_of : (steps : ℕ) → command_of words ≡ Some (Run steps) → ⊥
  no_run_of steps run = let both : Some command ≡ Some (Run steps) = sym asked.asks ∙ run in asked.no_run steps (let same : command ≡ Run steps = cc in same)

  -- what is refused under them is the text
  pub refused_is : (text : List ℕ) (complaint : Complaint) → Refuses words text complaint → IsRefused text complaint
  refused_is text complaint (no_command none) = absurd (let e = sym asked.asks ∙ none in cc)
  refused_is text complaint (no_text other asks is) = is
  refused_is text complaint (wrong_number steps program run on count) = absurd (no_run_of steps run)
  refused_is text complaint (too_deep steps program run on count above) = absurd (no_run_of steps run)

-- of these three a status that is neither 6 nor 8 is the first
first_of : (a n : ℕ) → Contains (a ∷ 6 ∷ 8 ∷ []) n → n ≢ 6 → n ≢ 8 → n ≡ a
first_of a n (zero, low, at) no_six no_eight = sym at
first_of a n (suc zero, low, at) no_six no_eight = absurd (no_six (sym at))
first_of a n (suc (suc zero), low, at) no_six no_eight = absurd (no_eight (sym at))
first_of a n (suc (suc (suc k)), low, at) no_six no_eight = absurd (let inside : suc (suc (suc k)) < 3 = low in omega (arith, inside))

-- ---- streams

-- a stream that a first call left as it was is that of the second call
pub joined : (first second : Stream) → Untouched first → first.new ≡ second.old → first.after ≡ second.before
    → ◌≡◌ {A = Stream} (record { old = first.old; new = second.new; before = first.before; after = second.after }) second
joined first second still bytes count =
    let old : first.old ≡ second.old = sym still.0 ∙ bytes in
    let before : first.before ≡ second.before = sym still.1 ∙ count in
    let same : ◌≡◌ {A = Stream} (record { old = first.old; new = second.new; before = first.before; after = second.after }) (record { old = second.old; new = second.new; before = second.before; after = second.after }) = cc in
    same

-- what was taken to the end is the whole text
whole_text : (new : Option (List ℕ)) (text bytes : List ℕ) → Consumes (Some text) new bytes → IsAtEnd new → bytes ≡ text
whole_text None text bytes taken end = absurd taken
whole_text (Some rest) text bytes taken end = sym (taken ∙ ap (λ (l : List ℕ). bytes ++ l) end ∙ append-nil bytes)

-- ---- what was written

-- where each text that is A is B too, what was written as A was written as B
pub written_as : (A B : List ℕ → Type 0) (out err : Stream) (status : ℕ) → ((text : List ℕ) → A text → B text) → HasWritten A out err status → HasWritten B out err status
written_as A B out err status same (written_whole text shows gave quiet is) = written_whole text (same text shows) gave quiet is
written_as A B out err status same (written_in_part text shows gave ended) = written_in_part text (same text shows) gave ended
written_as A B out err status same (not_written still ended) = not_written still ended

-- what was made and shows this is the text that shows this
pub made_is : (made : Result (Vec ℕ Global) AllocError) (Shows : List ℕ → Type 0) → IfOk made (λ text. Shows text.items) → (text : List ℕ) → IsMade made text → Shows text
made_is (Ok made) Shows shows text is = subst Shows is shows
made_is (Err refusal) Shows shows text is = absurd is

-- a text that was made is the one that was made
pub whole_made : (made : Result (Vec ℕ Global) AllocError) (text : Vec ℕ Global) → made ≡ Ok text → IsMade made text.items
whole_made made text is = subst (λ (r : Result (Vec ℕ Global) AllocError). IsMade r text.items) (sym is) refl

-- ---- where memory runs out before anything is read

-- nothing was read or written but the line that says so
pub without_words : (kind : TableKind) (source out err : Stream) (status : ℕ) → Untouched source → Untouched out → EndedBy status err out_of_memory
    → TextPromises kind (record { source = source; out = out; err = err; status = status })
without_words kind source out err status unread unwritten ended =
    let is : status ≡ 8 = ended.status_is in
    record {
      most = ([], subst (λ (o : Option (List ℕ)). Consumes source.old o []) (sym unread.0) (Consumes-nil source.old), omega arith);
      ended = memory_failed ended unwritten;
      complete = λ text program tells on. (3, omega arith, sym is);
      refuses = λ text complaint tells refused. record {
        status = (2, omega arith, sym is);
        told = λ no_six no_eight. absurd (no_eight is);
      };
      statuses = omega (arith, is);
    }

-- ---- where there is no trail

module _ (kind : TableKind) (command : Command) (call : Call) (p : Promises call) (asked : AsksToMake command call.words) (none : call.reply.status ≡ 0 → ⊥) (whole : HasFailed call.out → ⊥) (out : Stream) (still : Untouched out) where
  -- the call of `tables`, which gives the status on
  abbrev pub served : TableCall
  served = record { source = call.source; out = out; err = call.err; status = call.reply.status }

  refused_by : HasRefused call → CallEnded kind served
  refused_by r = text_refused (record {
    text = r.text;
    complaint = r.complaint;
    read = r.read (reads command call.words asked);
    refused = refused_is command call.words asked r.text r.complaint r.refuses;
    ended = record { status_is = r.status; told = r.written };
  }) still

  -- of a run alone
  no_run_status : (run : (steps : ℕ) × (command_of call.words ≡ Some (Run steps))) → ⊥
  no_run_status run = no_run_of command call.words asked run.0 run.1

  by : (n : ℕ) → call.reply.status ≡ n → n ≤ 8 → CallEnded kind served
  by zero is low = absurd (none is)
  by (suc zero) is low = refused_by (p.refused (0, omega arith, sym is))
  by (suc (suc zero)) is low = refused_by (p.refused (1, omega arith, sym is))
  by (suc (suc (suc zero))) is low = absurd (no_run_status (p.of_run (0, omega arith, sym is)))
  by (suc (suc (suc (suc zero)))) is low = absurd (no_run_status (p.of_run (1, omega arith, sym is)))
  by (suc (suc (suc (suc (suc zero))))) is low = refused_by (p.refused (2, omega arith, sym is))
  by (suc (suc (suc (suc (suc (suc zero)))))) is low = let fault = p.read_fault is in source_failed fault.1 (record { status_is = is; told = fault.2 }) still
  by (suc (suc (suc (suc (suc (suc (suc zero))))))) is low = absurd (whole (p.write_fault is).0.cut.written.0)
  by (suc (suc (suc (suc (suc (suc (suc (suc zero)))))))) is low = memory_failed (record { status_is = is; told = (p.memory is).1 }) still
  by (suc (suc (suc (suc (suc (suc (suc (suc (suc n))))))))) is low = absurd (omega (arith, low))

  pub without_trail : TextPromises kind served
  without_trail = record {
    most = p.most;
    ended = by call.reply.status refl p.statuses;
    complete = λ text program tells on. p.complete text 0 (λ asks. tells) (asked.completes text program on);
    refuses = λ text complaint tells is.
        let ends = p.refuses text complaint (λ asks. tells) (no_text complaint (reads command call.words asked) is) in
        record { status = ends.status; told = λ no_six no_eight. ends.written (first_of complaint.status call.reply.status ends.status no_six no_eight) };
    statuses = p.statuses;
  }

-- where no trail of all passes comes, the status is not 0
pub no_trail : (call : Call) → Promises call → AsksFor Optimise call.words → call.reply.trail ≡ None → call.reply.status ≡ 0 → ⊥
no_trail call p asked none is = let e = sym (ap is_some none) ∙ p.trail.1 (is, inl asked) in cc

-- nor where none of the motion of divisions comes
pub no_moved : (call : Call) → Promises call → AsksFor Divisions call.words → call.reply.moved ≡ None → call.reply.status ≡ 0 → ⊥
no_moved call p asked none is = let e = sym (ap is_some none) ∙ p.moved.1 (is, inr (inr asked)) in cc

-- ---- where there is one

module _ (kind : TableKind) (command : Command) (call : Call) (p : Promises call) (asked : AsksToMake command call.words) (program : ProgramShape) (has : HasRead call.source program) (subject : HasSubject kind program) (out err : Stream) (status : ℕ)
    (written : HasWritten (ShowsKind kind program subject) out err status)
    (either : (words : List (List ℕ)) (text : List ℕ) (n : ℕ) (complaint : Complaint) → Completes words text n → Refuses words text complaint → ⊥) where
  -- the call of `tables`, which writes its own text
  abbrev pub wrote : TableCall
  wrote = record { source = call.source; out = out; err = err; status = status }

  tables : HasTables kind wrote
  tables = record {
    text = has.text;
    program = program;
    read = has.read;
    is_text = has.within;
    subject = subject;
    written = written;
  }

  -- the status is 0, 7 or 8
  complete_by : HasWritten (ShowsKind kind program subject) out err status → Contains (0 ∷ 6 ∷ 7 ∷ 8 ∷ []) status
  complete_by (written_whole text shows gave quiet is) = (0, omega arith, sym is)
  complete_by (written_in_part text shows gave ended) = (2, omega arith, sym ended.status_is)
  complete_by (not_written still ended) = (3, omega arith, sym ended.status_is)

  below : HasWritten (ShowsKind kind program subject) out err status → status ≤ 8
  below (written_whole text shows gave quiet is) = omega (arith, is)
  below (written_in_part text shows gave ended) = let is : status ≡ 7 = ended.status_is in omega (arith, is)
  below (not_written still ended) = let is : status ≡ 8 = ended.status_is in omega (arith, is)

  -- a text that is refused has no trail
  no_refusal : (text : List ℕ) (complaint : Complaint) → SourceHas wrote text → IsRefused text complaint → ⊥
  no_refusal text complaint tells is =
      let took = subst (λ (o : Option (List ℕ)). Consumes o call.source.new has.text) tells has.read.0 in
      let same = whole_text call.source.new text has.text took has.read.1 in
      let on = subst (λ (l : List ℕ). IsShortTextOf l program) same has.within in
      either call.words text 0 complaint (asked.completes text program on) (no_text complaint (reads command call.words asked) is)

  pub with_trail : TextPromises kind wrote
  with_trail = record {
    most = p.most;
    ended = tables_written tables;
    complete = λ text program tells on. complete_by written;
    refuses = λ text complaint tells is. absurd (no_refusal text complaint tells is);
    statuses = below written;
  }

-- ---- both together

-- `top` has written nothing to the error output, so after the tables are written it has what that writing put there
module _ (kind : TableKind) (command : Command) (call : Call) (p : Promises call) (asked : AsksToMake command call.words) (zero_is : call.reply.status ≡ 0) (program : ProgramShape) (has : HasRead call.source program) (subject : HasSubject kind program) where
  pub served_program : (out second : Stream) (status : ℕ) → call.err.new ≡ second.old → call.err.after ≡ second.before → HasWritten (ShowsKind kind program subject) out second status
      → ((words : List (List ℕ)) (text : List ℕ) (n : ℕ) (complaint : Complaint) → Completes words text n → Refuses words text complaint → ⊥)
      → TextPromises kind (record { source = call.source; out = out; err = record { old = call.err.old; new = second.new; before = call.err.before; after = second.after }; status = status })
  served_program out second status bytes count written either =
      let still : Untouched call.err = p.quiet (0, omega arith, sym zero_is) in
      let same = joined call.err second still bytes count in
      with_trail kind command call p asked program has subject out (record { old = call.err.old; new = second.new; before = call.err.before; after = second.after }) status
      (subst (λ (e : Stream). HasWritten (ShowsKind kind program subject) out e status) (sym same) written) either

-- what `top` has done where it hands out a trail of all passes
module _ (call : Call) (p : Promises call) (asked : AsksFor Optimise call.words) (trail : Trail) (is : call.reply.trail ≡ Some trail) where
  pub has_optimised : HasOptimised call trail
  has_optimised = subst (λ (o : Option Trail). IfSome o (HasOptimised call)) is (p.optimised asked)

  pub optimised_status : call.reply.status ≡ 0
  optimised_status = (p.trail.0 (ap is_some is)).0

-- and where it hands out one of the motion of divisions
module _ (call : Call) (p : Promises call) (asked : AsksFor Divisions call.words) (trail : MoveTrail) (is : call.reply.moved ≡ Some trail) where
  pub has_divided : HasDivided call trail
  has_divided = subst (λ (o : Option MoveTrail). IfSome o (HasDivided call)) is (p.divisions asked)

  pub divided_status : call.reply.status ≡ 0
  divided_status = (p.moved.0 (ap is_some is)).0

-- ---- tables of single commands

-- what tables with a word are made of, in the reply to `divisions`
pub further_subject : (f : Further) (call : Call) (trail : MoveTrail) → HasDivided call trail → HasSubject (kind_from f) trail.source
further_subject further.Divisions call trail has = (trail, record { source = refl; divides = has.improves })
further_subject further.Tails call trail has = tt
further_subject further.Join call trail has = tt
further_subject further.Bounds call trail has = tt
further_subject further.Wanted call trail has = tt
further_subject further.Demanded call trail has = tt

-- and what they show
pub further_shows : (f : Further) (call : Call) (trail : MoveTrail) (has : HasDivided call trail) (text : List ℕ) → IsTextOf f trail text → ShowsKind (kind_from f) trail.source (further_subject f call trail has) text
unfolding further_subject
further_shows further.Divisions call trail has text shows = shows
further_shows further.Tails call trail has text shows = shows
further_shows further.Join call trail has text shows = shows
further_shows further.Bounds call trail has text shows = shows
further_shows further.Wanted call trail has text shows = shows
further_shows further.Demanded call trail has text shows = shows

-- ---- words

-- words that ask for tables
pub with_kind : (words : List (List ℕ)) (kind : TableKind) (call : TableCall) → kind_of words ≡ Some kind → TextPromises kind call → TablePromises words call
with_kind words kind call is promises = record {
  text = λ other asked.
      let both : Some kind ≡ Some other = sym is ∙ asked in
      let same : kind ≡ other = cc in
      subst (λ (k : TableKind). TextPromises k call) same promises;
  usage = λ none. absurd (let e = sym is ∙ none in cc);
  statuses = promises.statuses;
}

-- words that ask for none
pub without_kind : (words : List (List ℕ)) (call : TableCall) → kind_of words ≡ None → EndedBy call.status call.err table_usage → Untouched call.source → Untouched call.out → TablePromises words call
without_kind words call none ended unread unwritten =
    let is : call.status ≡ 1 = ended.status_is in
    record {
      text = λ kind asked. absurd (let e = sym none ∙ asked in cc);
      usage = λ again. (ended, unread, unwritten);
      statuses = omega (arith, is);
    }
