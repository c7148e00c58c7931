-- What `top` promises, from how a call ends.
use Rattle.std.proofs.Common.{◌≡◌, ◌<◌, ◌≤◌, ◌+◌, ◌⊎◌, inl, inr, ℕ, List, [], ◌∷◌, ◌++◌, length, Option, None, Some, IsSome, IfSome, IsTrue, is_some, Contains, refl, sym, ◌∙◌, ap, subst, arith, length-append}
use Rattle.std.proofs.lemmas.List.{append-nil}
use Rattle.std.proofs.lemmas.Option.{IfSome_then}
use Rattle.std.specs.Io.KnownBytes.{Consumes, IsAtEnd}
use Rattle.mir_base.specs.Limits.{most_bytes}
use Rattle.mir_base.specs.Shapes.{ProgramShape}
use Rattle.mir_outside.specs.Transfer.{TakesAtMost}
use Rattle.mir_trial.specs.Trial.{trial_program}
use Rattle.mir_top.specs.declared.reply.Reply.{Reply}
use Rattle.mir_top.specs.declared.command.Command.{Command}
use Rattle.mir_top.specs.declared.command.Command.TheVariants.{Optimise, Stages, Move, Ranges, Divisions, Tails, Join, Thorough, Passes, Run, Trial}
use Rattle.mir_top.specs.declared.outcome.Outcome.{Outcome}
use Rattle.mir_top.specs.Calls.{Call, reply_of, refusal_with, HasReplied, MakesOutput, WorkedOn}
use Rattle.mir_top.specs.Commands.{command_of, inputs_in, reads_text, Asks, Reads}
use Rattle.mir_top.specs.Complaints.{Complaint, usage, read_fault, write_fault, out_of_memory}
use Rattle.mir_top.specs.Due.{IsShortTextOf, WorksOn, IsRefused, long, unreadable, invalid, Refuses, no_command, no_text, wrong_number, too_deep, Completes}
use Rattle.mir_top.specs.Outputs.{ChainsThrough, JoinsUnits, LoopsTails, Makes, TurnsThrough, WritesTarget}
use Rattle.mir_top.specs.PassWords.{passes_in}
use Rattle.mir_top.specs.Promises.{Promises, HasSeen, IsOnlyMade, StatusIs, Asked, HasDivided, HasOptimised, HasRanged, HasRewritten, HasShown, HasMoved, HasMade, HasCutShort, HasRun, HasTried, HasRefused, EndsBy, HasText}
use Rattle.mir_top.specs.Streams.{Stream, Untouched, HasFailed, Took, Gave, Tried}
use Rattle.mir_top.specs.Texts.{OneReading}
use Rattle.mir_top.proofs.Endings.{EndingCase, ends_done, ends_cut, ends_failed, ends_out_of_memory, ends_refused, ends}
use Rattle.mir_top.proofs.Judgements.{no_command_of, same_command, has_read, runs_of, report_status, run_of_status, summary_of, status_of_trial, trial_reads, unread_refusal, refuses_same, makes_no_refusal, completes_no_refusal, completes_status, only_output}
use Rattle.mir_top.proofs.ReportLaws.{reports_go_on}
use Rattle.mir_top.proofs.Statuses.{is_success, is_refusal, is_of_run, is_silent, run_has, success_is, refusal_is, silent_is, refusal_no_success, success_no_refusal, success_no_silent, refusal_below, success_below, outcome_is_success, refuses_is_refusal}
use Rattle.mir_top.proofs.Trails.{HasMotion, HasPasses, passes, motion, trail_has_output, trail_is_asked, trail_comes}

-- ---- a source whose bytes can be observed

-- what was taken to the end is the whole text
whole_text : (new : Option (List ℕ)) (text bytes : List ℕ) → Consumes (Some text) new bytes → IsAtEnd new → bytes ≡ text
whole_text None text bytes taken end = absurd taken
whole_text (Some rest) text bytes taken end = sym (taken ∙ ap (λ (l : List ℕ). bytes ++ l) end ∙ append-nil bytes)

-- what was taken is no longer than the text
taken_within : (new : Option (List ℕ)) (text bytes : List ℕ) → Consumes (Some text) new bytes → length bytes ≤ length text
taken_within None text bytes taken = absurd taken
taken_within (Some rest) text bytes taken = omega (arith, ap length taken, length-append bytes rest)

-- what was taken of a source with this text
taken_of_text : (source : Stream) (text bytes : List ℕ) → source.old ≡ Some text → Took source bytes → Consumes (Some text) source.new bytes
taken_of_text source text bytes told taken = subst (λ (o : Option (List ℕ)). Consumes o source.new bytes) told taken

module _ (laws : OneReading) (call : Call) where
  -- the status of a reply that is known
  status_is : (reply : Reply) → call.reply ≡ reply → call.reply.status ≡ reply.status
  status_is reply is = ap (λ (a : Reply). a.status) is

  -- what was made is the one output
  only_made : (outcome : Outcome) (output : List ℕ) (made : MakesOutput call.words call.source outcome output) → IsOnlyMade call outcome output made
  only_made outcome output made = only_output call.words made.program made.command outcome output made.made

  -- ---- statuses 0, 3 and 4

  -- the one output was made and written, and nothing was written to the error output
  success_of : EndingCase call → is_success call.reply.status → HasMade call × Untouched call.err
  success_of (ends_done outcome replied is quiet) success = (record { outcome = outcome; done = is; only = only_made outcome is.output is.made; reply = replied }, quiet)
  success_of (ends_cut replied is told) success = absurd (subst is_success (status_is _ replied) success)
  success_of (ends_failed replied reads fails silent told) success = absurd (subst is_success (status_is _ replied) success)
  success_of (ends_out_of_memory replied asked silent told) success = absurd (subst is_success (status_is _ replied) success)
  success_of (ends_refused text complaint replied seen refuses silent told) success =
      absurd (refusal_no_success complaint.status (refuses_is_refusal laws call.words text complaint refuses) (subst is_success (status_is _ replied) success))

  -- 3 and 4 come under `run` alone
  of_run : EndingCase call → Contains (3 ∷ 4 ∷ []) call.reply.status → (steps : ℕ) × (command_of call.words ≡ Some (Run steps))
  of_run ends among =
      let has = (success_of ends (run_has is_success tt tt call.reply.status among)).0 in
      let made = has.done.made in
      let under = run_of_status call.words made.program made.command has.outcome has.done.output made.made (subst is_of_run (status_is _ has.reply) (run_has is_of_run tt tt call.reply.status among)) in
      (under.0, made.worked.asked ∙ ap (λ (c : Command). Some c) under.1)

  -- under `run` the report says how the run stands
  reports : EndingCase call → (steps : ℕ) → command_of call.words ≡ Some (Run steps) → is_success call.reply.status → HasRun call steps
  reports ends steps asked success =
      let has = (success_of ends success).0 in
      let made = has.done.made in
      let is = same_command made.command (Run steps) (command_of call.words) made.worked.asked asked in
      let runs = runs_of call.words made.program made.command has.outcome has.done.output steps made.made is in
      record {
        program = made.program;
        read = has_read call.words call.source (Run steps) made.program made.program made.text refl asked made.worked.read (subst (λ (c : Command). WorksOn c made.text made.program) is made.worked.subject) refl;
        runs = runs.runs;
        status = status_is _ has.reply ∙ report_status made.program (inputs_in call.words) steps has.outcome has.done.output runs;
        written = subst (Gave call.out) runs.output_is has.done.written;
        goes_on = reports_go_on made.program (inputs_in call.words) steps;
      }

  -- under a trial with status 0 its program was tried
  tries : EndingCase call → (number units : ℕ) → command_of call.words ≡ Some (Trial number units) → is_success call.reply.status → HasTried call (trial_program number units)
  tries ends number units asked success =
      let has = (success_of ends success).0 in
      let made = has.done.made in
      let is = same_command made.command (Trial number units) (command_of call.words) made.worked.asked asked in
      let tried = summary_of call.words made.program made.command has.outcome has.done.output number units made.made is in
      record {
        trail = tried.trail;
        source = tried.source ∙ subst (λ (c : Command). WorksOn c made.text made.program) is made.worked.subject;
        improves = tried.optimises;
        no_more = tried.no_more;
        written = subst (Gave call.out) tried.output_is has.done.written;
      }

  -- a trial ends with an output, or it is cut short, or memory runs out
  of_trial : EndingCase call → (number units : ℕ) → command_of call.words ≡ Some (Trial number units) → Contains (0 ∷ 7 ∷ 8 ∷ []) call.reply.status
  of_trial (ends_done outcome replied is quiet) number units asked =
      let same = same_command is.made.command (Trial number units) (command_of call.words) is.made.worked.asked asked in
      (0, omega arith, sym (status_is _ replied ∙ status_of_trial call.words is.made.program is.made.command outcome is.output number units is.made.made same))
  of_trial (ends_cut replied is told) number units asked = (1, omega arith, sym (status_is _ replied))
  of_trial (ends_failed replied reads fails silent told) number units asked = absurd (trial_reads call.words number units asked reads)
  of_trial (ends_out_of_memory replied asked silent told) number units also = (2, omega arith, sym (status_is _ replied))
  of_trial (ends_refused text complaint replied seen refuses silent told) number units asked =
      absurd (unread_refusal call.words text (Trial number units) complaint asked (λ is. absurd (cc)) refuses)

  -- ---- statuses 1, 2 and 5

  refused_of : EndingCase call → is_refusal call.reply.status → HasRefused call
  refused_of (ends_done outcome replied is quiet) among = absurd (success_no_refusal _ (outcome_is_success outcome) (subst is_refusal (status_is _ replied) among))
  refused_of (ends_cut replied is told) among = absurd (subst is_refusal (status_is _ replied) among)
  refused_of (ends_failed replied reads fails silent told) among = absurd (subst is_refusal (status_is _ replied) among)
  refused_of (ends_out_of_memory replied asked silent told) among = absurd (subst is_refusal (status_is _ replied) among)
  refused_of (ends_refused text complaint replied seen refuses silent told) among =
      record { text = text; complaint = complaint; read = seen; refuses = refuses; status = status_is _ replied; written = told }

  -- a text that was read within the limit is the one that the source has
  within_of_text : (text read : List ℕ) (program : ProgramShape) → Reads call.words → HasText call text → (Reads call.words → HasSeen call.source read) → IsShortTextOf read program → IsShortTextOf text program
  within_of_text text read program reads tells seen on = by (seen reads).enough
    where
      by : IsAtEnd call.source.new ⊎ (most_bytes < length read) → IsShortTextOf text program
      by (inl end) = subst (λ (l : List ℕ). IsShortTextOf l program) (whole_text call.source.new text read (taken_of_text call.source text read (tells reads) (seen reads).taken) end) on
      by (inr above) = let short = on.short in absurd (omega (arith, above, short))

  -- a refusal of what was read is one of the text that the source has
  seen_refuses : (text read : List ℕ) (complaint : Complaint) → HasText call text → (Reads call.words → HasSeen call.source read) → Refuses call.words read complaint → Refuses call.words text complaint
  seen_refuses text read _ tells seen (no_command none) = no_command none
  seen_refuses text read _ tells seen (no_text complaint reads refused) = by refused (seen reads).enough
    where
      taken : Consumes (Some text) call.source.new read
      taken = taken_of_text call.source text read (tells reads) (seen reads).taken

      by : IsRefused read complaint → IsAtEnd call.source.new ⊎ (most_bytes < length read) → Refuses call.words text complaint
      by refused (inl end) = no_text complaint reads (subst (λ (l : List ℕ). IsRefused l complaint) (whole_text call.source.new text read taken end) refused)
      by refused (inr above) = longer complaint refused
        where
          longer : (other : Complaint) → IsRefused read other → Refuses call.words text other
          longer _ (long over) = no_text _ reads (long (let h = taken_within call.source.new text read taken in omega (arith, above, h)))
          longer _ (unreadable fault short refusal) = absurd (omega (arith, above, short))
          longer _ (invalid fault short refusal) = absurd (omega (arith, above, short))
  seen_refuses text read _ tells seen (wrong_number n program asked on wrong) =
      let reads : Reads call.words = (Run n, asked, refl) in
      wrong_number n program asked (within_of_text text read program reads tells seen on) wrong
  seen_refuses text read _ tells seen (too_deep n program asked on right above) =
      let reads : Reads call.words = (Run n, asked, refl) in
      too_deep n program asked (within_of_text text read program reads tells seen on) right above

  -- the program that a command worked on is that of the text that the source has
  works_on_text : (text read : List ℕ) (command : Command) (program : ProgramShape) → HasText call text → WorkedOn call.words call.source read command program → WorksOn command text program
  works_on_text text read command program tells worked = by command worked.asked worked.subject
    where
      here : Reads call.words → IsShortTextOf read program → IsShortTextOf text program
      here reads on =
          let all = worked.read reads in
          subst (λ (l : List ℕ). IsShortTextOf l program) (whole_text call.source.new text read (taken_of_text call.source text read (tells reads) all.0) all.1) on

      by : (command : Command) → command_of call.words ≡ Some command → WorksOn command read program → WorksOn command text program
      by Optimise asked on = here (Optimise, asked, refl) on
      by Stages asked on = here (Stages, asked, refl) on
      by Move asked on = here (Move, asked, refl) on
      by Ranges asked on = here (Ranges, asked, refl) on
      by Divisions asked on = here (Divisions, asked, refl) on
      by Tails asked on = here (Tails, asked, refl) on
      by Join asked on = here (Join, asked, refl) on
      by Thorough asked on = here (Thorough, asked, refl) on
      by Passes asked on = here (Passes, asked, refl) on
      by (Run n) asked on = here (Run n, asked, refl) on
      by (Trial number units) asked on = on

  -- what a refusal that is due makes of a call
  ends_by : (text : List ℕ) (complaint : Complaint) → HasText call text → Refuses call.words text complaint → EndingCase call → EndsBy call complaint
  ends_by text complaint tells due (ends_done outcome replied is quiet) = absurd (not_made is.made.text is.made.command is.made.program is.made.worked outcome is.output is.made.made)
    where
      not_made : (read : List ℕ) (command : Command) (program : ProgramShape) → WorkedOn call.words call.source read command program → (o : Outcome) (output : List ℕ) → Makes call.words program command o output → ⊥
      not_made read command program worked o output makes = makes_no_refusal laws call.words text command program o output complaint worked.asked (works_on_text text read command program tells worked) makes due
  ends_by text complaint tells due (ends_cut replied is told) =
      let made = is.made in
      absurd (makes_no_refusal laws call.words text made.command made.program is.outcome is.output complaint made.worked.asked (works_on_text text made.text made.command made.program tells made.worked) made.made due)
  ends_by text complaint tells due (ends_failed replied reads fails silent told) =
      record { status = (1, omega arith, sym (status_is _ replied)); written = λ is. absurd (subst is_refusal (sym is ∙ status_is _ replied) (refusal_is complaint.status (refuses_is_refusal laws call.words text complaint due))) }
  ends_by text complaint tells due (ends_out_of_memory replied asked silent told) =
      record { status = (2, omega arith, sym (status_is _ replied)); written = λ is. absurd (subst is_refusal (sym is ∙ status_is _ replied) (refusal_is complaint.status (refuses_is_refusal laws call.words text complaint due))) }
  ends_by text complaint tells due (ends_refused read other replied seen refuses silent told) =
      let same : other ≡ complaint = refuses_same laws call.words text other complaint (seen_refuses text read other tells seen refuses) due in
      record {
        status = (0, omega arith, ap (λ (c : Complaint). c.status) (sym same) ∙ sym (status_is _ replied));
        written = λ is. subst (λ (c : Complaint). Tried call.err c.line) same told;
      }

  -- ---- completeness

  completes : (text : List ℕ) (status : ℕ) → HasText call text → Completes call.words text status → EndingCase call → Contains (status ∷ 6 ∷ 7 ∷ 8 ∷ []) call.reply.status
  completes text status tells due (ends_done outcome replied is quiet) =
      let made = is.made in
      (0, omega arith, sym (status_is _ replied ∙ completes_status laws call.words text status made.command made.program outcome is.output due made.worked.asked (works_on_text text made.text made.command made.program tells made.worked) made.made))
  completes text status tells due (ends_cut replied is told) = (2, omega arith, sym (status_is _ replied))
  completes text status tells due (ends_failed replied reads fails silent told) = (1, omega arith, sym (status_is _ replied))
  completes text status tells due (ends_out_of_memory replied asked silent told) = (3, omega arith, sym (status_is _ replied))
  completes text status tells due (ends_refused read complaint replied seen refuses silent told) =
      absurd (completes_no_refusal laws call.words text status complaint due (seen_refuses text read complaint tells seen refuses))

  -- ---- the other statuses

  -- an outcome has no status that is none of success
  no_success : (outcome : Outcome) → call.reply ≡ reply_of outcome → {n : ℕ} → call.reply.status ≡ n → is_success n
  no_success outcome replied at = subst is_success (sym (status_is _ replied) ∙ at) (success_is _ (outcome_is_success outcome))

  -- a refusal has no status that is none of a refusal
  no_refusal : (text : List ℕ) (complaint : Complaint) → call.reply ≡ refusal_with complaint.status → Refuses call.words text complaint → {n : ℕ} → call.reply.status ≡ n → is_refusal n
  no_refusal text complaint replied refuses at =
      subst is_refusal (sym (status_is _ replied) ∙ at) (refusal_is complaint.status (refuses_is_refusal laws call.words text complaint refuses))

  usage_is : EndingCase call → command_of call.words ≡ None → call.reply.status ≡ 1
  usage_is (ends_done outcome replied is quiet) none = absurd (no_command_of is.made.command (command_of call.words) none is.made.worked.asked)
  usage_is (ends_cut replied is told) none = absurd (no_command_of is.made.command (command_of call.words) none is.made.worked.asked)
  usage_is (ends_failed replied reads fails silent told) none = absurd (no_command_of reads.0 (command_of call.words) none reads.1)
  usage_is (ends_out_of_memory replied asked silent told) none = let e = sym asked ∙ ap is_some none in absurd (cc)
  usage_is (ends_refused text complaint replied seen refuses silent told) none =
      status_is _ replied ∙ ap (λ (c : Complaint). c.status) (refuses_same laws call.words text complaint usage refuses (no_command none))

  read_fails : EndingCase call → call.reply.status ≡ 6 → Reads call.words × HasFailed call.source × Tried call.err read_fault.line
  read_fails (ends_done outcome replied is quiet) at = absurd (no_success outcome replied at)
  read_fails (ends_cut replied is told) at = absurd (omega (arith, status_is _ replied, at))
  read_fails (ends_failed replied reads fails silent told) at = (reads, fails, told)
  read_fails (ends_out_of_memory replied asked silent told) at = absurd (omega (arith, status_is _ replied, at))
  read_fails (ends_refused text complaint replied seen refuses silent told) at = absurd (no_refusal text complaint replied refuses at)

  write_fails : EndingCase call → call.reply.status ≡ 7 → HasCutShort call × Tried call.err write_fault.line
  write_fails (ends_done outcome replied is quiet) at = absurd (no_success outcome replied at)
  write_fails (ends_cut replied is told) at = (record { cut = is; only = only_made is.outcome is.output is.made }, told)
  write_fails (ends_failed replied reads fails silent told) at = absurd (omega (arith, status_is _ replied, at))
  write_fails (ends_out_of_memory replied asked silent told) at = absurd (omega (arith, status_is _ replied, at))
  write_fails (ends_refused text complaint replied seen refuses silent told) at = absurd (no_refusal text complaint replied refuses at)

  memory_is : EndingCase call → call.reply.status ≡ 8 → Asks call.words × Tried call.err out_of_memory.line
  memory_is (ends_done outcome replied is quiet) at = absurd (no_success outcome replied at)
  memory_is (ends_cut replied is told) at = absurd (omega (arith, status_is _ replied, at))
  memory_is (ends_failed replied reads fails silent told) at = absurd (omega (arith, status_is _ replied, at))
  memory_is (ends_out_of_memory replied asked silent told) at = (asked, told)
  memory_is (ends_refused text complaint replied seen refuses silent told) at = absurd (no_refusal text complaint replied refuses at)

  silent_of : EndingCase call → is_silent call.reply.status → Untouched call.out
  silent_of (ends_done outcome replied is quiet) among = absurd (success_no_silent _ (outcome_is_success outcome) (subst is_silent (status_is _ replied) among))
  silent_of (ends_cut replied is told) among = absurd (subst is_silent (status_is _ replied) among)
  silent_of (ends_failed replied reads fails silent told) among = silent
  silent_of (ends_out_of_memory replied asked silent told) among = silent
  silent_of (ends_refused text complaint replied seen refuses silent told) among = silent

  below : EndingCase call → call.reply.status ≤ 8
  below (ends_done outcome replied is quiet) = subst (λ (n : ℕ). n ≤ 8) (sym (status_is _ replied)) (success_below _ (outcome_is_success outcome))
  below (ends_cut replied is told) = omega (arith, status_is _ replied)
  below (ends_failed replied reads fails silent told) = omega (arith, status_is _ replied)
  below (ends_out_of_memory replied asked silent told) = omega (arith, status_is _ replied)
  below (ends_refused text complaint replied seen refuses silent told) = subst (λ (n : ℕ). n ≤ 8) (sym (status_is _ replied)) (refusal_below complaint.status (refuses_is_refusal laws call.words text complaint refuses))

  -- ---- trails

  -- words of a command that has a trail of all passes are those of `optimise` or `stages`
  has_asked : EndingCase call → IsSome call.reply.trail → StatusIs call 0 × (Asked call Optimise ⊎ Asked call Stages)
  has_asked ends some = (let is = trail_is_asked passes call ends some in (is.0, by is.1.0 is.1.1 is.1.2))
    where
      by : (command : Command) → Asked call command → HasPasses command → Asked call Optimise ⊎ Asked call Stages
      by command asked (inl is) = inl (asked ∙ ap (λ (c : Command). Some c) is)
      by command asked (inr is) = inr (asked ∙ ap (λ (c : Command). Some c) is)

  passes_come : HasMade call → Asked call Optimise ⊎ Asked call Stages → IsSome call.reply.trail
  passes_come made (inl asked) = trail_comes passes call made Optimise asked (inl refl)
  passes_come made (inr asked) = trail_comes passes call made Stages asked (inr refl)

  optimised_of : EndingCase call → Asked call Optimise → IfSome call.reply.trail (HasOptimised call)
  optimised_of ends asked = IfSome_then call.reply.trail (trail_has_output passes call ends Optimise asked) (λ trail is. record { read = is.read; improves = is.improves; written = record { text = is.output; is = is.is_output.0 refl; gave = is.written } })

  shown_of : EndingCase call → Asked call Stages → IfSome call.reply.trail (HasShown call)
  shown_of ends asked = IfSome_then call.reply.trail (trail_has_output passes call ends Stages asked) (λ trail is. record { text = is.output; read = is.read; improves = is.improves; shows = is.is_output.1 refl; written = is.written })

  -- and so those of a command that has a trail of motion are those of `move`, `ranges` or `divisions`
  move_is_asked : EndingCase call → IsSome call.reply.moved → StatusIs call 0 × (Asked call Move ⊎ (Asked call Ranges ⊎ Asked call Divisions))
  move_is_asked ends some = (let is = trail_is_asked motion call ends some in (is.0, by is.1.0 is.1.1 is.1.2))
    where
      by : (command : Command) → Asked call command → HasMotion command → Asked call Move ⊎ (Asked call Ranges ⊎ Asked call Divisions)
      by command asked (inl is) = inl (asked ∙ ap (λ (c : Command). Some c) is)
      by command asked (inr (inl is)) = inr (inl (asked ∙ ap (λ (c : Command). Some c) is))
      by command asked (inr (inr is)) = inr (inr (asked ∙ ap (λ (c : Command). Some c) is))

  motion_comes : HasMade call → Asked call Move ⊎ (Asked call Ranges ⊎ Asked call Divisions) → IsSome call.reply.moved
  motion_comes made (inl asked) = trail_comes motion call made Move asked (inl refl)
  motion_comes made (inr (inl asked)) = trail_comes motion call made Ranges asked (inr (inl refl))
  motion_comes made (inr (inr asked)) = trail_comes motion call made Divisions asked (inr (inr refl))

  moved_of : EndingCase call → Asked call Move → IfSome call.reply.moved (HasMoved call)
  moved_of ends asked = IfSome_then call.reply.moved (trail_has_output motion call ends Move asked) (λ trail is.
      let made = is.is_output.of_move refl in record { read = is.read; improves = made.0; written = record { text = is.output; is = made.1; gave = is.written } })

  ranged_of : EndingCase call → Asked call Ranges → IfSome call.reply.moved (HasRanged call)
  ranged_of ends asked = IfSome_then call.reply.moved (trail_has_output motion call ends Ranges asked) (λ trail is.
      let made = is.is_output.of_ranges refl in record { text = is.output; read = is.read; improves = made.0; shows = made.1; written = is.written })

  divided_of : EndingCase call → Asked call Divisions → IfSome call.reply.moved (HasDivided call)
  divided_of ends asked = IfSome_then call.reply.moved (trail_has_output motion call ends Divisions asked) (λ trail is.
      let made = is.is_output.of_divisions refl in record { read = is.read; improves = made.0; written = record { text = is.output; is = made.1; gave = is.written } })

  -- ---- programs that are rewritten

  -- what a command makes that writes a program alone
  rewritten_of : EndingCase call → (command : Command) (Gives : ProgramShape → ProgramShape → Type 0) → ((program : ProgramShape) (outcome : Outcome) (output : List ℕ) → Makes call.words program command outcome output → WritesTarget Gives program outcome output)
      → IsTrue (reads_text command) → Asked call command → is_success call.reply.status → HasRewritten call Gives
  rewritten_of ends command Gives writes reads asked success =
      let has = (success_of ends success).0 in
      let made = has.done.made in
      let is = same_command made.command command (command_of call.words) made.worked.asked asked in
      let of = writes made.program has.outcome has.done.output (subst (λ (c : Command). Makes call.words made.program c has.outcome has.done.output) is made.made) in
      record {
        source = made.program;
        target = of.target;
        read = has_read call.words call.source command made.program made.program made.text reads asked made.worked.read (subst (λ (c : Command). WorksOn c made.text made.program) is made.worked.subject) refl;
        gives = of.gives;
        written = record { text = has.done.output; is = of.written; gave = has.done.written };
      }

  -- ---- all of them

  pub promised : TakesAtMost call.source.old call.source.new (most_bytes + 1) → ((Reads call.words → ⊥) → Untouched call.source) → HasReplied call → Promises call
  promised most unread answers = let whole : EndingCase call = ends call answers in record {
    most = most;
    unread = unread;
    made = λ among. (success_of whole (success_is _ among)).0;
    trail = (has_asked whole, λ at. passes_come (success_of whole (subst is_success (sym at.0) tt)).0 at.1);
    optimised = optimised_of whole;
    stages = shown_of whole;
    moved = (move_is_asked whole, λ at. motion_comes (success_of whole (subst is_success (sym at.0) tt)).0 at.1);
    moves = moved_of whole;
    ranges = ranged_of whole;
    divisions = divided_of whole;
    tails = λ asked at. rewritten_of whole Tails LoopsTails (λ program outcome output makes. makes) refl asked (subst is_success (sym at) tt);
    joins = λ asked at. rewritten_of whole Join JoinsUnits (λ program outcome output makes. makes) refl asked (subst is_success (sym at) tt);
    turns = λ asked at. rewritten_of whole Thorough TurnsThrough (λ program outcome output makes. makes) refl asked (subst is_success (sym at) tt);
    chains = λ asked at. rewritten_of whole Passes (ChainsThrough (passes_in call.words)) (λ program outcome output makes. makes) refl asked (subst is_success (sym at) tt);
    reports = λ steps asked among. reports whole steps asked (success_is _ among);
    of_run = of_run whole;
    tries = λ number units asked at. tries whole number units asked (subst is_success (sym at) tt);
    of_trial = of_trial whole;
    refused = λ among. refused_of whole (refusal_is _ among);
    refuses = λ text complaint tells due. ends_by text complaint tells due whole;
    usage = usage_is whole;
    read_fault = read_fails whole;
    write_fault = write_fails whole;
    memory = memory_is whole;
    silent = λ among. silent_of whole (silent_is _ among);
    quiet = λ among. (success_of whole (success_is _ among)).1;
    statuses = below whole;
    complete = λ text status tells due. completes text status tells due whole;
  }
