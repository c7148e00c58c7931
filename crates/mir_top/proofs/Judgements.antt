-- A text is that of one program, or it is refused for one cause; so for words and a text one thing is due.
use Rattle.std.proofs.Common.{◌≡◌, ◌≢◌, ◌<◌, ◌≤◌, ◌⊎◌, inl, inr, ℕ, ℤ, List, length, Option, None, Some, IsTrue, refl, sym, ◌∙◌, ap, subst, arith}
use Rattle.mir_base.specs.Shapes.{ProgramShape}
use Rattle.mir_base.specs.Runs.{run, inputs_of}
use Rattle.mir_base.specs.Limits.{most_frames}
use Rattle.mir_base.specs.Text.{canonical_text}
use Rattle.mir_opt.specs.declared.trails.Trail.{Trail}
use Rattle.mir_opt.specs.declared.trails.MoveTrail.{MoveTrail}
use Rattle.mir_parse.specs.declared.raw.Raw.{Raw}
use Rattle.mir_valid.specs.Refusals.{refusal}
use Rattle.mir_valid.specs.Stands.{StandsFor}
use Rattle.mir_valid.specs.Texts.{IsTextOf}
use Rattle.mir_top.specs.declared.command.Command.{Command}
use Rattle.mir_top.specs.declared.command.Command.TheVariants.{Optimise, Stages, Move, Ranges, Divisions, Tails, Join, Thorough, Passes, Run, Trial}
use Rattle.mir_top.specs.declared.outcome.Outcome.{Outcome}
use Rattle.mir_top.specs.declared.outcome.Outcome.TheVariants.{Optimised, Shown, Moved, Ranged, Divided}
use Rattle.mir_top.specs.Calls.{reply_of}
use Rattle.mir_top.specs.Commands.{command_of, inputs_in, reads_text, Reads}
use Rattle.mir_top.specs.Complaints.{Complaint, wrong_inputs, deep, of_text, of_program}
use Rattle.mir_top.specs.Due.{IsShortTextOf, WorksOn, IsRefused, long, unreadable, invalid, Refuses, no_command, no_text, wrong_number, too_deep, Completes, of_optimise, of_stages, of_move, of_ranges, of_divisions, of_tails, of_join, of_thorough, of_passes, of_run, of_trial, status_of_finish}
use Rattle.mir_top.specs.PassWords.{passes_in}
use Rattle.mir_top.specs.Outputs.{ChainsThrough, Divides, JoinsUnits, LoopsTails, MovesCode, Optimises, Runs, ShowsTrail, TurnsThrough, WritesReport, WritesSummary, WritesTarget, reported, IsSummary, trail_summary, IsOnlyOutput, Makes}
use Rattle.mir_top.specs.Promises.{HasRead}
use Rattle.mir_top.specs.RangeTexts.{ShowsRanges}
use Rattle.mir_top.specs.StageTexts.{ShowsStages}
use Rattle.mir_top.specs.Streams.{Stream, TookAll}
use Rattle.mir_top.specs.Texts.{IsWritten, OneReading}
use Rattle.mir_top.proofs.RangeLaws.{ranges_same}
use Rattle.mir_top.proofs.ShownLaws.{stages_same}
use Rattle.mir_top.proofs.Statuses.{is_of_run}

-- ---- commands

-- words that are no command are not this command
pub no_command_of : (command : Command) (asked : Option Command) → asked ≡ None → asked ≡ Some command → ⊥
no_command_of command asked none some = absurd (let e = sym none ∙ some in cc)

-- two commands of the same words are one
pub same_command : (one other : Command) (asked : Option Command) → asked ≡ Some one → asked ≡ Some other → one ≡ other
same_command one other asked first second = let e = sym first ∙ second in cc

-- and two runs of the same words have one number of steps
pub same_steps : (one other : ℕ) (asked : Option Command) → asked ≡ Some (Run one) → asked ≡ Some (Run other) → one ≡ other
same_steps one other asked first second = let e = sym first ∙ second in cc

-- a command that reads the text works on the program of the text
pub within_of : (command : Command) (text : List ℕ) (program : ProgramShape) → IsTrue (reads_text command) → WorksOn command text program → IsShortTextOf text program
within_of Optimise text program reads on = on
within_of Stages text program reads on = on
within_of Move text program reads on = on
within_of Ranges text program reads on = on
within_of Divisions text program reads on = on
within_of Tails text program reads on = on
within_of Join text program reads on = on
within_of Thorough text program reads on = on
within_of Passes text program reads on = on
within_of (Run steps) text program reads on = on
within_of (Trial number units) text program reads on = absurd (cc)

-- where the words are of this command and ask for the text, the command is one that reads it
pub reads_of : (words : List (List ℕ)) (command : Command) → command_of words ≡ Some command → Reads words → IsTrue (reads_text command)
reads_of words command asked reads = subst (λ (c : Command). IsTrue (reads_text c)) (same_command reads.0 command (command_of words) reads.1 asked) reads.2

-- where a command read the text, the program that it worked on was read
pub has_read : (words : List (List ℕ)) (source : Stream) (command : Command) (program other : ProgramShape) (text : List ℕ) → IsTrue (reads_text command) → command_of words ≡ Some command → (Reads words → TookAll source text) → WorksOn command text program → other ≡ program → HasRead source other
has_read words source command program other text reads asked read on same = record {
  text = text;
  read = read (command, asked, reads);
  within = subst (IsShortTextOf text) (sym same) (within_of command text program reads on);
}

-- ---- texts

-- a text is that of one program
pub program_same : OneReading → (text : List ℕ) (one other : ProgramShape) → IsTextOf text one → IsTextOf text other → one ≡ other
program_same laws text one other is also =
    let same = laws.raw_one text also.raw is.raw also.spelled is.spelled in
    laws.program_one is.raw is.valid one other is.stands (subst (λ (raw : Raw). StandsFor raw other) same also.stands)

-- the text of a program is not refused
not_refused : OneReading → (text : List ℕ) (program : ProgramShape) (complaint : Complaint) → IsShortTextOf text program → IsRefused text complaint → ⊥
not_refused laws text program _ within (long above) = let h = within.short in omega (arith, above, h)
not_refused laws text program _ within (unreadable fault short refused) = laws.fault_none text fault refused within.parsed.raw within.parsed.spelled
not_refused laws text program _ within (invalid fault short refused) =
    let parsed = within.parsed in
    let same = laws.raw_one text refused.raw parsed.raw refused.spelled parsed.spelled in
    laws.valid_none parsed.raw fault (subst (λ (raw : Raw). refusal raw ≡ Some fault) same refused.refused) parsed.valid

-- a text is refused for one cause
refused_same : OneReading → (text : List ℕ) (one other : Complaint) → IsRefused text one → IsRefused text other → one ≡ other
refused_same laws text _ _ (long above) (long again) = refl
refused_same laws text _ _ (long above) (unreadable fault short refused) = absurd (omega (arith, above, short))
refused_same laws text _ _ (long above) (invalid fault short refused) = absurd (omega (arith, above, short))
refused_same laws text _ _ (unreadable fault short refused) (long above) = absurd (omega (arith, above, short))
refused_same laws text _ _ (unreadable fault short refused) (unreadable other again also) = ap of_text (laws.fault_one text fault other refused also)
refused_same laws text _ _ (unreadable fault short refused) (invalid other again also) = absurd (laws.fault_none text fault refused also.raw also.spelled)
refused_same laws text _ _ (invalid fault short refused) (long above) = absurd (omega (arith, above, short))
refused_same laws text _ _ (invalid fault short refused) (unreadable other again also) = absurd (laws.fault_none text other also refused.raw refused.spelled)
refused_same laws text _ _ (invalid fault short refused) (invalid other again also) =
    let same = laws.raw_one text refused.raw also.raw refused.spelled also.spelled in
    let e : Some fault ≡ Some other = sym (subst (λ (raw : Raw). refusal raw ≡ Some fault) same refused.refused) ∙ also.refused in
    let f : fault ≡ other = cc in ap of_program f

-- ---- what is due

-- a refusal, told apart by what it needs of a program
abbrev Refused : List (List ℕ) → List ℕ → ℕ → ProgramShape → Complaint → Type 0
Refused words text steps program complaint =
    (length (inputs_in words) ≢ inputs_of program → complaint ≡ wrong_inputs (inputs_of program))
    × (length (inputs_in words) ≡ inputs_of program → (most_frames < (run program (inputs_in words) steps).depth) × (complaint ≡ deep))

-- the refusal of a run of the program of the text is that of its inputs or its frames
refused_run : OneReading → (words : List (List ℕ)) (text : List ℕ) (steps : ℕ) (program : ProgramShape) (complaint : Complaint) → command_of words ≡ Some (Run steps) → IsShortTextOf text program → Refuses words text complaint → Refused words text steps program complaint
refused_run laws words text steps program _ asked within (no_command none) = absurd (no_command_of (Run steps) (command_of words) none asked)
refused_run laws words text steps program _ asked within (no_text complaint reads refused) = absurd (not_refused laws text program complaint within refused)
refused_run laws words text steps program _ asked within (wrong_number n other also on wrong) =
    let same = program_same laws text other program on.parsed within.parsed in
    (λ _. ap (λ (p : ProgramShape). wrong_inputs (inputs_of p)) same, λ right. absurd (wrong (right ∙ ap inputs_of (sym same))))
refused_run laws words text steps program _ asked within (too_deep n other also on right above) =
    let same = program_same laws text other program on.parsed within.parsed in
    let steps_same = same_steps n steps (command_of words) also asked in
    let over : most_frames < (run program (inputs_in words) n).depth = subst (λ (p : ProgramShape). most_frames < (run p (inputs_in words) n).depth) same above in
    (λ wrong. absurd (wrong (right ∙ ap inputs_of same)), λ _. (subst (λ (k : ℕ). most_frames < (run program (inputs_in words) k).depth) steps_same over, refl))

-- for words and a text one refusal is due at most
pub refuses_same : OneReading → (words : List (List ℕ)) (text : List ℕ) (one other : Complaint) → Refuses words text one → Refuses words text other → one ≡ other
refuses_same laws words text _ _ (no_command none) (no_command again) = refl
refuses_same laws words text _ _ (no_command none) (no_text complaint reads refused) = absurd (no_command_of reads.0 (command_of words) none reads.1)
refuses_same laws words text _ _ (no_command none) (wrong_number n program asked on wrong) = absurd (no_command_of (Run n) (command_of words) none asked)
refuses_same laws words text _ _ (no_command none) (too_deep n program asked on right above) = absurd (no_command_of (Run n) (command_of words) none asked)
refuses_same laws words text _ _ (no_text complaint reads refused) (no_command none) = absurd (no_command_of reads.0 (command_of words) none reads.1)
refuses_same laws words text _ _ (no_text complaint reads refused) (no_text other again also) = refused_same laws text complaint other refused also
refuses_same laws words text _ _ (no_text complaint reads refused) (wrong_number n program asked on wrong) = absurd (not_refused laws text program complaint on refused)
refuses_same laws words text _ _ (no_text complaint reads refused) (too_deep n program asked on right above) = absurd (not_refused laws text program complaint on refused)
refuses_same laws words text _ other (wrong_number n program asked on wrong) also = sym ((refused_run laws words text n program other asked on also).0 wrong)
refuses_same laws words text _ other (too_deep n program asked on right above) also = sym ((refused_run laws words text n program other asked on also).1 right).1

-- what a run makes
pub runs_of : (words : List (List ℕ)) (program : ProgramShape) (command : Command) (outcome : Outcome) (output : List ℕ) (steps : ℕ) → Makes words program command outcome output → command ≡ Run steps
    → WritesReport program (inputs_in words) steps outcome output
runs_of words program command outcome output steps makes is = subst (λ (c : Command). Makes words program c outcome output) is makes

-- and its status
pub report_status : (program : ProgramShape) (inputs : List ℤ) (steps : ℕ) (outcome : Outcome) (output : List ℕ) → WritesReport program inputs steps outcome output → (reply_of outcome).status ≡ status_of_finish (reported program inputs steps).finish
report_status program inputs steps outcome output report = ap (λ (o : Outcome). (reply_of o).status) report.outcome_is

-- a command is a run, or none
run_or_none : (command : Command) → ((n : ℕ) × (command ≡ Run n)) ⊎ ((n : ℕ) → command ≡ Run n → ⊥)
run_or_none Optimise = inr (λ n is. absurd (cc))
run_or_none Stages = inr (λ n is. absurd (cc))
run_or_none Move = inr (λ n is. absurd (cc))
run_or_none Ranges = inr (λ n is. absurd (cc))
run_or_none Divisions = inr (λ n is. absurd (cc))
run_or_none Tails = inr (λ n is. absurd (cc))
run_or_none Join = inr (λ n is. absurd (cc))
run_or_none Thorough = inr (λ n is. absurd (cc))
run_or_none Passes = inr (λ n is. absurd (cc))
run_or_none (Run steps) = inl (steps, refl)
run_or_none (Trial number units) = inr (λ n is. absurd (cc))

-- what is made by a command that is no run has status 0
status_of_text : (words : List (List ℕ)) (program : ProgramShape) (command : Command) (outcome : Outcome) (output : List ℕ) → Makes words program command outcome output → ((n : ℕ) → command ≡ Run n → ⊥) → (reply_of outcome).status ≡ 0
status_of_text words program Optimise outcome output makes no_run = ap (λ (o : Outcome). (reply_of o).status) makes.outcome_is
status_of_text words program Stages outcome output makes no_run = ap (λ (o : Outcome). (reply_of o).status) makes.outcome_is
status_of_text words program Move outcome output makes no_run = ap (λ (o : Outcome). (reply_of o).status) makes.outcome_is
status_of_text words program Ranges outcome output makes no_run = ap (λ (o : Outcome). (reply_of o).status) makes.outcome_is
status_of_text words program Divisions outcome output makes no_run = ap (λ (o : Outcome). (reply_of o).status) makes.outcome_is
status_of_text words program Tails outcome output makes no_run = ap (λ (o : Outcome). (reply_of o).status) makes.outcome_is
status_of_text words program Join outcome output makes no_run = ap (λ (o : Outcome). (reply_of o).status) makes.outcome_is
status_of_text words program Thorough outcome output makes no_run = ap (λ (o : Outcome). (reply_of o).status) makes.outcome_is
status_of_text words program Passes outcome output makes no_run = ap (λ (o : Outcome). (reply_of o).status) makes.outcome_is
status_of_text words program (Run steps) outcome output makes no_run = absurd (no_run steps refl)
status_of_text words program (Trial number units) outcome output makes no_run = ap (λ (o : Outcome). (reply_of o).status) makes.outcome_is

-- an outcome with status 3 or 4 is that of a run
pub run_of_status : (words : List (List ℕ)) (program : ProgramShape) (command : Command) (outcome : Outcome) (output : List ℕ) → Makes words program command outcome output → is_of_run (reply_of outcome).status → (n : ℕ) × (command ≡ Run n)
run_of_status words program command outcome output makes is = elim (run_or_none command) [
  | inl run ↦ run
  | inr none ↦ absurd (subst is_of_run (status_of_text words program command outcome output makes none) is)
]

-- what a trial makes
pub summary_of : (words : List (List ℕ)) (program : ProgramShape) (command : Command) (outcome : Outcome) (output : List ℕ) (number units : ℕ) → Makes words program command outcome output → command ≡ Trial number units → IsSummary program output
summary_of words program command outcome output number units makes is =
    let made : WritesSummary program outcome output = subst (λ (c : Command). Makes words program c outcome output) is makes in made.summary

-- what a trial makes has status 0
pub status_of_trial : (words : List (List ℕ)) (program : ProgramShape) (command : Command) (outcome : Outcome) (output : List ℕ) (number units : ℕ) → Makes words program command outcome output → command ≡ Trial number units → (reply_of outcome).status ≡ 0
status_of_trial words program command outcome output number units makes is =
    status_of_text words program command outcome output makes (λ n run. let e : Trial number units ≡ Run n = sym is ∙ run in absurd (cc))

-- the words of a trial are not those of a command that reads the text
pub trial_reads : (words : List (List ℕ)) (number units : ℕ) → command_of words ≡ Some (Trial number units) → Reads words → ⊥
trial_reads words number units asked reads = let e = reads_of words (Trial number units) asked reads in absurd (cc)

-- where something is made, nothing is refused
pub makes_no_refusal : OneReading → (words : List (List ℕ)) (text : List ℕ) (command : Command) (program : ProgramShape) (outcome : Outcome) (output : List ℕ) (complaint : Complaint) → command_of words ≡ Some command → WorksOn command text program
    → Makes words program command outcome output → Refuses words text complaint → ⊥
makes_no_refusal laws words text command program outcome output _ asked on makes (no_command none) = no_command_of command (command_of words) none asked
makes_no_refusal laws words text command program outcome output _ asked on makes (no_text complaint reads refused) =
    not_refused laws text program complaint (within_of command text program (reads_of words command asked reads) on) refused
makes_no_refusal laws words text command program outcome output _ asked on makes (wrong_number n other also within wrong) =
    let is = same_command command (Run n) (command_of words) asked also in
    let runs = runs_of words program command outcome output n makes is in
    let same = program_same laws text program other (subst (λ (c : Command). WorksOn c text program) is on).parsed within.parsed in
    wrong (runs.runs.enough ∙ ap inputs_of same)
makes_no_refusal laws words text command program outcome output _ asked on makes (too_deep n other also within right above) =
    let is = same_command command (Run n) (command_of words) asked also in
    let runs = runs_of words program command outcome output n makes is in
    let same = program_same laws text program other (subst (λ (c : Command). WorksOn c text program) is on).parsed within.parsed in
    let shallow : (run other (inputs_in words) n).depth ≤ most_frames = subst (λ (p : ProgramShape). (run p (inputs_in words) n).depth ≤ most_frames) same runs.runs.shallow in
    omega (arith, shallow, above)

-- a command that is no run is refused for its text alone
other_refusal : OneReading → (words : List (List ℕ)) (text : List ℕ) (command : Command) (program : ProgramShape) (complaint : Complaint) → command_of words ≡ Some command → IsShortTextOf text program → ((n : ℕ) → command ≡ Run n → ⊥) → Refuses words text complaint → ⊥
other_refusal laws words text command program _ asked within no_run (no_command none) = no_command_of command (command_of words) none asked
other_refusal laws words text command program _ asked within no_run (no_text complaint reads refused) = not_refused laws text program complaint within refused
other_refusal laws words text command program _ asked within no_run (wrong_number n other also on wrong) = no_run n (same_command command (Run n) (command_of words) asked also)
other_refusal laws words text command program _ asked within no_run (too_deep n other also on right above) = no_run n (same_command command (Run n) (command_of words) asked also)

-- a command that reads no text is not refused
pub unread_refusal : (words : List (List ℕ)) (text : List ℕ) (command : Command) (complaint : Complaint) → command_of words ≡ Some command → (IsTrue (reads_text command) → ⊥) → Refuses words text complaint → ⊥
unread_refusal words text command _ asked unread (no_command none) = no_command_of command (command_of words) none asked
unread_refusal words text command _ asked unread (no_text complaint reads refused) = unread (reads_of words command asked reads)
unread_refusal words text command _ asked unread (wrong_number n other also on wrong) = unread (reads_of words command asked (Run n, also, refl))
unread_refusal words text command _ asked unread (too_deep n other also on right above) = unread (reads_of words command asked (Run n, also, refl))

-- where an output is due, no refusal is
pub completes_no_refusal : OneReading → (words : List (List ℕ)) (text : List ℕ) (status : ℕ) (complaint : Complaint) → Completes words text status → Refuses words text complaint → ⊥
completes_no_refusal laws words text _ complaint (of_optimise program asked on) refuses = other_refusal laws words text Optimise program complaint asked on (λ n is. absurd (cc)) refuses
completes_no_refusal laws words text _ complaint (of_stages program asked on) refuses = other_refusal laws words text Stages program complaint asked on (λ n is. absurd (cc)) refuses
completes_no_refusal laws words text _ complaint (of_move program asked on) refuses = other_refusal laws words text Move program complaint asked on (λ n is. absurd (cc)) refuses
completes_no_refusal laws words text _ complaint (of_ranges program asked on) refuses = other_refusal laws words text Ranges program complaint asked on (λ n is. absurd (cc)) refuses
completes_no_refusal laws words text _ complaint (of_divisions program asked on) refuses = other_refusal laws words text Divisions program complaint asked on (λ n is. absurd (cc)) refuses
completes_no_refusal laws words text _ complaint (of_tails program asked on) refuses = other_refusal laws words text Tails program complaint asked on (λ n is. absurd (cc)) refuses
completes_no_refusal laws words text _ complaint (of_join program asked on) refuses = other_refusal laws words text Join program complaint asked on (λ n is. absurd (cc)) refuses
completes_no_refusal laws words text _ complaint (of_thorough program asked on) refuses = other_refusal laws words text Thorough program complaint asked on (λ n is. absurd (cc)) refuses
completes_no_refusal laws words text _ complaint (of_passes program asked on) refuses = other_refusal laws words text Passes program complaint asked on (λ n is. absurd (cc)) refuses
completes_no_refusal laws words text _ complaint (of_trial number units asked) refuses = unread_refusal words text (Trial number units) complaint asked (λ reads. absurd (cc)) refuses
completes_no_refusal laws words text _ complaint (of_run n program asked on runs) refuses =
    let refused = refused_run laws words text n program complaint asked on refuses in
    let over = (refused.1 runs.enough).0 in let shallow = runs.shallow in omega (arith, over, shallow)

-- what is made where an output is due has the status that is due
pub completes_status : OneReading → (words : List (List ℕ)) (text : List ℕ) (status : ℕ) (command : Command) (program : ProgramShape) (outcome : Outcome) (output : List ℕ) → Completes words text status → command_of words ≡ Some command → WorksOn command text program
    → Makes words program command outcome output → (reply_of outcome).status ≡ status
completes_status laws words text _ command program outcome output (of_optimise other also within) asked on makes =
    status_of_text words program command outcome output makes (λ n is. let e = sym (same_command command Optimise (command_of words) asked also) ∙ is in absurd (cc))
completes_status laws words text _ command program outcome output (of_stages other also within) asked on makes =
    status_of_text words program command outcome output makes (λ n is. let e = sym (same_command command Stages (command_of words) asked also) ∙ is in absurd (cc))
completes_status laws words text _ command program outcome output (of_move other also within) asked on makes =
    status_of_text words program command outcome output makes (λ n is. let e = sym (same_command command Move (command_of words) asked also) ∙ is in absurd (cc))
completes_status laws words text _ command program outcome output (of_ranges other also within) asked on makes =
    status_of_text words program command outcome output makes (λ n is. let e = sym (same_command command Ranges (command_of words) asked also) ∙ is in absurd (cc))
completes_status laws words text _ command program outcome output (of_divisions other also within) asked on makes =
    status_of_text words program command outcome output makes (λ n is. let e = sym (same_command command Divisions (command_of words) asked also) ∙ is in absurd (cc))
completes_status laws words text _ command program outcome output (of_tails other also within) asked on makes =
    status_of_text words program command outcome output makes (λ n is. let e = sym (same_command command Tails (command_of words) asked also) ∙ is in absurd (cc))
completes_status laws words text _ command program outcome output (of_join other also within) asked on makes =
    status_of_text words program command outcome output makes (λ n is. let e = sym (same_command command Join (command_of words) asked also) ∙ is in absurd (cc))
completes_status laws words text _ command program outcome output (of_thorough other also within) asked on makes =
    status_of_text words program command outcome output makes (λ n is. let e = sym (same_command command Thorough (command_of words) asked also) ∙ is in absurd (cc))
completes_status laws words text _ command program outcome output (of_passes other also within) asked on makes =
    status_of_text words program command outcome output makes (λ n is. let e = sym (same_command command Passes (command_of words) asked also) ∙ is in absurd (cc))
completes_status laws words text _ command program outcome output (of_trial number units also) asked on makes =
    status_of_text words program command outcome output makes (λ n is. let e = sym (same_command command (Trial number units) (command_of words) asked also) ∙ is in absurd (cc))
completes_status laws words text _ command program outcome output (of_run n other also within runs) asked on makes =
    let is = same_command command (Run n) (command_of words) asked also in
    let same = program_same laws text program other (subst (λ (c : Command). WorksOn c text program) is on).parsed within.parsed in
    report_status program (inputs_in words) n outcome output (runs_of words program command outcome output n makes is) ∙ ap (λ (p : ProgramShape). status_of_finish (reported p (inputs_in words) n).finish) same

-- under a command that is no run an output is due with status 0
due_of_text : (words : List (List ℕ)) (text : List ℕ) (command : Command) (status : ℕ) → command_of words ≡ Some command → ((n : ℕ) → command ≡ Run n → ⊥) → Completes words text status → 0 ≡ status
due_of_text words text command _ asked no_run (of_optimise program also on) = refl
due_of_text words text command _ asked no_run (of_stages program also on) = refl
due_of_text words text command _ asked no_run (of_move program also on) = refl
due_of_text words text command _ asked no_run (of_ranges program also on) = refl
due_of_text words text command _ asked no_run (of_divisions program also on) = refl
due_of_text words text command _ asked no_run (of_tails program also on) = refl
due_of_text words text command _ asked no_run (of_join program also on) = refl
due_of_text words text command _ asked no_run (of_thorough program also on) = refl
due_of_text words text command _ asked no_run (of_passes program also on) = refl
due_of_text words text command _ asked no_run (of_trial number units also) = refl
due_of_text words text command _ asked no_run (of_run n program also on runs) = absurd (no_run n (same_command command (Run n) (command_of words) asked also))

-- under a run of the program of the text it is due with the status of its end
due_of_run : OneReading → (words : List (List ℕ)) (text : List ℕ) (steps : ℕ) (program : ProgramShape) (status : ℕ) → command_of words ≡ Some (Run steps) → IsShortTextOf text program → Completes words text status → status_of_finish (reported program (inputs_in words) steps).finish ≡ status
due_of_run laws words text steps program _ asked within (of_optimise other also on) = absurd (let e = same_command (Run steps) Optimise (command_of words) asked also in cc)
due_of_run laws words text steps program _ asked within (of_stages other also on) = absurd (let e = same_command (Run steps) Stages (command_of words) asked also in cc)
due_of_run laws words text steps program _ asked within (of_move other also on) = absurd (let e = same_command (Run steps) Move (command_of words) asked also in cc)
due_of_run laws words text steps program _ asked within (of_ranges other also on) = absurd (let e = same_command (Run steps) Ranges (command_of words) asked also in cc)
due_of_run laws words text steps program _ asked within (of_divisions other also on) = absurd (let e = same_command (Run steps) Divisions (command_of words) asked also in cc)
due_of_run laws words text steps program _ asked within (of_tails other also on) = absurd (let e = same_command (Run steps) Tails (command_of words) asked also in cc)
due_of_run laws words text steps program _ asked within (of_join other also on) = absurd (let e = same_command (Run steps) Join (command_of words) asked also in cc)
due_of_run laws words text steps program _ asked within (of_thorough other also on) = absurd (let e = same_command (Run steps) Thorough (command_of words) asked also in cc)
due_of_run laws words text steps program _ asked within (of_passes other also on) = absurd (let e = same_command (Run steps) Passes (command_of words) asked also in cc)
due_of_run laws words text steps program _ asked within (of_trial number units also) = absurd (let e = same_command (Run steps) (Trial number units) (command_of words) asked also in cc)
due_of_run laws words text steps program _ asked within (of_run n other also on runs) =
    ap (λ (p : ProgramShape). status_of_finish (reported p (inputs_in words) steps).finish) (program_same laws text program other within.parsed on.parsed)
    ∙ ap (λ (k : ℕ). status_of_finish (reported other (inputs_in words) k).finish) (same_steps steps n (command_of words) asked also)

-- where an output is due, it is due with one status
pub completes_same : OneReading → (words : List (List ℕ)) (text : List ℕ) (one other : ℕ) → Completes words text one → Completes words text other → one ≡ other
completes_same laws words text _ other (of_optimise program asked on) due = due_of_text words text Optimise other asked (λ n is. absurd (cc)) due
completes_same laws words text _ other (of_stages program asked on) due = due_of_text words text Stages other asked (λ n is. absurd (cc)) due
completes_same laws words text _ other (of_move program asked on) due = due_of_text words text Move other asked (λ n is. absurd (cc)) due
completes_same laws words text _ other (of_ranges program asked on) due = due_of_text words text Ranges other asked (λ n is. absurd (cc)) due
completes_same laws words text _ other (of_divisions program asked on) due = due_of_text words text Divisions other asked (λ n is. absurd (cc)) due
completes_same laws words text _ other (of_tails program asked on) due = due_of_text words text Tails other asked (λ n is. absurd (cc)) due
completes_same laws words text _ other (of_join program asked on) due = due_of_text words text Join other asked (λ n is. absurd (cc)) due
completes_same laws words text _ other (of_thorough program asked on) due = due_of_text words text Thorough other asked (λ n is. absurd (cc)) due
completes_same laws words text _ other (of_passes program asked on) due = due_of_text words text Passes other asked (λ n is. absurd (cc)) due
completes_same laws words text _ other (of_trial number units asked) due = due_of_text words text (Trial number units) other asked (λ n is. absurd (cc)) due
completes_same laws words text _ other (of_run n program asked on runs) due = due_of_run laws words text n program other asked on due

-- ---- outputs

-- two texts of a program are one
written_one : (program : ProgramShape) (one other : List ℕ) → IsWritten program one → IsWritten program other → one ≡ other
written_one program one other p q = p.is ∙ sym q.is

-- what is shown of the one trail of a program
trail_output : {T : Type 0} (source_of : T → ProgramShape) (Reached : T → Type 0) (Shows : T → List ℕ → Type 0) (outcome_of : T → Outcome) (program : ProgramShape)
    → ((trail other : T) → Reached trail → source_of other ≡ source_of trail → Reached other → trail ≡ other)
    → ((trail : T) (one other : List ℕ) → Shows trail one → Shows trail other → one ≡ other)
    → (outcome : Outcome) (one : List ℕ) → ShowsTrail source_of Reached Shows outcome_of program outcome one
    → (again : Outcome) (other : List ℕ) → ShowsTrail source_of Reached Shows outcome_of program again other → one ≡ other
trail_output source_of Reached Shows outcome_of program same one_text outcome one p again other q =
    one_text p.trail one other p.shows (subst (λ t. Shows t other) (sym (same p.trail q.trail p.reached (q.source ∙ sym p.source) q.reached)) q.shows)

-- and the text of the one program that is made
target_output : (Gives : ProgramShape → ProgramShape → Type 0) (program : ProgramShape) → ((one other : ProgramShape) → Gives program one → Gives program other → one ≡ other)
    → (outcome : Outcome) (one : List ℕ) → WritesTarget Gives program outcome one → (again : Outcome) (other : List ℕ) → WritesTarget Gives program again other → one ≡ other
target_output Gives program same outcome one p again other q = p.written.is ∙ ap canonical_text (same p.target q.target p.gives q.gives) ∙ sym q.written.is

-- a program has one trail of all passes
optimises_one : (trail other : Trail) → Optimises trail → other.source ≡ trail.source → Optimises other → trail ≡ other
optimises_one trail other p is q = p.only other is q.linked

-- one trail of code motion alone
moves_one : (trail other : MoveTrail) → MovesCode trail → other.source ≡ trail.source → MovesCode other → trail ≡ other
moves_one trail other p is q = p.improves.only other is q.improves.linked

-- and one trail of the motion of divisions
divides_one : (trail other : MoveTrail) → Divides trail → other.source ≡ trail.source → Divides other → trail ≡ other
divides_one trail other p is q = p.improves.only other is q.improves.linked

-- a command makes one output of a program
pub only_output : (words : List (List ℕ)) (program : ProgramShape) (command : Command) (outcome : Outcome) (output : List ℕ) → Makes words program command outcome output → IsOnlyOutput words program command output
only_output words program Optimise outcome output makes =
    trail_output {T = Trail} (λ trail. trail.source) Optimises (λ trail. IsWritten trail.target) Optimised program optimises_one (λ trail. written_one trail.target) outcome output makes
only_output words program Stages outcome output makes =
    trail_output {T = Trail} (λ trail. trail.source) Optimises ShowsStages Shown program optimises_one stages_same outcome output makes
only_output words program Move outcome output makes =
    trail_output {T = MoveTrail} (λ trail. trail.source) MovesCode (λ trail. IsWritten trail.target) Moved program moves_one (λ trail. written_one trail.target) outcome output makes
only_output words program Ranges outcome output makes =
    trail_output {T = MoveTrail} (λ trail. trail.source) MovesCode (λ trail. ShowsRanges trail.units) Ranged program moves_one (λ trail. ranges_same trail.units) outcome output makes
only_output words program Divisions outcome output makes =
    trail_output {T = MoveTrail} (λ trail. trail.source) Divides (λ trail. IsWritten trail.target) Divided program divides_one (λ trail. written_one trail.target) outcome output makes
only_output words program Tails outcome output makes = target_output LoopsTails program (λ one other p q. p.only other q.exact) outcome output makes
only_output words program Join outcome output makes = target_output JoinsUnits program (λ one other p q. p.only other q.exact) outcome output makes
only_output words program Thorough outcome output makes = target_output TurnsThrough program (λ one other p q. p.rewrites.only other q.rewrites.exact) outcome output makes
only_output words program Passes outcome output makes = target_output (ChainsThrough (passes_in words)) program (λ one other p q. p.only other q.exact) outcome output makes
only_output words program (Run steps) outcome output makes = λ again other also. makes.output_is ∙ sym also.output_is
only_output words program (Trial number units) outcome output makes = λ again other also.
    let p = makes.summary in
    let q = also.summary in
    p.output_is ∙ ap trail_summary (p.optimises.only q.trail (q.source ∙ sym p.source) q.optimises.linked) ∙ sym q.output_is
