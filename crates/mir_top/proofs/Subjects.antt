-- What a trial works on: the program that its numbers draw, which has from 1 to 256 units.
use Rattle.std.proofs.Common.{◌≡◌, ◌<◌, ◌≤◌, ℕ, List, [], ◌∷◌, Option, None, Some, Bool, true, false, ◌&&◌, if◌then◌else◌, length, nat_le, refl, sym, ◌∙◌, ap, subst, arith, codes}
use Rattle.std.proofs.lemmas.Bool.Decides.{nat_tests}
use Rattle.std.specs.declared.alloc.AllocError.{AllocError}
use Rattle.std.specs.List.{list_all}
use Rattle.std.specs.Option.{option_map}
use Rattle.mir_base.specs.Limits.{most_units}
use Rattle.mir_base.specs.Runs.{inputs_of}
use Rattle.mir_base.specs.Shapes.{ProgramShape}
use Rattle.mir_base.specs.Words.{is_text}
use Rattle.mir_interp.specs.declared.report.RunFault.TheVariants.{Memory}
use Rattle.mir_lex.specs.Numbers.{unsigned_number}
use Rattle.mir_sim.specs.Calls.{CallsHigher}
use Rattle.mir_trial.specs.Trial.{trial_program}
use Rattle.mir_top.specs.declared.cause.Cause.TheVariants.{Making}
use Rattle.mir_top.specs.declared.command.Command.{Command}
use Rattle.mir_top.specs.declared.command.Command.TheVariants.{Optimise, Stages, Move, Ranges, Divisions, Tails, Join, Thorough, Passes, Run, Trial}
use Rattle.mir_top.specs.Calls.{IsSubject, Prevents}
use Rattle.mir_top.specs.Commands.{alone_of, chain_of, command_of, is_input, run_of, step_count, trial_of, trial_with}
use Rattle.mir_top.specs.Due.{Needs, WorksOn}
use Rattle.mir_top.specs.Outputs.{no_memory}
use Rattle.mir_top.specs.PassWords.{are_passes}
use Rattle.mir_top.specs.Streams.{Stream}
use Rattle.mir_top.proofs.Judgements.{trial_reads}

-- ---- a trial

-- the command of these words is that of these numbers
trial_asked : (words : List (List ℕ)) (command : Command) (number units : ℕ) → command_of words ≡ Some command → command ≡ Trial number units → command_of words ≡ Some (Trial number units)
trial_asked words command number units asked is = asked ∙ ap (λ (c : Command). Some c) is

-- a trial works on the program of its numbers, and nothing was read
pub drawn_subject : (words : List (List ℕ)) (source : Stream) (command : Command) (number units : ℕ) (program : ProgramShape) → command_of words ≡ Some command → command ≡ Trial number units → program ≡ trial_program number units → IsSubject words source command program
drawn_subject words source command number units program asked is drawn = (
  [],
  record {
    asked = asked;
    read = λ reads. absurd (trial_reads words number units (trial_asked words command number units asked is) reads);
    subject = subst (λ (c : Command). WorksOn c [] program) (sym is) drawn;
  },
)

-- where memory runs out, nothing is made of it
pub drawn_prevents : (words : List (List ℕ)) (source : Stream) (command : Command) (number units : ℕ) (refusal : AllocError) → command_of words ≡ Some command → command ≡ Trial number units → Prevents words source (Making (Memory refusal))
drawn_prevents words source command number units refusal asked is =
    let subject = drawn_subject words source command number units (trial_program number units) asked is refl in
    record { text = subject.0; command = command; program = trial_program number units; worked = subject.1; stopped = no_memory command refusal }

-- ---- the units of a trial

-- a trial has from 1 to 256 units
abbrev pub IsUnitCount : ℕ → Type 0
IsUnitCount units = (0 < units) × (units ≤ most_units)

-- by the tests of both bounds
tested : (number count n units : ℕ) (some few : Bool) → nat_le 1 count ≡ some → nat_le count most_units ≡ few → (if some && few then Some (Trial number count) else None) ≡ Some (Trial n units) → IsUnitCount units
tested number count n units true true least most is =
    let same : count ≡ units = cc in
    let above : 0 < count = grind (arith, nat_tests) in
    let below : count ≤ most_units = grind (arith, nat_tests) in
    subst IsUnitCount same (above, below)
tested number count n units true false least most is = absurd (cc)
tested number count n units false few least most is = absurd (cc)

-- a trial that two words give has as many units as it may have: by cases on whether they are numbers
with_numbers : (first second : Option ℕ) (n units : ℕ) → trial_with first second ≡ Some (Trial n units) → IsUnitCount units
with_numbers None second n units is = absurd (cc)
with_numbers (Some number) None n units is = absurd (cc)
with_numbers (Some number) (Some count) n units is = tested number count n units (nat_le 1 count) (nat_le count most_units) refl refl is

-- the same, by how many words stand behind `trial`
after_trial : (arguments : List (List ℕ)) (n units : ℕ) → trial_of arguments ≡ Some (Trial n units) → IsUnitCount units
after_trial [] n units is = absurd (cc)
after_trial (number ∷ []) n units is = absurd (cc)
after_trial (number ∷ count ∷ []) n units is = with_numbers (unsigned_number number) (unsigned_number count) n units is
after_trial (number ∷ count ∷ other ∷ others) n units is = absurd (cc)

-- a command of one word is no trial
alone_is_none : (command : Command) (arguments : List (List ℕ)) (n units : ℕ) → (command ≡ Trial n units → ⊥) → alone_of command arguments ≡ Some (Trial n units) → ⊥
alone_is_none command [] n units other is = (let e : command ≡ Trial n units = cc in other e)
alone_is_none command (argument ∷ arguments) n units other is = cc

-- nor is a run
run_with : (are : Bool) (count : Option ℕ) (n units : ℕ) → (if are then option_map (λ (k : ℕ). Run k) count else None) ≡ Some (Trial n units) → ⊥
run_with true None n units is = cc
run_with true (Some k) n units is = cc
run_with false count n units is = cc

-- by the words after `run`
after_run : (arguments : List (List ℕ)) (n units : ℕ) → run_of arguments ≡ Some (Trial n units) → ⊥
after_run [] n units is = cc
after_run (steps ∷ inputs) n units is = run_with (list_all is_input inputs) (step_count steps) n units is

-- nor is a chain of passes
chain_with : (are : Bool) (n units : ℕ) → (if are then Some Passes else None) ≡ Some (Trial n units) → ⊥
chain_with true n units is = cc
chain_with false n units is = cc

-- by the words after `passes`
after_passes : (arguments : List (List ℕ)) (n units : ℕ) → chain_of arguments ≡ Some (Trial n units) → ⊥
after_passes arguments n units is = chain_with (are_passes arguments) n units is

-- by which of the commands the first word is
by_word : (optimise stages move ranges divisions tails join thorough passes run trial : Bool) (arguments : List (List ℕ)) (n units : ℕ)
    → (if optimise then alone_of Optimise arguments else if stages then alone_of Stages arguments else if move then alone_of Move arguments else if ranges then alone_of Ranges arguments else if divisions then alone_of Divisions arguments else if tails then alone_of Tails arguments else if join then alone_of Join arguments else if thorough then alone_of Thorough arguments else if passes then chain_of arguments else if run then run_of arguments else if trial then trial_of arguments else None) ≡ Some (Trial n units) → IsUnitCount units
by_word true stages move ranges divisions tails join thorough passes run trial arguments n units is = absurd (alone_is_none Optimise arguments n units (λ e. absurd (cc)) is)
by_word false true move ranges divisions tails join thorough passes run trial arguments n units is = absurd (alone_is_none Stages arguments n units (λ e. absurd (cc)) is)
by_word false false true ranges divisions tails join thorough passes run trial arguments n units is = absurd (alone_is_none Move arguments n units (λ e. absurd (cc)) is)
by_word false false false true divisions tails join thorough passes run trial arguments n units is = absurd (alone_is_none Ranges arguments n units (λ e. absurd (cc)) is)
by_word false false false false true tails join thorough passes run trial arguments n units is = absurd (alone_is_none Divisions arguments n units (λ e. absurd (cc)) is)
by_word false false false false false true join thorough passes run trial arguments n units is = absurd (alone_is_none Tails arguments n units (λ e. absurd (cc)) is)
by_word false false false false false false true thorough passes run trial arguments n units is = absurd (alone_is_none Join arguments n units (λ e. absurd (cc)) is)
by_word false false false false false false false true passes run trial arguments n units is = absurd (alone_is_none Thorough arguments n units (λ e. absurd (cc)) is)
by_word false false false false false false false false true run trial arguments n units is = absurd (after_passes arguments n units is)
by_word false false false false false false false false false true trial arguments n units is = absurd (after_run arguments n units is)
by_word false false false false false false false false false false true arguments n units is = after_trial arguments n units is
by_word false false false false false false false false false false false arguments n units is = absurd (cc)

-- the units of a trial that words ask for
trial_units : (words : List (List ℕ)) (number units : ℕ) → command_of words ≡ Some (Trial number units) → IsUnitCount units
trial_units [] number units is = absurd (cc)
trial_units (word ∷ arguments) number units is =
    by_word (is_text (codes "optimise") word) (is_text (codes "stages") word) (is_text (codes "move") word) (is_text (codes "ranges") word) (is_text (codes "divisions") word) (is_text (codes "tails") word) (is_text (codes "join") word) (is_text (codes "thorough") word) (is_text (codes "passes") word) (is_text (codes "run") word) (is_text (codes "trial") word) arguments number units is

-- the same where the command is known by an equation
pub units_of_trial : (words : List (List ℕ)) (command : Command) (number units : ℕ) → command_of words ≡ Some command → command ≡ Trial number units → IsUnitCount units
units_of_trial words command number units asked is = trial_units words number units (trial_asked words command number units asked is)

-- so a program that was drawn, with so many units, can be tried
pub drawn_needs : (words : List (List ℕ)) (command : Command) (number units : ℕ) (program : ProgramShape) → command_of words ≡ Some command → command ≡ Trial number units
    → inputs_of program ≡ 2 → CallsHigher program → length program.units ≡ units → Needs command program
drawn_needs words command number units program asked is inputs higher long =
    let few = (units_of_trial words command number units asked is).1 in
    subst (λ (c : Command). Needs c program) (sym is) (record { inputs = inputs; higher = higher; few = omega (arith, long, few) })
