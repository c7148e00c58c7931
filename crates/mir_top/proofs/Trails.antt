-- The trail of all passes, and those of code motion and of the motion of divisions alone, by one set of lemmas: a trail
-- comes exactly with status 0 under its commands, and with the output that each of them asks.
use Rattle.std.proofs.Common.{◌≡◌, ◌⊎◌, inl, inr, ℕ, List, Option, None, Some, IsSome, IfSome, IsTrue, refl, sym, ◌∙◌, ap, subst}
use Rattle.std.proofs.lemmas.Option.{IfSome_then}
use Rattle.mir_base.specs.Shapes.{ProgramShape}
use Rattle.mir_opt.specs.declared.trails.Trail.{Trail}
use Rattle.mir_opt.specs.declared.trails.MoveTrail.{MoveTrail}
use Rattle.mir_top.specs.declared.reply.Reply.{Reply}
use Rattle.mir_top.specs.declared.command.Command.{Command}
use Rattle.mir_top.specs.declared.command.Command.TheVariants.{Optimise, Stages, Move, Ranges, Divisions, Tails, Join, Thorough, Passes, Run, Trial}
use Rattle.mir_top.specs.declared.outcome.Outcome.{Outcome}
use Rattle.mir_top.specs.Calls.{Call, reply_of, refusal_with, IsDone}
use Rattle.mir_top.specs.Commands.{command_of, reads_text}
use Rattle.mir_top.specs.Outputs.{Divides, Optimises, MovesCode, Makes}
use Rattle.mir_top.specs.Promises.{Asked, HasMade, HasRead, StatusIs}
use Rattle.mir_top.specs.RangeTexts.{ShowsRanges}
use Rattle.mir_top.specs.StageTexts.{ShowsStages}
use Rattle.mir_top.specs.Streams.{Gave}
use Rattle.mir_top.specs.Texts.{IsWritten}
use Rattle.mir_top.proofs.Endings.{EndingCase, ends_done, ends_cut, ends_failed, ends_out_of_memory, ends_refused}
use Rattle.mir_top.proofs.Judgements.{same_command, has_read}

-- what a trail in this field of the reply says of its making: this is of one of its commands, with the program as the
-- source, and the output is what the command asks of the trail
abbrev IsTrailOf : {T : Type 0} → (Own : Command → Type 0) (source : T → ProgramShape) (Improved : T → Type 0) (Output : T → Command → List ℕ → Type 0) → ProgramShape → Command → Outcome → List ℕ → T → Type 0
IsTrailOf Own source Improved Output program command outcome output trail =
    ((reply_of outcome).status ≡ 0) × Own command × (source trail ≡ program) × Improved trail × Output trail command output

-- a field of the reply has the trail of some commands: with an outcome of these, and with no other
pub record HasTrails {T : Type 0} (Own : Command → Type 0) (field : Reply → Option T) (source : T → ProgramShape) (Improved : T → Type 0) (Output : T → Command → List ℕ → Type 0) : Type 0 where
  reads : (command : Command) → Own command → IsTrue (reads_text command)
  empty : (status : ℕ) → field (refusal_with status) ≡ None
  of : (words : List (List ℕ)) (program : ProgramShape) (command : Command) (outcome : Outcome) (output : List ℕ) → Makes words program command outcome output
      → IfSome (field (reply_of outcome)) (IsTrailOf Own source Improved Output program command outcome output)
  comes : (words : List (List ℕ)) (program : ProgramShape) (command : Command) (outcome : Outcome) (output : List ℕ) → Makes words program command outcome output
      → Own command → IsSome (field (reply_of outcome))

-- ---- the trail of all passes

-- the commands whose reply has a trail of all passes
abbrev pub HasPasses : Command → Type 0
HasPasses command = (command ≡ Optimise) ⊎ (command ≡ Stages)

-- what they ask of it: the text of the target, and those of all stages
abbrev pub IsPassesOutput : Trail → Command → List ℕ → Type 0
IsPassesOutput trail command output = (command ≡ Optimise → IsWritten trail.target output) × (command ≡ Stages → ShowsStages trail output)

-- both read the text
passes_read : (command : Command) → HasPasses command → IsTrue (reads_text command)
passes_read command (inl is) = subst (λ (c : Command). IsTrue (reads_text c)) (sym is) refl
passes_read command (inr is) = subst (λ (c : Command). IsTrue (reads_text c)) (sym is) refl

-- what an outcome says of such a trail
abbrev SaysPasses : ProgramShape → Command → List ℕ → Outcome → Type 0
SaysPasses program command output outcome = IfSome (reply_of outcome).trail (IsTrailOf HasPasses (λ (t : Trail). t.source) Optimises IsPassesOutput program command outcome output)

-- of the outcomes those of the two alone have a trail of all passes, and it is of its making
passes_of : (words : List (List ℕ)) (program : ProgramShape) (command : Command) (outcome : Outcome) (output : List ℕ) → Makes words program command outcome output → SaysPasses program command output outcome
passes_of words program Optimise outcome output makes = subst (SaysPasses program Optimise output) (sym makes.outcome_is) (refl, inl refl, makes.source, makes.reached, (λ _. makes.shows, λ is. absurd (cc)))
passes_of words program Stages outcome output makes = subst (SaysPasses program Stages output) (sym makes.outcome_is) (refl, inr refl, makes.source, makes.reached, (λ is. absurd (cc), λ _. makes.shows))
passes_of words program Move outcome output makes = subst (SaysPasses program Move output) (sym makes.outcome_is) tt
passes_of words program Ranges outcome output makes = subst (SaysPasses program Ranges output) (sym makes.outcome_is) tt
passes_of words program Divisions outcome output makes = subst (SaysPasses program Divisions output) (sym makes.outcome_is) tt
passes_of words program Tails outcome output makes = subst (SaysPasses program Tails output) (sym makes.outcome_is) tt
passes_of words program Join outcome output makes = subst (SaysPasses program Join output) (sym makes.outcome_is) tt
passes_of words program Thorough outcome output makes = subst (SaysPasses program Thorough output) (sym makes.outcome_is) tt
passes_of words program Passes outcome output makes = subst (SaysPasses program Passes output) (sym makes.outcome_is) tt
passes_of words program (Run steps) outcome output makes = subst (SaysPasses program (Run steps) output) (sym makes.outcome_is) tt
passes_of words program (Trial number units) outcome output makes = subst (SaysPasses program (Trial number units) output) (sym makes.outcome_is) tt

-- under `optimise` and `stages` the outcome has a trail
passes_come : (words : List (List ℕ)) (program : ProgramShape) (command : Command) (outcome : Outcome) (output : List ℕ) → Makes words program command outcome output
    → HasPasses command → IsSome (reply_of outcome).trail
passes_come words program command outcome output makes (inl is) =
    let made : Makes words program Optimise outcome output = subst (λ (c : Command). Makes words program c outcome output) is makes in
    subst (λ (o : Outcome). IsSome (reply_of o).trail) (sym made.outcome_is) refl
passes_come words program command outcome output makes (inr is) =
    let made : Makes words program Stages outcome output = subst (λ (c : Command). Makes words program c outcome output) is makes in
    subst (λ (o : Outcome). IsSome (reply_of o).trail) (sym made.outcome_is) refl

-- so the field `trail` of a reply has the trail of `optimise` and of `stages`
pub passes : HasTrails HasPasses (λ (a : Reply). a.trail) (λ (t : Trail). t.source) Optimises IsPassesOutput
passes = record { reads = passes_read; empty = λ status. refl; of = passes_of; comes = passes_come }

-- ---- the trails of code motion alone and of the motion of divisions alone

-- the commands whose reply has such a trail
abbrev pub HasMotion : Command → Type 0
HasMotion command = (command ≡ Move) ⊎ ((command ≡ Ranges) ⊎ (command ≡ Divisions))

-- what they say and ask of it: the text of the target, or where its temporaries are held
pub record IsMotionOutput (trail : MoveTrail) (command : Command) (output : List ℕ) : Type 0 where
  pub of_move : command ≡ Move → MovesCode trail × IsWritten trail.target output
  pub of_ranges : command ≡ Ranges → MovesCode trail × ShowsRanges trail.units output
  pub of_divisions : command ≡ Divisions → Divides trail × IsWritten trail.target output

-- what is said of a move trail whatever the command: nothing
abbrev pub IsAny : MoveTrail → Type 0
IsAny trail = Unit {0}

-- all read the text
motion_reads : (command : Command) → HasMotion command → IsTrue (reads_text command)
motion_reads command (inl is) = subst (λ (c : Command). IsTrue (reads_text c)) (sym is) refl
motion_reads command (inr (inl is)) = subst (λ (c : Command). IsTrue (reads_text c)) (sym is) refl
motion_reads command (inr (inr is)) = subst (λ (c : Command). IsTrue (reads_text c)) (sym is) refl

-- what an outcome says of such a trail
abbrev SaysMotion : ProgramShape → Command → List ℕ → Outcome → Type 0
SaysMotion program command output outcome = IfSome (reply_of outcome).moved (IsTrailOf HasMotion (λ (t : MoveTrail). t.source) IsAny IsMotionOutput program command outcome output)

-- of the outcomes those of the three alone have such a trail
motion_of : (words : List (List ℕ)) (program : ProgramShape) (command : Command) (outcome : Outcome) (output : List ℕ) → Makes words program command outcome output → SaysMotion program command output outcome
motion_of words program Optimise outcome output makes = subst (SaysMotion program Optimise output) (sym makes.outcome_is) tt
motion_of words program Stages outcome output makes = subst (SaysMotion program Stages output) (sym makes.outcome_is) tt
motion_of words program Move outcome output makes = subst (SaysMotion program Move output) (sym makes.outcome_is) (refl, inl refl, makes.source, tt, record { of_move = λ _. (makes.reached, makes.shows); of_ranges = λ is. absurd (cc); of_divisions = λ is. absurd (cc) })
motion_of words program Ranges outcome output makes = subst (SaysMotion program Ranges output) (sym makes.outcome_is) (refl, inr (inl refl), makes.source, tt, record { of_move = λ is. absurd (cc); of_ranges = λ _. (makes.reached, makes.shows); of_divisions = λ is. absurd (cc) })
motion_of words program Divisions outcome output makes = subst (SaysMotion program Divisions output) (sym makes.outcome_is) (refl, inr (inr refl), makes.source, tt, record { of_move = λ is. absurd (cc); of_ranges = λ is. absurd (cc); of_divisions = λ _. (makes.reached, makes.shows) })
motion_of words program Tails outcome output makes = subst (SaysMotion program Tails output) (sym makes.outcome_is) tt
motion_of words program Join outcome output makes = subst (SaysMotion program Join output) (sym makes.outcome_is) tt
motion_of words program Thorough outcome output makes = subst (SaysMotion program Thorough output) (sym makes.outcome_is) tt
motion_of words program Passes outcome output makes = subst (SaysMotion program Passes output) (sym makes.outcome_is) tt
motion_of words program (Run steps) outcome output makes = subst (SaysMotion program (Run steps) output) (sym makes.outcome_is) tt
motion_of words program (Trial number units) outcome output makes = subst (SaysMotion program (Trial number units) output) (sym makes.outcome_is) tt

-- under the three the outcome is one of these
motion_comes : (words : List (List ℕ)) (program : ProgramShape) (command : Command) (outcome : Outcome) (output : List ℕ) → Makes words program command outcome output
    → HasMotion command → IsSome (reply_of outcome).moved
motion_comes words program command outcome output makes (inl is) =
    let made : Makes words program Move outcome output = subst (λ (c : Command). Makes words program c outcome output) is makes in
    subst (λ (o : Outcome). IsSome (reply_of o).moved) (sym made.outcome_is) refl
motion_comes words program command outcome output makes (inr (inl is)) =
    let made : Makes words program Ranges outcome output = subst (λ (c : Command). Makes words program c outcome output) is makes in
    subst (λ (o : Outcome). IsSome (reply_of o).moved) (sym made.outcome_is) refl
motion_comes words program command outcome output makes (inr (inr is)) =
    let made : Makes words program Divisions outcome output = subst (λ (c : Command). Makes words program c outcome output) is makes in
    subst (λ (o : Outcome). IsSome (reply_of o).moved) (sym made.outcome_is) refl

-- so the field `moved` has the trail of all three
pub motion : HasTrails HasMotion (λ (a : Reply). a.moved) (λ (t : MoveTrail). t.source) IsAny IsMotionOutput
motion = record { reads = motion_reads; empty = λ status. refl; of = motion_of; comes = motion_comes }

-- ---- both

-- what holds of a value that is there
some_has : {X Q : Type 0} (o : Option X) {P : X → Type 0} → IfSome o P → ((x : X) → P x → Q) → IsSome o → Q
some_has None is f some = absurd (cc)
some_has (Some x) is f some = f x is

module _ {T : Type 0} {Own : Command → Type 0} {field : Reply → Option T} {source : T → ProgramShape} {Improved : T → Type 0} {Output : T → Command → List ℕ → Type 0} (has : HasTrails Own field source Improved Output) (call : Call) where
  -- the words are of a command that has such a trail, and what it asks was written
  record IsAsked (trail : T) : Type 0 where
    command : Command
    asked : Asked call command
    own : Own command
    output : List ℕ
    is_output : Output trail command output
    written : Gave call.out output

  -- what is promised of a trail with this reply
  abbrev IsPromised : Reply → T → Type 0
  IsPromised reply trail = (reply.status ≡ 0) × IsAsked trail × HasRead call.source (source trail) × Improved trail

  of_done : (outcome : Outcome) → IsDone call.words call.source call.out outcome → IfSome (field (reply_of outcome)) (IsPromised (reply_of outcome))
  of_done outcome is =
      let made = is.made in
      let worked = made.worked in
      IfSome_then (field (reply_of outcome)) (has.of call.words made.program made.command outcome is.output made.made) (λ trail of. (
        of.0,
        record { command = made.command; asked = worked.asked; own = of.1; output = is.output; is_output = of.4; written = is.written },
        has_read call.words call.source made.command made.program (source trail) made.text (has.reads made.command of.1) worked.asked worked.read worked.subject of.2,
        of.3,
      ))

  of_refusal : (status : ℕ) → call.reply ≡ refusal_with status → IfSome (field call.reply) (IsPromised call.reply)
  of_refusal status is = subst (λ (o : Option T). IfSome o (IsPromised call.reply)) (sym (ap field is ∙ has.empty status)) tt

  promised_of : EndingCase call → IfSome (field call.reply) (IsPromised call.reply)
  promised_of (ends_done outcome replied is quiet) = subst (λ (a : Reply). IfSome (field a) (IsPromised a)) (sym replied) (of_done outcome is)
  promised_of (ends_cut replied is told) = of_refusal 7 replied
  promised_of (ends_failed replied reads fails silent told) = of_refusal 6 replied
  promised_of (ends_out_of_memory replied asked silent told) = of_refusal 8 replied
  promised_of (ends_refused text complaint replied seen refuses silent told) = of_refusal complaint.status replied

  -- where the words are of this command, the trail of a reply has the output that it asks
  pub record HasOutput (command : Command) (trail : T) : Type 0 where
    pub read : HasRead call.source (source trail)
    pub improves : Improved trail
    pub output : List ℕ
    pub is_output : Output trail command output
    pub written : Gave call.out output

  pub trail_has_output : EndingCase call → (command : Command) → Asked call command → IfSome (field call.reply) (HasOutput command)
  trail_has_output ends command asked = IfSome_then (field call.reply) (promised_of ends) (λ trail is.
      let made = is.1 in record {
        read = is.2;
        improves = is.3;
        output = made.output;
        is_output = subst (λ (c : Command). Output trail c made.output) (same_command made.command command (command_of call.words) made.asked asked) made.is_output;
        written = made.written;
      })

  -- where there is a trail, the status is 0, and the words are those of one of its commands
  pub trail_is_asked : EndingCase call → IsSome (field call.reply) → StatusIs call 0 × ((command : Command) × Asked call command × Own command)
  trail_is_asked ends some = some_has (field call.reply) (promised_of ends) (λ trail is. (is.0, (is.1.command, is.1.asked, is.1.own))) some

  -- where an output of one of its commands was made, there is a trail
  pub trail_comes : HasMade call → (command : Command) → Asked call command → Own command → IsSome (field call.reply)
  trail_comes made command asked own =
      let output = made.done.made in
      subst (λ (a : Reply). IsSome (field a)) (sym made.reply)
      (has.comes call.words output.program output.command made.outcome made.done.output output.made (subst Own (same_command command output.command (command_of call.words) asked output.worked.asked) own))
