-- The law of steps in runs: two machines do the same where, at each frame of a run of the first, they take alike steps.
-- So all that is known of the frames of runs may be used for each step. For proofs only, here and above.
use Rattle.std.proofs.Common.{◌≡◌, ℕ, suc, ◌+◌, List, [], ◌∷◌, ◌++◌, sym, ap, ◌∙◌, refl, subst, arith}
use Rattle.std.proofs.lemmas.List.{append_assoc, append-nil}
use Rattle.std.proofs.lemmas.List.Elements.{All-append, All-cons, All-nil}
use Rattle.mir_base.specs.Frames.{CallEntry, Answer, Frame, first_frame, resumed, Transition, Continues, Prints, Calls, Returns, Traps}
use Rattle.mir_base.specs.LockstepLaws.{lockstep_cheaper, lockstep_same}
use Rattle.mir_base.specs.Locksteps.{Alike, Lockstep}
use Rattle.mir_base.specs.Simulations.{HandsOver}
use Rattle.mir_base.specs.UnitRuns.{Machine, AreAnswers, IsCallAnswer, IsEntry, UnitSame, UnitCheaper}
use Rattle.flow_graph.specs.RunFrames.{IsRunFrame, frame_after, frame_after_transition}

-- ---- the frames to which runs come

-- after so many steps, for which it has used these answers, a run stands at the frame, whatever it does next
pub record RunsTo (machine : Machine) (f : Frame) : Type 0 where
  pub entry : CallEntry
  pub is_entry : IsEntry machine entry
  pub used : List Answer
  pub are_answers : AreAnswers machine.shared used
  pub steps : ℕ
  pub is : (more : ℕ) (rest : List Answer)
      → frame_after machine.code (steps + more) (first_frame entry) (used ++ rest)
      ≡ frame_after machine.code more f rest

module _ (machine : Machine) where
  -- so it is of the first frame
  runs_to_first : (entry : CallEntry) → IsEntry machine entry → RunsTo machine (first_frame entry)
  runs_to_first entry is = record {
    entry = entry;
    is_entry = is;
    used = [];
    are_answers = All-nil (IsCallAnswer machine.shared);
    steps = 0;
    is = λ more rest.
        let none : 0 + more ≡ more = omega arith in
        ap (λ n. frame_after machine.code n (first_frame entry) rest) none;
  }

  -- and of the frame after a step for which no answer is used
  runs_to_next : (f next : Frame) → RunsTo machine f
      → ((more : ℕ) (rest : List Answer) → frame_after machine.code (suc more) f rest ≡ frame_after machine.code more next rest)
      → RunsTo machine next
  runs_to_next f next comes leads = record {
    entry = comes.entry;
    is_entry = comes.is_entry;
    used = comes.used;
    are_answers = comes.are_answers;
    steps = comes.steps + 1;
    is = λ more rest.
        let one : comes.steps + 1 + more ≡ comes.steps + suc more = omega arith in
        ap (λ n. frame_after machine.code n (first_frame comes.entry) (comes.used ++ rest)) one ∙ comes.is (suc more) rest ∙ leads more rest;
  }

  -- and of the frame after a step that uses an answer
  runs_to_answered : (f next : Frame) (a : Answer) → RunsTo machine f → IsCallAnswer machine.shared a
      → ((more : ℕ) (rest : List Answer) → frame_after machine.code (suc more) f (a ∷ rest) ≡ frame_after machine.code more next rest)
      → RunsTo machine next
  runs_to_answered f next a comes one_answer leads = record {
    entry = comes.entry;
    is_entry = comes.is_entry;
    used = comes.used ++ a ∷ [];
    are_answers = All-append (IsCallAnswer machine.shared) comes.used (a ∷ []) comes.are_answers (All-cons (IsCallAnswer machine.shared) a [] one_answer (All-nil (IsCallAnswer machine.shared)));
    steps = comes.steps + 1;
    is = λ more rest.
        let one : comes.steps + 1 + more ≡ comes.steps + suc more = omega arith in
        ap (λ n. frame_after machine.code n (first_frame comes.entry) ((comes.used ++ a ∷ []) ++ rest)) one
        ∙ ap (frame_after machine.code (comes.steps + suc more) (first_frame comes.entry)) (append_assoc comes.used (a ∷ []) rest)
        ∙ comes.is (suc more) (a ∷ rest) ∙ leads more rest;
  }

  -- it is a frame of a run
  run_frame : (f : Frame) → RunsTo machine f → IsRunFrame machine f
  run_frame f comes = record {
    entry = comes.entry;
    answers = comes.used ++ [];
    is_entry = comes.is_entry;
    are_answers = subst (AreAnswers machine.shared) (sym (append-nil comes.used)) comes.are_answers;
    steps = comes.steps + 0;
    is = comes.is 0 [];
  }

-- ---- steps from the frames of runs

module _ (first second : Machine) (receives : first.receives ≡ second.receives) (shared : first.shared ≡ second.shared)
    (hands : (f : Frame) → HandsOver first.shared (first.code f))
    (S : Frame → Frame → Type 0)
    (starts : (entry : CallEntry) → IsEntry first entry → S (first_frame entry) (first_frame entry))
    (steps : (f g : Frame) → IsRunFrame first f → S f g → Alike S (first.code f) (second.code g)) where
  -- related, and a run of the first comes to its frame
  record InRun (f g : Frame) : Type 0 where
    related : S f g
    comes : RunsTo first f

  -- so are the frames after alike steps
  still_in_run : (f : Frame) → RunsTo first f → (t t' : Transition) → first.code f ≡ t → HandsOver first.shared t → Alike S t t' → Alike InRun t t'
  still_in_run f comes (Continues c next) (Continues d next') is over alike =
      (alike.0, record { related = alike.1; comes = runs_to_next first f next comes (λ more rest. ap (λ t. frame_after_transition (frame_after first.code more) t rest) is) })
  still_in_run f comes (Prints v next) (Prints w next') is over alike =
      (alike.0, record { related = alike.1; comes = runs_to_next first f next comes (λ more rest. ap (λ t. frame_after_transition (frame_after first.code more) t rest) is) })
  still_in_run f comes (Calls unit entry into next) (Calls unit' entry' into' next') is over alike = (
    alike.0,
    alike.1,
    λ a one. record {
      related = alike.2 a one;
      comes = runs_to_answered first f (resumed into a next) a comes (subst (λ n. IsCallAnswer n a) over one) (λ more rest. ap (λ t. frame_after_transition (frame_after first.code more) t (a ∷ rest)) is);
    },
  )
  still_in_run f comes (Returns a) (Returns b) is over alike = alike
  still_in_run f comes (Traps k c) (Traps l d) is over alike = alike
  still_in_run f comes _ _ is over alike = absurd alike

  in_run_lockstep : Lockstep first second InRun
  in_run_lockstep = record {
    receives = receives;
    shared = shared;
    hands = hands;
    starts = λ entry is. record { related = starts entry is; comes = runs_to_first first entry is };
    steps = λ f g in_run. still_in_run f in_run.comes (first.code f) (second.code g) refl (hands f) (steps f g (run_frame first f in_run.comes) in_run.related);
  }

  -- the two do the same
  pub same_in_runs : UnitSame first second
  same_in_runs = lockstep_same first second InRun in_run_lockstep

  -- and the second evaluates no more operators
  pub cheaper_in_runs : UnitCheaper first second
  cheaper_in_runs = lockstep_cheaper first second InRun in_run_lockstep
