-- The law of the frames of runs: where two machines go in lockstep, each of the first is related to a frame of the second.
-- For proofs only, of the crates above.
use Rattle.std.proofs.Common.{◌≡◌, ℕ, zero, suc, List, [], ◌∷◌, length, Some, sym, subst}
use Rattle.std.proofs.lemmas.List.Elements.{All-head, All-tail}
use Rattle.std.proofs.lemmas.Option.{same_Some}
use Rattle.mir_base.specs.Frames.{Answer, Frame, first_frame, resumed, Transition, Continues, Prints, Calls, Returns, Traps}
use Rattle.mir_base.specs.Locksteps.{Alike, Lockstep}
use Rattle.mir_base.specs.Simulations.{HandsOver}
use Rattle.mir_base.specs.UnitRuns.{Machine, AreAnswers, IsCallAnswer}
use Rattle.flow_graph.specs.RunFrames.{IsRunFrame, frame_after, frame_after_transition}

module _ (first second : Machine) (S : Frame → Frame → Type 0) (lockstep : Lockstep first second S) where
  -- within n steps
  abbrev Within : ℕ → Type 0
  Within n = (f g : Frame) (answers : List Answer) (to : Frame) → S f g → AreAnswers first.shared answers → frame_after first.code n f answers ≡ Some to → (there : Frame) × S to there

  -- one step more, by what the two sides do
  one_more : (n : ℕ) → Within n → (t t' : Transition) (answers : List Answer) (to : Frame) → HandsOver first.shared t
      → Alike S t t' → AreAnswers first.shared answers
      → frame_after_transition (frame_after first.code n) t answers ≡ Some to → (there : Frame) × S to there
  one_more n within (Continues c f) (Continues d g) answers to hands alike are is = within f g answers to alike.1 are is
  one_more n within (Prints v f) (Prints w g) answers to hands alike are is = within f g answers to alike.1 are is
  one_more n within (Calls u entry i f) (Calls u' entry' i' g) [] to hands alike are is = cc
  one_more n within (Calls u entry i f) (Calls u' entry' i' g) (a ∷ answers) to hands alike are is =
      let one : IsCallAnswer (length entry.globals) a = subst (λ shared. IsCallAnswer shared a) (sym hands) (All-head (IsCallAnswer first.shared) a answers are) in
      within (resumed i a f) (resumed i' a g) answers to (alike.2 a one) (All-tail (IsCallAnswer first.shared) a answers are) is
  one_more n within (Returns a) (Returns b) answers to hands alike are is = cc
  one_more n within (Traps k c) (Traps l d) answers to hands alike are is = cc
  one_more n within _ _ answers to hands alike are is = absurd alike

  within_all : (n : ℕ) → Within n
  within_all zero f g answers to s are is = (g, subst (λ h. S h g) (same_Some f to is) s)
  within_all (suc n) f g answers to s are is = one_more n (within_all n) (first.code f) (second.code g) answers to (lockstep.hands f) (lockstep.steps f g s) are is

  -- so each frame of a run is related
  pub run_frame_related : (f : Frame) → IsRunFrame first f → (there : Frame) × S f there
  run_frame_related f comes = within_all comes.steps (first_frame comes.entry) (first_frame comes.entry) comes.answers f (lockstep.starts comes.entry comes.is_entry) comes.are_answers comes.is
