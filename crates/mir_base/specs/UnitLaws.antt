-- Sameness of units is an equivalence, and units that are the same and cheaper can be chained. For proofs only.
use Rattle.std.proofs.Common.{◌≡◌, ℕ, zero, suc, ℤ, List, [], ◌∷◌, ◌++◌, refl, sym, ap, ◌∙◌, subst, arith, append-nil, append_assoc}
use Rattle.mir_base.specs.Frames.{CallEntry, Answer, Frame, first_frame, resumed, Transition, Continues, Prints, Calls, Returns, Traps, Code}
use Rattle.mir_base.specs.UnitRuns.{Event, Printed, Called, Shown, after_transition, frame_run, EndsInReturn, Machine, unit_run, AreGlobals, IsEntry, AreAnswers, UnitFollows, UnitSame, UnitCheaper}
use Rattle.mir_base.specs.SilentLaws.{prefix_trans}

-- ---- UnitSame

-- each run is matched by itself
follows_refl : (a : Machine) → UnitFollows a a
follows_refl a = record { follows = λ entry answers is are n. (n, ([], sym (append-nil (unit_run a entry answers n).events))) }

-- each machine does the same as itself
pub same_refl : (a : Machine) → UnitSame a a
same_refl a = record { receives = refl; shared = refl; forth = follows_refl a; back = follows_refl a }

-- the same values may be those of as many globals
globals_of_as_many : (n m : ℕ) → n ≡ m → (globals : List ℤ) → AreGlobals n globals → AreGlobals m globals
globals_of_as_many n m same globals are = record { long = are.long ∙ same; numbers = are.numbers }

-- who receives as many arguments, and has as many globals, is entered with the same ones
pub entered : (a b : Machine) → a.receives ≡ b.receives → a.shared ≡ b.shared → (entry : CallEntry) → IsEntry a entry → IsEntry b entry
entered a b receives shared entry is = record { long = is.long ∙ receives; numbers = is.numbers; globals = globals_of_as_many a.shared b.shared shared entry.globals is.globals }

-- two comparisons, one after the other
follows_trans : (a b c : Machine) → a.receives ≡ b.receives → a.shared ≡ b.shared → UnitFollows a b → UnitFollows b c → UnitFollows a c
follows_trans a b c receives shared s t =
    record {
      follows = λ entry answers is are n.
          let p = s.follows entry answers is are n in
          let q = t.follows entry answers (entered a b receives shared entry is) (subst (λ n. AreAnswers n answers) shared are) p.0 in
          (q.0, prefix_trans (unit_run a entry answers n).events (unit_run b entry answers p.0).events (unit_run c entry answers q.0).events p.1 q.1);
    }

-- through a third machine
pub same_trans : (a b c : Machine) → UnitSame a b → UnitSame b c → UnitSame a c
same_trans a b c s t = record {
  receives = s.receives ∙ t.receives;
  shared = s.shared ∙ t.shared;
  forth = follows_trans a b c s.receives s.shared s.forth t.forth;
  back = follows_trans c b a (sym t.receives) (sym t.shared) t.back s.back;
}

-- ---- after a return nothing is shown

-- if a joined list is empty, so is its second half
nothing_after : (xs rest : List Event) → [] ≡ xs ++ rest → rest ≡ []
nothing_after [] rest e = sym e
nothing_after (x ∷ xs) rest e = cc

module _ (go : Frame → List Answer → Shown) (ih : (f : Frame) (answers : List Answer) (xs rest : List Event) → (go f answers).events ≡ xs ++ rest → EndsInReturn xs → rest ≡ []) where
  last_after : (t : Transition) (answers : List Answer) (x : Event) (xs rest : List Event)
      → (after_transition go t answers).events ≡ x ∷ (xs ++ rest) → EndsInReturn (x ∷ xs) → rest ≡ []
  last_after (Continues n next) answers x xs rest e ends = ih next answers (x ∷ xs) rest e ends
  last_after (Prints v next) answers x xs rest e ends =
      let same : x ≡ Printed v = cc in
      let tail : (go next answers).events ≡ xs ++ rest = cc in
      ih next answers xs rest tail (subst (λ y. EndsInReturn (y ∷ xs)) same ends)
  last_after (Calls u entry into next) [] x xs rest e ends =
      let tail : [] ≡ xs ++ rest = cc in
      nothing_after xs rest tail
  last_after (Calls u entry into next) (answer ∷ answers) x xs rest e ends =
      let same : x ≡ Called u entry = cc in
      let tail : (go (resumed into answer next) answers).events ≡ xs ++ rest = cc in
      ih (resumed into answer next) answers xs rest tail (subst (λ y. EndsInReturn (y ∷ xs)) same ends)
  last_after (Returns answer) answers x xs rest e ends =
      let tail : [] ≡ xs ++ rest = cc in
      nothing_after xs rest tail
  last_after (Traps kind n) answers x xs rest e ends =
      let tail : [] ≡ xs ++ rest = cc in
      nothing_after xs rest tail

-- a run that returned shows nothing more: by its transitions, one after the other
return_last : (code : Code) (n : ℕ) (f : Frame) (answers : List Answer) (xs rest : List Event)
    → (frame_run code n f answers).events ≡ xs ++ rest → EndsInReturn xs → rest ≡ []
return_last code n f answers [] rest e ends = absurd ends
return_last code zero f answers (x ∷ xs) rest e ends = cc
return_last code (suc n) f answers (x ∷ xs) rest e ends = last_after (frame_run code n) (return_last code n) (code f) answers x xs rest e ends

-- if a joined list is empty, so is its first half
front_none : (xs ys : List Event) → xs ++ ys ≡ [] → xs ≡ []
front_none [] ys e = refl
front_none (x ∷ xs) ys e = cc

-- of two machines that do the same, the second returns where the first does: what it shows more, the first would show
-- after its return
ends_too : (a b : Machine) → UnitSame a b → (entry : CallEntry) (answers : List Answer) → IsEntry a entry
    → AreAnswers a.shared answers → (n : ℕ) → EndsInReturn (unit_run a entry answers n).events
    → (m : ℕ) × EndsInReturn (unit_run b entry answers m).events
ends_too a b same entry answers is are n ends =
    let shown : List Event = (unit_run a entry answers n).events in
    let p = same.forth.follows entry answers is are n in
    let q = same.back.follows entry answers (entered a b same.receives same.shared entry is) (subst (λ k. AreAnswers k answers) same.shared are) p.0 in
    let e : (unit_run a entry answers q.0).events ≡ shown ++ (p.1.0 ++ q.1.0) = q.1.1 ∙ ap (λ l. l ++ q.1.0) p.1.1 ∙ append_assoc shown p.1.0 q.1.0 in
    let none : p.1.0 ++ q.1.0 ≡ [] = return_last a.code q.0 (first_frame entry) answers shown (p.1.0 ++ q.1.0) e ends in
    let no_more : p.1.0 ≡ [] = front_none p.1.0 q.1.0 none in
    (p.0, subst EndsInReturn (sym (append-nil shown) ∙ ap (λ l. shown ++ l) (sym no_more) ∙ sym p.1.1) ends)

-- ---- UnitCheaper

-- a run that has returned counts what each run that has returned counts
pub cheaper_trans : (a b c : Machine) → UnitSame a b → UnitCheaper a b → UnitCheaper b c → UnitCheaper a c
cheaper_trans a b c same s t =
    record {
      cheaper = λ entry answers is are n m ends ends'.
          let p = ends_too a b same entry answers is are n ends in
          omega (arith, s.cheaper entry answers is are n p.0 ends p.1, t.cheaper entry answers (entered a b same.receives same.shared entry is) (subst (λ k. AreAnswers k answers) same.shared are) p.0 m p.1 ends');
    }
